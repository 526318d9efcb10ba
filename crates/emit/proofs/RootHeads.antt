-- The head of a root tape: heritage, scopes, and where the element or fragment stands (`scopes_at` and `read_root` of definitions, Reading).
--     inside_more, inside_end     the first scope that is no block and no arrow, scope by scope
--     ScopesLeft                  how far reading the scopes has come
--     left_begin, left_scope, left_over     from the first scope on
--     head_of, head_error         the whole head, by the heritage
-- Assumes nothing.
use Rattle.std.specs.Prelude.{Result, Ok, Err}
use mathlib.Core.Path.{◌≡◌, refl, sym, ap, subst, ◌∙◌}
use mathlib.Core.Bool.{Bool, true, false, cond, not, ◌&&◌, ◌||◌}
use mathlib.Core.List.{List, [], ◌∷◌}
use Prim.Native.Nat.{ℕ, zero, suc, ◌+◌, ◌-◌, ◌<◌}
use native.Mathlib.Omega.{arith}
use lib.ListN.{length, take, drop, length-drop}
use lib.Seq.{drop-drop}
use lib.Dec.{eqb, ltb}
use Rattle.text.proofs.Lists.{tail_part}
use Rattle.tape.specs.declared.refusal.Fault.TheVariants as fault
use Rattle.commands.specs.declared.error.CommandError.{CommandError}
use Rattle.commands.specs.declared.error.CommandError.TheVariants as error
use Rattle.commands.specs.declared.root.Heritage.{Heritage}
use Rattle.commands.specs.declared.root.ScopeKind.{ScopeKind}
use Rattle.commands.specs.declared.root.ScopeKind.TheVariants as kind
use Rattle.commands.specs.declared.root.ScopeCommand.{ScopeCommand}
use Rattle.commands.specs.declared.root.ScopeCommand.TheVariants as scopes
use Rattle.commands.specs.Root.{scope_with, scope_command, heritage_command}
use Rattle.commands.proofs.Lengths.{scope_fits}
use Rattle.definitions.specs.Judging.{Parsed, done, stop, ◌then◌, map, from}
use Rattle.definitions.specs.Tree.{Node, Root}
use Rattle.definitions.specs.Reading.{Scoped, in_scope, unscoped, is_function, opened, element_at, fragment_at, scopes_by, scopes_at, root_by, whole, read_root}
use Rattle.definitions.specs.Lowering.{inside_constructor, no_super_class, can_add_self}
use Rattle.emit.specs.declared.used.Used.{Used}
use Rattle.emit.specs.Heads.{is_constructor, NodeAt, element_headed, fragment_headed, ScopesOf, HeadOf}
use Rattle.emit.proofs.Readings.{stopped, map_done, from_done, in_part, part_short, Rest}

-- ---- the first scope that is no block and no arrow

inside_first : (k : ScopeKind) (ks : List ScopeKind) → inside_constructor (k ∷ ks) ≡ (is_constructor k || (not (is_function k) && inside_constructor ks))
unfolding inside_constructor
inside_first kind.Block ks = refl
inside_first kind.Arrow ks = refl
inside_first kind.Constructor ks = refl
inside_first kind.Function ks = refl

inside_more : (inside known : Bool) (k : ScopeKind) (ks : List ScopeKind) → (inside || (not known && inside_constructor (k ∷ ks)))
    ≡ ((inside || (not known && is_constructor k)) || (not (known || is_function k) && inside_constructor ks))
inside_more true known k ks = refl
inside_more false true k ks = refl
inside_more false false k ks = inside_first k ks

inside_end : (inside known : Bool) → (inside || (not known && inside_constructor [])) ≡ inside
unfolding inside_constructor
inside_end true known = refl
inside_end false true = refl
inside_end false false = refl

-- ---- reading

-- that a scope of kind 2 or 3 has come makes only more commands right
known_more : (known : Bool) (t : List ℕ) (c : ScopeCommand) → scope_command known t ≡ Ok c → scope_command true t ≡ Ok c
unfolding scope_command
known_more true t c e = e
known_more false [] c e = e
known_more false (x ∷ t) c e = go (eqb x 0x02) _ e
  where
    go : (y : Bool) (other : Result ScopeCommand CommandError) → cond y (scope_with t) (Err error.Wrong) ≡ Ok c → cond y (scope_with t) other ≡ Ok c
    go true other e = e
    go false other e = let z : ◌≡◌ {A = ℕ} 0 1 = cc in absurd (omega arith)

-- by the command at the front, with one turn less for what is behind it
record Turn (f : ℕ) (text : List ℕ) (known : Bool) (t : List ℕ) (c : Result ScopeCommand CommandError) (s : Scoped) (u : ℕ) : Type 0 where
  turns : ℕ
  fewer : f ≡ suc turns
  reads :
      scopes_by text t c
      (λ p. element_at turns text 0 p (drop 9 t))
      (λ p. fragment_at turns text 0 p (drop 9 t))
      (λ k. from 2 (scopes_at turns text (known || is_function k) (drop 2 t)))
      ≡ done s u

turn : (f : ℕ) (text : List ℕ) (known : Bool) (t : List ℕ) (s : Scoped) (u : ℕ) {c : Result ScopeCommand CommandError} → scope_command known t ≡ c → scopes_at f text known t ≡ done s u
    → Turn f text known t c s u
unfolding scopes_at
turn zero text known t s u q e = stopped e
turn (suc f) text known t s u q e = record { turns = f; fewer = refl; reads = rw q at e }

-- ---- a loop over the scopes

abbrev pub IsNoScope : Result ScopeCommand CommandError → Type 0
IsNoScope (Ok (scopes.Scope k)) = ⊥
IsNoScope (Ok (scopes.Element p)) = Unit {0}
IsNoScope (Ok (scopes.Fragment p)) = Unit {0}
IsNoScope (Err x) = Unit {0}

-- of t, t' is what is left: behind scopes of which those that count have been seen
pub record ScopesLeft (text t : List ℕ) (s : Scoped) (known inside : Bool) (t' : List ℕ) : Type 0 where
  pub turns : ℕ
  pub rest : Scoped
  pub size : ℕ
  pub enough : length t' < turns
  pub reads : scopes_at turns text known t' ≡ done rest size
  pub same : inside_constructor s.kinds ≡ (inside || (not known && inside_constructor rest.kinds))
  pub node : rest.node ≡ s.node

pub left_begin : {text t : List ℕ} {s : Scoped} {f u : ℕ} → length t < f → scopes_at f text false t ≡ done s u → ScopesLeft text t s false false t
left_begin {s = s} {f} {u} h e =
    record { turns = f; rest = s; size = u; enough = h; reads = e; same = refl; node = refl }

module _ {text t : List ℕ} {s : Scoped} {known inside : Bool} {t' : List ℕ} (l : ScopesLeft text t s known inside t') where
  at : {c : Result ScopeCommand CommandError} → scope_command known t' ≡ c → Turn l.turns text known t' c l.rest l.size
  at q = turn l.turns text known t' l.rest l.size q l.reads

  pub left_scope : {k : ScopeKind} {t'' : List ℕ} → scope_command known t' ≡ Ok (scopes.Scope k) → t'' ≡ drop 2 t'
      → ScopesLeft text t s (known || is_function k) (inside || (not known && is_constructor k)) t''
  unfolding scopes_by
  left_scope {k} q here =
      let b = at q in
      let m = map_done (in_scope k) (from 2 (scopes_at b.turns text (known || is_function k) (drop 2 t'))) b.reads in
      let r = from_done 2 (scopes_at b.turns text (known || is_function k) (drop 2 t')) m.1 in
      record {
        turns = b.turns;
        rest = m.0;
        size = r.0;
        enough = omega (arith, l.enough, b.fewer, ap length here, length-drop 2 t', scope_fits known t' q);
        reads = ap (scopes_at b.turns text (known || is_function k)) here ∙ r.1;
        same =
            l.same
            ∙ ap (λ (o : Scoped). inside || (not known && inside_constructor o.kinds)) (sym m.2)
            ∙ inside_more inside known k m.0.kinds;
        node = ap (λ (o : Scoped). o.node) m.2 ∙ l.node;
      }

  -- where the element or fragment stands, it is all that is left
  ended : (p : Parsed Node) → map unscoped p ≡ done l.rest l.size → (inside ≡ inside_constructor s.kinds) × (p ≡ done s.node l.size)
  ended p e =
      let m = map_done unscoped p e in (
        sym (l.same ∙ ap (λ (o : Scoped). inside || (not known && inside_constructor o.kinds)) (sym m.2) ∙ inside_end inside known),
        m.1 ∙ ap (λ (n : Node). done n l.size) (ap (λ (o : Scoped). o.node) m.2 ∙ l.node),
      )

  -- what is no scope is the element or fragment
  pub left_node : (x : Result ScopeCommand CommandError) → scope_command known t' ≡ x → IsNoScope x → (inside ≡ inside_constructor s.kinds) × NodeAt text t' s.node
  unfolding scopes_by
  left_node (Ok (scopes.Scope k)) q other = absurd other
  left_node (Ok (scopes.Element p)) q other =
      let b = at q in
      let e = ended (opened 0 p (element_at b.turns text 0 p (drop 9 t'))) b.reads in
      (e.0, element_headed p b.turns l.size (omega (arith, l.enough, b.fewer)) (known_more known t' (scopes.Element p) q) e.1)
  left_node (Ok (scopes.Fragment p)) q other =
      let b = at q in
      let e = ended (opened 0 p (fragment_at b.turns text 0 p (drop 9 t'))) b.reads in
      (e.0, fragment_headed p b.turns l.size (omega (arith, l.enough, b.fewer)) (known_more known t' (scopes.Fragment p) q) e.1)
  left_node (Err x) q other = stopped (at q).reads

  pub left_over : {x : Result ScopeCommand CommandError} → scope_command known t' ≡ x → IsNoScope x → (r : Rest t t') → {used : ℕ} → used + length t' ≡ length t
      → ScopesOf text t s (record { value = inside; used = used })
  left_over {x} q other r {used} e =
      let n = left_node x q other in
      let i : r.passed ≡ used = omega (arith, r.size) in
      record { inside = n.0; node = subst (λ (q : List ℕ). NodeAt text q s.node) (r.here ∙ ap (λ (k : ℕ). drop k t) i) n.1 }

-- ---- the whole head

whole_done : {A : Type 0} {x : A} {u : ℕ} (t : List ℕ) (p : Parsed A) → whole t p ≡ done x u → p ≡ done x u
unfolding whole ◌then◌
whole_done {A} {x} {u} t (done a v) e = go (ltb v (length t)) e
  where
    go : (b : Bool) → cond b (stop fault.Grammar v) (done a v) ≡ done x u → done a v ≡ done x u
    go true e = stopped e
    go false e = e
whole_done t (stop f p) e = stopped e

module _ (text t : List ℕ) (o : Root) (u : ℕ) (e : read_root text t ≡ done o u) where
  by_heritage : {c : Result Heritage CommandError} → heritage_command t ≡ c → root_by t c (from 2 (scopes_at (suc (length t)) text false (drop 2 t))) ≡ done o u
  unfolding read_root
  by_heritage {c} q = whole_done t (root_by t c (from 2 (scopes_at (suc (length t)) text false (drop 2 t)))) (rw q at e)

  pub head_of : {h : Heritage} {x : Bool} (r : Used Bool) → heritage_command t ≡ Ok h
      → ((f : ℕ) (s : Scoped) (v : ℕ) → length (take (length t - 2) (drop 2 t)) < f → scopes_at f text false (take (length t - 2) (drop 2 t)) ≡ done s v
      → ScopesOf text (take (length t - 2) (drop 2 t)) s r)
      → x ≡ (not r.value || no_super_class h) → HeadOf text t o (record { value = x; used = 2 + r.used })
  unfolding root_by
  head_of {h} r q scoped a =
      let d : map (λ s. record { heritage = h; scopes = s.kinds; node = s.node }) (from 2 (scopes_at (suc (length t)) text false (drop 2 t))) ≡ done o u = by_heritage q in
      let m = map_done {B = Root} (λ s. record { heritage = h; scopes = s.kinds; node = s.node }) (from 2 (scopes_at (suc (length t)) text false (drop 2 t))) d in
      let b = from_done 2 (scopes_at (suc (length t)) text false (drop 2 t)) m.1 in
      let s : ScopesOf text (drop 2 t) m.0 r =
      subst (λ (l : List ℕ). ScopesOf text l m.0 r) (tail_part t 2)
      (scoped (suc (length t)) m.0 b.0 (part_short t 2 (suc (length t)) (omega arith)) (in_part (scopes_at (suc (length t)) text false) t 2 b.1)) in
      record {
        allowed = a ∙ ap (λ (z : Bool). not z || no_super_class h) s.inside ∙ ap can_add_self m.2;
        node = subst (λ (l : List ℕ). NodeAt text l o.node) (drop-drop r.used 2 t) (subst (NodeAt text (drop r.used (drop 2 t))) (ap (λ (z : Root). z.node) m.2) s.node);
      }

  pub head_error : {A : Type 0} {x : CommandError} → heritage_command t ≡ Err x → A
  unfolding root_by
  head_error q = stopped (by_heritage q)
