-- What a reading of children, of an element or of a fragment that succeeded is made of (as Inversions of parts).
-- Assumes nothing.
use Rattle.std.specs.Prelude.{Ok, Err}
use mathlib.Core.Path.{◌≡◌, refl, sym, ap, ◌∙◌}
use mathlib.Core.List.{List}
use Prim.Native.Nat.{ℕ, zero, suc, ◌+◌}
use lib.ListN.{drop}
use Rattle.text.specs.declared.spans.Span.{Span}
use Rattle.text.specs.declared.spans.Bounds.TheVariants.{Outside, Cuts}
use Rattle.text.specs.Spans.{bounds_of}
use Rattle.commands.specs.declared.error.CommandError.{CommandError}
use Rattle.commands.specs.declared.root.Place.{Place}
use Rattle.commands.specs.declared.root.ChildCommand.TheVariants as children
use Rattle.commands.specs.Root.{child_command}
use Rattle.definitions.specs.Judging.{Parsed, done, ◌then◌, map, from}
use Rattle.definitions.specs.Tree.{Name, Node, element, fragment, Attributes, Children, no_children, text_child, expression_child, empty_child, spread_child, node_child}
use Rattle.definitions.specs.Reading.{opened, children_by, name_at, element_at, fragment_at, attributes_at, children_at}
use Rattle.parts.proofs.Inversions.{never, from_done, lettered_done, opened_done, then_done, map_done, Behind, mapped, Opening}

-- ---- children

module _ (text t : List ℕ) (d : ℕ) where
  abbrev pub children_read : ℕ → List ℕ → Parsed Children
  children_read f l = children_at f text d l

  -- a child that is an element or a fragment, with more children behind it
  pub record NodeFirst (node : ℕ → List ℕ → Parsed Node) (f : ℕ) (at : Place) (k : Children) (u : ℕ) : Type 0 where
    pub child : Node
    pub took : ℕ
    pub opening : Opening node t f at child took
    pub behind : Behind children_read t f k u took (node_child child)

  pub children_ended : (f : ℕ) {k : Children} {u : ℕ} → child_command t ≡ Ok children.End → children_at f text d t ≡ done k u → (k ≡ no_children) × (u ≡ 1)
  unfolding children_at children_by
  children_ended zero c e = never e
  children_ended (suc f) {k} {u} c e = let h : done no_children 1 ≡ done k u = rw c at e in (cc, cc)

  pub children_error : (f : ℕ) {k : Children} {u : ℕ} {x : CommandError} → child_command t ≡ Err x → children_at f text d t ≡ done k u → ⊥
  unfolding children_at children_by
  children_error zero c e = never e
  children_error (suc f) c e = never (rw c at e)

  pub children_text : (f : ℕ) (s : Span) {k : Children} {u : ℕ} → child_command t ≡ Ok (children.Text s) → children_at f text d t ≡ done k u
      → Behind children_read t f k u 5 (text_child s) × (bounds_of text s ≡ Outside → ⊥) × (bounds_of text s ≡ Cuts → ⊥)
  unfolding children_at children_by
  children_text zero s c e = never e
  children_text (suc f) s c e =
      let l = lettered_done text s (map (text_child s) (from 5 (children_at f text d (drop 5 t)))) (rw c at e) in
      (mapped children_read t f 5 (text_child s) l.0, l.1, l.2)

  pub children_expression : (f x : ℕ) {k : Children} {u : ℕ} → child_command t ≡ Ok (children.Expression x) → children_at f text d t ≡ done k u
      → Behind children_read t f k u 3 (expression_child x)
  unfolding children_at children_by
  children_expression zero x c e = never e
  children_expression (suc f) x c e = mapped children_read t f 3 (expression_child x) (rw c at e)

  pub children_empty : (f : ℕ) {k : Children} {u : ℕ} → child_command t ≡ Ok children.Empty → children_at f text d t ≡ done k u
      → Behind children_read t f k u 1 empty_child
  unfolding children_at children_by
  children_empty zero c e = never e
  children_empty (suc f) c e = mapped children_read t f 1 empty_child (rw c at e)

  pub children_spread : (f x : ℕ) {k : Children} {u : ℕ} → child_command t ≡ Ok (children.Spread x) → children_at f text d t ≡ done k u
      → Behind children_read t f k u 3 (spread_child x)
  unfolding children_at children_by
  children_spread zero x c e = never e
  children_spread (suc f) x c e = mapped children_read t f 3 (spread_child x) (rw c at e)

  pub children_element : (f : ℕ) (p : Place) {k : Children} {u : ℕ} → child_command t ≡ Ok (children.Element p) → children_at f text d t ≡ done k u
      → NodeFirst (λ g l. element_at g text d p l) f p k u
  unfolding children_at children_by
  children_element zero p c e = never e
  children_element (suc f) p {k} {u} c e =
      let a = then_done (opened d p (element_at f text d p (drop 9 t))) (λ n v. map (node_child n) (from v (children_at f text d (drop v t)))) (rw c at e) in
      let o = opened_done d p (element_at f text d p (drop 9 t)) a.2 in
      record {
        child = a.0;
        took = a.1;
        opening = record { fuel = f; turns = refl; took = o.0; reads = o.1; used = o.2; line = o.3; column = o.4 };
        behind = mapped children_read t f a.1 (node_child a.0) a.3;
      }

  pub children_fragment : (f : ℕ) (p : Place) {k : Children} {u : ℕ} → child_command t ≡ Ok (children.Fragment p) → children_at f text d t ≡ done k u
      → NodeFirst (λ g l. fragment_at g text d p l) f p k u
  unfolding children_at children_by
  children_fragment zero p c e = never e
  children_fragment (suc f) p {k} {u} c e =
      let a = then_done (opened d p (fragment_at f text d p (drop 9 t))) (λ n v. map (node_child n) (from v (children_at f text d (drop v t)))) (rw c at e) in
      let o = opened_done d p (fragment_at f text d p (drop 9 t)) a.2 in
      record {
        child = a.0;
        took = a.1;
        opening = record { fuel = f; turns = refl; took = o.0; reads = o.1; used = o.2; line = o.3; column = o.4 };
        behind = mapped children_read t f a.1 (node_child a.0) a.3;
      }

-- ---- elements and fragments

-- what an element behind its 10 and place is made of; at is the size of its name
pub record Parts (text : List ℕ) (d : ℕ) (at : Place) (t : List ℕ) (f : ℕ) (n : Node) (u : ℕ) : Type 0 where
  pub fuel : ℕ
  pub turns : f ≡ suc fuel
  pub name : Name
  pub named : ℕ
  pub attrs : Attributes
  pub attributed : ℕ
  pub kids : Children
  pub size : ℕ
  pub name_reads : name_at fuel text t ≡ done name named
  pub attributes_reads : attributes_at fuel text (suc d) (drop named t) ≡ done attrs attributed
  pub children_reads : children_at fuel text (suc d) (drop (named + attributed) t) ≡ done kids size
  pub is : n ≡ element at name attrs kids
  pub used : u ≡ named + attributed + size

pub element_parts : (text : List ℕ) (d : ℕ) (at : Place) (t : List ℕ) (f : ℕ) {n : Node} {u : ℕ} → element_at f text d at t ≡ done n u → Parts text d at t f n u
unfolding element_at
element_parts text d at t zero e = never e
element_parts text d at t (suc f) {n} {u} e =
    let a = then_done (name_at f text t) (λ m v. from v (attributes_at f text (suc d) (drop v t)) then λ b w. map (element at m b) (from w (children_at f text (suc d) (drop w t)))) e in
    let b = then_done (from a.1 (attributes_at f text (suc d) (drop a.1 t))) (λ b w. map (element at a.0 b) (from w (children_at f text (suc d) (drop w t)))) a.3 in
    let p = from_done a.1 (attributes_at f text (suc d) (drop a.1 t)) b.2 in
    let m = map_done (element at a.0 b.0) (from b.1 (children_at f text (suc d) (drop b.1 t))) b.3 in
    let r = from_done b.1 (children_at f text (suc d) (drop b.1 t)) m.1 in
    record {
      fuel = f;
      turns = refl;
      name = a.0;
      named = a.1;
      attrs = b.0;
      attributed = p.0;
      kids = m.0;
      size = r.0;
      name_reads = a.2;
      attributes_reads = p.1;
      children_reads = ap (λ (q : ℕ). children_at f text (suc d) (drop q t)) (sym p.2) ∙ r.1;
      is = m.2;
      used = r.2 ∙ ap (λ (q : ℕ). q + r.0) p.2;
    }

pub fragment_parts : (text : List ℕ) (d : ℕ) (at : Place) (t : List ℕ) (f : ℕ) {n : Node} {u : ℕ} → fragment_at f text d at t ≡ done n u
    → (g : ℕ) × (f ≡ suc g) × (k : Children) × (children_at g text (suc d) t ≡ done k u) × (n ≡ fragment at k)
unfolding fragment_at
fragment_parts text d at t zero e = never e
fragment_parts text d at t (suc f) e = let m = map_done (fragment at) (children_at f text (suc d) t) e in (f, refl, m.0, m.1, m.2)
