-- Values and children written one at a time, and the loop over children.
-- Assumes nothing.
use Rattle.std.specs.Prelude.{Ok}
use mathlib.Core.Path.{◌≡◌, refl, sym, ap, subst, ◌∙◌}
use mathlib.Core.Bool.{Bool, true, false, ◌||◌}
use mathlib.Core.List.{List, []}
use Prim.Native.Nat.{ℕ, suc, ◌+◌, ◌-◌, ◌≤◌, ◌<◌}
use native.Mathlib.Omega.{arith}
use lib.ListN.{length, drop, length-drop}
use Rattle.text.specs.declared.spans.Span.{Span}
use Rattle.commands.specs.declared.root.Place.{Place}
use Rattle.commands.specs.declared.root.ValueCommand.TheVariants as values
use Rattle.commands.specs.declared.root.ChildCommand.TheVariants as children
use Rattle.commands.specs.Root.{value_command, child_command}
use Rattle.definitions.specs.declared.call_tape.Bare.TheVariants as bare
use Rattle.definitions.specs.declared.call_tape.WithByte.TheVariants as with_byte
use Rattle.definitions.specs.declared.call_tape.WithExpression.TheVariants as with_expression
use Rattle.definitions.specs.Judging.{done}
use Rattle.definitions.specs.Tree.{Node, Value, Children, text_child, node_child}
use Rattle.definitions.specs.Reading.{element_at, fragment_at, value_at, children_at}
use Rattle.definitions.specs.JsxText.{jsx_text}
use Rattle.definitions.specs.Lowering.{Context, put, put_byte, put_over, form_of, survivors, has_spread, lower_text, lower_node, lower_value, lower_children}
use Rattle.pen.specs.declared.pen.Pen.{Pen}
use Rattle.pen.specs.Emitting.{Short, Lent, Produced}
use Rattle.root_check.specs.InOrder.{Inside}
use Rattle.parts.specs.declared.jsx_impl.Items.{Items}
use Rattle.parts.specs.Promises.{IsText, TextWritten}
use Rattle.jsx.specs.Parts.{Written, Countable, ChildMoves, ChildStep, ChildrenGo, ChildrenWritten, children_object}
use Rattle.parts.proofs.Inversions.{Opening, Behind, value_element, value_fragment}
use Rattle.jsx.proofs.Nesting.{children_ended, children_error, children_text, children_expression, children_empty, children_spread, children_element, children_fragment}
use Rattle.pen.proofs.Emitting.{lent_none, lent_then, produced_none, produced_then, produced_as, produced_over}
use Rattle.parts.specs.Promises.{starts_with}
use Rattle.parts.proofs.Ends.{children_over, no_child}
use lib.Seq.{drop-drop}
use Rattle.emit.proofs.Readings.{Rest}
use Rattle.jsx.proofs.Turns.{Left, left_start, left_goes, left_ends, or_assoc, or_false}
use Rattle.jsx.proofs.Lowerings.{node_written, step_on, text_counts, expression_counts, empty_counts, spread_counts, node_counts, no_survivors, children_none, children_some}

-- a place whose numbers are not the greatest
pub countable : (p : Place) → p.line < 4294967296 → p.column < 4294967296 → (p.line ≡ 4294967295 → ⊥) → (p.column ≡ 4294967295 → ⊥) → Countable p
countable p l k h i = record { line = below p.line l h; column = below p.column k i }
  where
    below : (n : ℕ) → n < 4294967296 → (n ≡ 4294967295 → ⊥) → n < 4294967295
    below n l h = omega (arith, h)

-- ---- an element or a fragment behind its command of nine bytes

-- what the functions of elements and fragments promise of the part behind the nine bytes
abbrev pub ElementWritten : Context → List ℕ → Pen → Pen → ℕ → Place → Type 0
ElementWritten c part p p' used at =
    (f d : ℕ) (n : Node) (u : ℕ) → suc (length part) < f → element_at f c.text d at part ≡ done n u → Countable at
    → Written (lower_node c n) u p p' used

abbrev pub FragmentWritten : Context → List ℕ → Pen → Pen → ℕ → Type 0
FragmentWritten c part p p' used =
    (f d : ℕ) (at : Place) (n : Node) (u : ℕ) → suc (length part) < f → fragment_at f c.text d at part ≡ done n u → Written (lower_node c n) u p p' used

-- a child that is an element or a fragment
abbrev node_item : ℕ → Items
node_item used = record { used = 9 + used; count = 1; spread = false }

enough : (t part : List ℕ) → part ≡ drop 9 t → 9 ≤ length t → (f g : ℕ) → length t < f → f ≡ suc g → suc (length part) < g
enough t part here fits f g h e = omega (arith, ap length here, length-drop 9 t)

module _ (c : Context) (t : List ℕ) (part : List ℕ) (here : part ≡ drop 9 t) (fits : 9 ≤ length t) {p p' : Pen} {used : ℕ} where
  opened_element : (at : Place) → at.line < 4294967296 → at.column < 4294967296 → ElementWritten c part p p' used at → (f d : ℕ) (n : Node) (u : ℕ) → length t < f
      → (o : Opening (λ g l. element_at g c.text d at l) t f at n u) → Written (lower_node c n) o.took p p' used
  opened_element at l k w f d n u h o =
      w o.fuel d n o.took (enough t part here fits f o.fuel h o.turns) (ap (λ (q : List ℕ). element_at o.fuel c.text d at q) here ∙ o.reads)
      (countable at l k o.line o.column)

  opened_fragment : (at : Place) → FragmentWritten c part p p' used → (f d : ℕ) (n : Node) (u : ℕ) → length t < f
      → (o : Opening (λ g l. fragment_at g c.text d at l) t f at n u) → Written (lower_node c n) o.took p p' used
  opened_fragment at w f d n u h o =
      w o.fuel d at n o.took (enough t part here fits f o.fuel h o.turns) (ap (λ (q : List ℕ). fragment_at o.fuel c.text d at q) here ∙ o.reads)

  pub value_element_written : (at : Place) → value_command t ≡ Ok (values.Element at) → at.line < 4294967296 → at.column < 4294967296 → ElementWritten c part p p' used at
      → (f d : ℕ) (v : Value) (u : ℕ) → length t < f → value_at f c.text d t ≡ done v u → Written (lower_value c v) u p p' (9 + used)
  value_element_written at k l m w f d v u h e =
      let r = value_element c.text t d f at k e in
      node_written c r.1 r.2.used (opened_element at l m w f d r.0 u h r.2)

  pub value_fragment_written : (at : Place) → value_command t ≡ Ok (values.Fragment at) → FragmentWritten c part p p' used
      → (f d : ℕ) (v : Value) (u : ℕ) → length t < f → value_at f c.text d t ≡ done v u → Written (lower_value c v) u p p' (9 + used)
  value_fragment_written at k w f d v u h e =
      let r = value_fragment c.text t d f at k e in
      node_written c r.1 r.2.used (opened_fragment at w f d r.0 u h r.2)

  node_child_behind : (f d : ℕ) (k : Children) (u : ℕ) (n : Node) (took : ℕ) → Behind (λ g l. children_at g c.text d l) t f k u (9 + took) (node_child n)
      → Written (lower_node c n) took p p' used → ChildStep c d t p p' (node_item used) f k u
  unfolding lower_children
  node_child_behind f d k u n took B w =
      let B' : Behind (λ g l. children_at g c.text d l) t f k u (9 + used) (node_child n) =
      subst (λ (q : ℕ). Behind (λ g l. children_at g c.text d l) t f k u (9 + q) (node_child n)) (sym w.taken) B in
      step_on (λ g l. children_at g c.text d l) (lower_children c) (ChildrenGo c (node_item used)) t B' (lower_node c n) refl
      (node_counts c B'.rest n) w.wrote

  pub child_element : (at : Place) → child_command t ≡ Ok (children.Element at) → at.line < 4294967296 → at.column < 4294967296 → ElementWritten c part p p' used at
      → (f d : ℕ) (k : Children) (u : ℕ) → length t < f → children_at f c.text d t ≡ done k u → ChildStep c d t p p' (node_item used) f k u
  child_element at i l m w f d k u h e =
      let N = children_element c.text t d f at i e in
      node_child_behind f d k u N.child N.opening.took
      (subst (λ (q : ℕ). Behind (λ g l. children_at g c.text d l) t f k u q (node_child N.child)) N.opening.used N.behind)
      (opened_element at l m w f d N.child N.took h N.opening)

  pub child_fragment : (at : Place) → child_command t ≡ Ok (children.Fragment at) → FragmentWritten c part p p' used
      → (f d : ℕ) (k : Children) (u : ℕ) → length t < f → children_at f c.text d t ≡ done k u → ChildStep c d t p p' (node_item used) f k u
  child_fragment at i w f d k u h e =
      let N = children_fragment c.text t d f at i e in
      node_child_behind f d k u N.child N.opening.took
      (subst (λ (q : ℕ). Behind (λ g l. children_at g c.text d l) t f k u q (node_child N.child)) N.opening.used N.behind)
      (opened_fragment at w f d N.child N.took h N.opening)

-- ---- the other children

module _ (c : Context) (t : List ℕ) {p p' : Pen} where
  pub child_text : (s : Span) (r : Items) → child_command t ≡ Ok (children.Text s) → IsText r → (Inside c.text s → TextWritten c.text s p p' r)
      → (f d : ℕ) (k : Children) (u : ℕ) → children_at f c.text d t ≡ done k u → ChildStep c d t p p' r f k u
  unfolding lower_children
  child_text s r i T w f d k u e =
      let x = children_text c.text t d f s i e in
      let B : Behind (λ g l. children_at g c.text d l) t f k u 5 (text_child s) = x.0 in
      let W : TextWritten c.text s p p' r = w (record { inside = x.1; whole = x.2 }) in
      let n = text_counts c B.rest s r.count W.counted in
      record {
        fuel = B.fuel;
        turns = B.turns;
        rest = B.rest;
        size = B.size;
        reads = ap (λ (q : ℕ). children_at B.fuel c.text d (drop q t)) T.used ∙ B.reads;
        used = B.used ∙ ap (λ (q : ℕ). q + B.size) (sym T.used);
        output = lower_text (jsx_text c.text s);
        outs = ap (lower_children c) B.is;
        goes = (ap (survivors c) B.is ∙ n.0, ap has_spread B.is ∙ n.1 ∙ ap (λ (b : Bool). b || has_spread B.rest) (sym T.bare));
        wrote = W.wrote;
      }

module _ (c : Context) (t : List ℕ) {p p' : Pen} where
  pub child_expression : (x : ℕ) → child_command t ≡ Ok (children.Expression x) → Produced (put_over with_expression.Expression x) p p'
      → (f d : ℕ) (k : Children) (u : ℕ) → children_at f c.text d t ≡ done k u
      → ChildStep c d t p p' (record { used = 3; count = 1; spread = false }) f k u
  unfolding lower_children
  child_expression x i w f d k u e =
      let r : Items = record { used = 3; count = 1; spread = false } in
      let B = children_expression c.text t d f x i e in
      step_on (λ g l. children_at g c.text d l) (lower_children c) (ChildrenGo c r) t B (put_over with_expression.Expression x) refl
      (expression_counts c B.rest x) w

  pub child_spread : (x : ℕ) → child_command t ≡ Ok (children.Spread x) → Produced (put_over with_expression.SpreadItem x) p p'
      → (f d : ℕ) (k : Children) (u : ℕ) → children_at f c.text d t ≡ done k u
      → ChildStep c d t p p' (record { used = 3; count = 1; spread = true }) f k u
  unfolding lower_children
  child_spread x i w f d k u e =
      let r : Items = record { used = 3; count = 1; spread = true } in
      let B = children_spread c.text t d f x i e in
      step_on (λ g l. children_at g c.text d l) (lower_children c) (ChildrenGo c r) t B (put_over with_expression.SpreadItem x) refl
      (spread_counts c B.rest x) w

module _ (c : Context) (t : List ℕ) (p : Pen) where
  pub child_empty : Short p → child_command t ≡ Ok children.Empty → (f d : ℕ) (k : Children) (u : ℕ) → children_at f c.text d t ≡ done k u
      → ChildStep c d t p p (record { used = 1; count = 0; spread = false }) f k u
  unfolding lower_children
  child_empty short i f d k u e =
      let r : Items = record { used = 1; count = 0; spread = false } in
      let B = children_empty c.text t d f i e in
      step_on (λ g l. children_at g c.text d l) (lower_children c) (ChildrenGo c r) t B [] refl (empty_counts c B.rest) (produced_none short)

-- ---- the loop over children

pub record SoFar (c : Context) (k : Children) (count : ℕ) (spread : Bool) (rest : Children) : Type 0 where
  pub counted : survivors c k ≡ count + survivors c rest
  pub spreads : has_spread k ≡ (spread || has_spread rest)

-- of t, q is what is left
pub record KidsLeft (c : Context) (t q : List ℕ) (p₀ p : Pen) (count : ℕ) (spread : Bool) : Type 0 where
  pub lent : Lent p₀ p
  pub rest : Rest t q
  pub few : count ≤ rest.passed
  pub left : (f d : ℕ) (k : Children) (u : ℕ) → length t < f → children_at f c.text d t ≡ done k u
      → Left (λ g l. children_at g c.text d l) (lower_children c) (SoFar c k count spread) t k u p₀ p rest.passed

pub kids_start : (c : Context) (t : List ℕ) {p : Pen} → Short p → KidsLeft c t t p p 0 false
kids_start c t short =
    record {
      lent = lent_none;
      rest = record { passed = 0; here = refl; size = omega arith };
      few = omega arith;
      left =
          λ f d k u h e. left_start (λ g l. children_at g c.text d l) (lower_children c) t f k u short h e (record { counted = omega arith; spreads = refl });
    }

module _ {c : Context} {t q : List ℕ} {p₀ p : Pen} {count : ℕ} {spread : Bool} (K : KidsLeft c t q p₀ p count spread) where
  pub kids_inside : K.rest.passed ≤ length t
  kids_inside = omega (arith, K.rest.size)

  pub kids_go : {p₁ : Pen} {q' : List ℕ} (r : Items) → ChildMoves (length q) r → q' ≡ drop r.used q → Lent p p₁
      → ((f d : ℕ) (k : Children) (u : ℕ) → length q < f → children_at f c.text d q ≡ done k u → ChildStep c d q p p₁ r f k u)
      → KidsLeft c t q' p₀ p₁ (count + r.count) (spread || r.spread)
  kids_go r moves here lent step =
      record {
        lent = lent_then K.lent lent;
        rest = record {
          passed = K.rest.passed + r.used;
          here = here ∙ ap (λ (l : List ℕ). drop r.used l) K.rest.here ∙ drop-drop r.used K.rest.passed t;
          size = omega (arith, K.rest.size, ap length here, length-drop r.used q, moves.0);
        };
        few = omega (arith, K.few, moves.2);
        left =
            λ f d k u h e. left_goes (λ g l. children_at g c.text d l) (lower_children c) t q K.rest.here (λ g y v. step g d y v) kids_inside (K.left f d k u h e)
            moves.1
            (λ g y z m G S. record {
              counted = omega (arith, S.counted, G.0);
              spreads = S.spreads ∙ ap (λ (b : Bool). spread || b) G.1 ∙ or_assoc spread r.spread (has_spread z);
            });
      }

  -- the end, seen by its first byte
  pub kids_over : starts_with 0x1f q ≡ true → length q ≤ length t → (f d : ℕ) (k : Children) (u : ℕ) → length t < f → children_at f c.text d t ≡ done k u
      → ChildrenWritten c k (lower_children c k) u p₀ p (record { used = length t - length q + 1; count = count; spread = spread })
  unfolding lower_children survivors has_spread
  kids_over over less f d k u h e =
      let R = K.left f d k u h e in
      let z = children_ended c.text q d R.fuel (children_over q over) (ap (λ (l : List ℕ). children_at R.fuel c.text d l) K.rest.here ∙ R.reads) in
      record {
        taken = omega (arith, R.used, z.1, K.rest.size);
        counted = sym (R.also.counted ∙ ap (λ (l : Children). count + survivors c l) z.0 ∙ (let n : count + 0 ≡ count = omega arith in n));
        spreads = sym (R.also.spreads ∙ ap (λ (l : Children). spread || has_spread l) z.0 ∙ or_false spread);
        wrote = left_ends (λ g l. children_at g c.text d l) (lower_children c) t R (ap (lower_children c) z.0);
      }

  -- a tape that reads goes on to the end
  pub kids_never : {A : Type 0} → length q ≡ 0 → (f d : ℕ) (k : Children) (u : ℕ) → length t < f → children_at f c.text d t ≡ done k u → A
  kids_never empty f d k u h e =
      let R = K.left f d k u h e in
      absurd (children_error c.text q d R.fuel (no_child q empty) (ap (λ (l : List ℕ). children_at R.fuel c.text d l) K.rest.here ∙ R.reads))

-- ---- the children of an automatic call and the end of its object

module _ (c : Context) {p₀ p₁ p₂ : Pen}
    (begun : Produced (put bare.ChildrenBegin) p₀ p₁) (r : Items) {k : Children} {u : ℕ} (W : ChildrenWritten c k (lower_children c k) u p₁ p₂ r) where
  pub object_bare : {p₃ : Pen} → r.count ≡ 0 → Produced (put bare.ObjectEnd) (record p₂ { at = record p₂.at { calls = p₀.at.calls } }) p₃
      → ChildrenWritten c k (children_object c k) u p₀ p₃ r
  object_bare z w =
      let n : survivors c k ≡ 0 = sym W.counted ∙ z in
      record {
        taken = W.taken;
        counted = W.counted;
        spreads = W.spreads;
        wrote = produced_as (sym (children_none c k n)) (produced_over (produced_then begun (produced_as (no_survivors c k n) W.wrote)) w);
      }

  pub object_full : (n : ℕ) {p₃ p₄ : Pen} → (r.count ≡ 0 → ⊥) → n ≡ form_of r.count r.spread → Produced (put_byte with_byte.ChildrenEnd n) p₂ p₃
      → Produced (put bare.ObjectEnd) p₃ p₄
      → ChildrenWritten c k (children_object c k) u p₀ p₄ r
  object_full n {p₃ = p₃} z e v w =
      let form : n ≡ form_of (survivors c k) (has_spread k) =
      e ∙ ap (λ (m : ℕ). form_of m r.spread) W.counted ∙ ap (λ (b : Bool). form_of (survivors c k) b) W.spreads in
      let formed : Produced (put_byte with_byte.ChildrenEnd (form_of (survivors c k) (has_spread k))) p₂ p₃ =
      subst (λ (m : ℕ). Produced (put_byte with_byte.ChildrenEnd m) p₂ p₃) form v in
      record {
        taken = W.taken;
        counted = W.counted;
        spreads = W.spreads;
        wrote =
            produced_as (sym (children_some c k (λ h. z (W.counted ∙ h))))
            (produced_then (produced_then (produced_then begun W.wrote) formed) w);
      }
