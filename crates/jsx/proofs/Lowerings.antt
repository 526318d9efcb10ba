-- What is written by parts is what the definition lowers: values, children one at a time, attributes one at a time, whole calls.
-- Assumes nothing.
use Rattle.std.specs.Prelude.{Option, None, Some, Ok}
use mathlib.Core.Path.{◌≡◌, refl, sym, ap, subst, ◌∙◌}
use mathlib.Core.Bool.{Bool, true, false, cond, not, ◌||◌, ◌&&◌}
use mathlib.Core.List.{List, [], ◌∷◌, ◌++◌, append_assoc}
use Prim.Native.Nat.{ℕ, suc, ◌+◌, ◌<◌}
use native.Mathlib.Omega.{arith}
use lib.ListN.{length, drop}
use lib.Seq.{drop-drop}
use borrow.Author.Tests.{eq-eqb, ne_eqb}
use Rattle.text.specs.declared.spans.Span.{Span}
use Rattle.commands.specs.declared.root.Place.{Place}
use Rattle.commands.specs.declared.root.ValueCommand.TheVariants as values
use Rattle.commands.specs.Root.{value_command}
use Rattle.definitions.specs.declared.call_tape.Bare.TheVariants as bare
use Rattle.definitions.specs.declared.call_tape.WithByte.TheVariants as with_byte
use Rattle.definitions.specs.declared.call_tape.WithExpression.TheVariants as with_expression
use Rattle.definitions.specs.Judging.{Parsed, done}
use Rattle.definitions.specs.Tree.{Name, Node, element, fragment, Attributes, attribute, Value, node_value, Children, no_children, text_child, expression_child, empty_child, spread_child, node_child}
use Rattle.definitions.specs.Reading.{value_at}
use Rattle.definitions.specs.JsxText.{jsx_text}
use Rattle.definitions.specs.Lowering.{Context, Output, put, put_byte, put_over, piece, quoted, callee_named, pure_byte, closing, classic_call, classic_element, is_classic, automatic_call, automatic_name, children_property, form_of, static_children, object_of, survivors, has_spread, some_line, lower_text, is_key, has_value, key_notice, attribute_name, lower_attributes, lower_key, lower_node, lower_value, lower_children}
use Rattle.definitions.specs.Store.{create_element}
use Rattle.pen.specs.declared.pen.Pen.{Pen}
use Rattle.pen.specs.Emitting.{Produced}
use Rattle.parts.specs.Promises.{some_output, newer}
use Rattle.jsx.specs.Parts.{Written, KeyFirst, other, first, KeyAt, without_key, key_at, children_object, Step, classic_call_of, automatic_element, classic_properties, classic_fragment, automatic_fragment}
use Rattle.parts.proofs.Inversions.{Behind, value_absent, value_empty, value_expression, value_text}
use Rattle.pen.proofs.Emitting.{produced_then, produced_as}

-- ---- values

module _ (c : Context) (text t : List ℕ) (f d : ℕ) (v : Value) (u : ℕ) (e : value_at f text d t ≡ done v u) {p p' : Pen} where
  pub absent_written : value_command t ≡ Ok values.Absent → Produced (put bare.LiteralTrue) p p' → Written (lower_value c v) u p p' 1
  unfolding lower_value
  absent_written k w =
      let r = value_absent text t d f k e in
      record { taken = sym r.1; wrote = produced_as (sym (ap (lower_value c) r.0)) w }

  pub empty_written : value_command t ≡ Ok values.Empty → Produced (put bare.LiteralTrue) p p' → Written (lower_value c v) u p p' 1
  unfolding lower_value
  empty_written k w =
      let r = value_empty text t d f k e in
      record { taken = sym r.1; wrote = produced_as (sym (ap (lower_value c) r.0)) w }

  pub text_written : (s : Span) → value_command t ≡ Ok (values.Text s) → Produced (quoted (piece s)) p p' → Written (lower_value c v) u p p' 5
  unfolding lower_value
  text_written s k w =
      let r = value_text text t d f s k e in
      record { taken = sym r.1; wrote = produced_as (sym (ap (lower_value c) r.0)) w }

  pub expression_written : (x : ℕ) → value_command t ≡ Ok (values.Expression x) → Produced (put_over with_expression.Expression x) p p'
      → Written (lower_value c v) u p p' 3
  unfolding lower_value
  expression_written x k w =
      let r = value_expression text t d f x k e in
      record { taken = sym r.1; wrote = produced_as (sym (ap (lower_value c) r.0)) w }

-- an element or a fragment, behind its command of nine bytes
pub node_written : (c : Context) {v : Value} {n : Node} {u took used : ℕ} {p p' : Pen} → v ≡ node_value n → u ≡ 9 + took
    → Written (lower_node c n) took p p' used → Written (lower_value c v) u p p' (9 + used)
unfolding lower_value
node_written c i h w = record { taken = ap (λ (q : ℕ). 9 + q) w.taken ∙ sym h; wrote = produced_as (sym (ap (lower_value c) i)) w.wrote }

-- ---- one of a list

module _ {A : Type 0} (read : ℕ → List ℕ → Parsed A) (out : A → List Output) (Goes : List ℕ → ℕ → A → A → Type 0) (t : List ℕ)
    {p p' : Pen} {f u : ℕ} {x : A} where
  -- it goes on behind n bytes: the list is g of the rest
  pub step_on : {n : ℕ} {g : A → A} (B : Behind read t f x u n g) (os : List Output) → out (g B.rest) ≡ os ++ out B.rest
      → Goes t B.fuel (g B.rest) B.rest → Produced os p p' → Step read out Goes t p p' n f x u
  step_on {n} {g} B os h m w = record {
    fuel = B.fuel;
    turns = B.turns;
    rest = B.rest;
    size = B.size;
    reads = B.reads;
    used = B.used;
    output = os;
    outs = ap out B.is ∙ h;
    goes = subst (λ (y : A). Goes t B.fuel y B.rest) (sym B.is) m;
    wrote = w;
  }

-- ---- calls

-- the end of a call: its tag, its callee and whether it is pure
module _ (c : Context) where
  pub closing_written : (n : ℕ) {front tag : List Output} {p₀ p₁ p₂ p₃ p₄ : Pen}
      → Produced front p₀ p₁ → Produced (put bare.Tag) p₁ p₂ → Produced tag p₂ p₃
      → Produced (put bare.Callee ++ callee_named c.settings.mode n ++ put_byte with_byte.CallEnd (pure_byte c.settings.pure)) p₃ p₄
      → Produced (front ++ closing c tag n) p₀ p₄
  closing_written n {front} {tag} v t w z =
      produced_as (simp append_assoc) (produced_then (produced_then (produced_then v t) w) z)

  -- a classic call
  pub classic_written : {argument items tag : List Output} {p₀ p₁ p₂ p₃ p₄ p₅ p₆ : Pen}
      → Produced (put_byte with_byte.Call 0) p₀ p₁ → Produced argument p₁ p₂ → Produced items p₂ p₃
      → Produced (put bare.Tag) p₃ p₄ → Produced tag p₄ p₅
      → Produced (put bare.Callee ++ callee_named c.settings.mode create_element ++ put_byte with_byte.CallEnd (pure_byte c.settings.pure)) p₅ p₆
      → Produced (classic_call c argument items tag) p₀ p₆
  unfolding classic_call
  classic_written b a i t w z = closing_written create_element (produced_then (produced_then b a) i) t w z

  -- an automatic call
  pub automatic_written : (k : Children) {properties key added tag : List Output}
      {p₀ p₁ p₂ p₃ p₄ p₅ p₆ p₇ p₈ p₉ p₁₀ : Pen}
      → Produced (put_byte with_byte.Call 1) p₀ p₁ → Produced (put bare.ObjectBegin) p₁ p₂ → Produced properties p₂ p₃
      → Produced (children_object c k) p₃ p₄ → Produced key p₄ p₅ → Produced (static_children c (survivors c k)) p₅ p₆
      → Produced added p₆ p₇ → Produced (put bare.Tag) p₇ p₈ → Produced tag p₈ p₉
      → Produced (put bare.Callee ++ callee_named c.settings.mode (automatic_name c (survivors c k)) ++ put_byte with_byte.CallEnd (pure_byte c.settings.pure))
      p₉ p₁₀
      → Produced (automatic_call c properties k (lower_children c k) key added tag) p₀ p₁₀
  unfolding automatic_call children_object
  automatic_written k {properties} {key} {added} {tag} {p₃ = p₃} {p₄} b o ps ks q st ad t w z =
      let inside : Produced (children_property (survivors c k) (form_of (survivors c k) (has_spread k)) (lower_children c k) ++ put bare.ObjectEnd) p₃ p₄ =
      ks in
      let front = (put_byte with_byte.Call 1 ++ put bare.ObjectBegin) ++ properties in
      let items = children_property (survivors c k) (form_of (survivors c k) (has_spread k)) (lower_children c k) in
      closing_written (automatic_name c (survivors c k))
      (produced_then
      (produced_then
      (produced_then
      (produced_as (sym (append_assoc front items (put bare.ObjectEnd))) (produced_then (produced_then (produced_then b o) ps) inside))
      q)
      st)
      ad)
      t w z

-- ---- children

pub no_survivors : (c : Context) (k : Children) → survivors c k ≡ 0 → lower_children c k ≡ []
unfolding survivors lower_children some_line lower_text
no_survivors c no_children h = refl
no_survivors c (text_child s k) h = go (jsx_text c.text s) h (λ i. no_survivors c k i)
  where
    go : (ls : List Span) → some_line ls + survivors c k ≡ 0 → (survivors c k ≡ 0 → lower_children c k ≡ []) → lower_text ls ++ lower_children c k ≡ []
    go [] h i = i (omega arith)
    go (l ∷ ls) h i = absurd (omega arith)
no_survivors c (expression_child e k) h = absurd (omega arith)
no_survivors c (empty_child k) h = no_survivors c k h
no_survivors c (spread_child e k) h = absurd (omega arith)
no_survivors c (node_child n k) h = absurd (omega arith)

pub children_none : (c : Context) (k : Children) → survivors c k ≡ 0 → children_object c k ≡ put bare.ObjectEnd
unfolding children_object children_property
children_none c k h = rw (eq-eqb (survivors c k) 0 h) refl

pub children_some : (c : Context) (k : Children) → (survivors c k ≡ 0 → ⊥)
    → children_object c k
    ≡ ((put bare.ChildrenBegin ++ lower_children c k) ++ put_byte with_byte.ChildrenEnd (form_of (survivors c k) (has_spread k))) ++ put bare.ObjectEnd
unfolding children_object children_property
children_some c k h = rw (ne_eqb (survivors c k) 0 h) refl

-- ---- the object of a classic call

pub object_null : (os : List Output) → some_output os ≡ false → (os ≡ []) × (object_of os ≡ put bare.Null)
unfolding some_output object_of
object_null [] h = (refl, refl)
object_null (o ∷ os) h = let z : ◌≡◌ {A = ℕ} 0 1 = cc in absurd (omega arith)

pub object_some : (os : List Output) → some_output os ≡ true → object_of os ≡ (put bare.ObjectBegin ++ os) ++ put bare.ObjectEnd
unfolding some_output object_of
object_some [] h = let z : ◌≡◌ {A = ℕ} 0 1 = cc in absurd (omega arith)
object_some (o ∷ os) h = refl

-- ---- which call a node becomes

module _ (c : Context) (p : Place) (n : Name) (a : Attributes) (k : Children) where
  pub element_classic : classic_element c a ≡ true → lower_node c (element p n a k) ≡ classic_call_of c p n a k
  unfolding lower_node classic_call_of classic_properties
  element_classic h = rw h refl

  pub element_automatic : classic_element c a ≡ false → lower_node c (element p n a k) ≡ automatic_element c p n a k
  unfolding lower_node automatic_element
  element_automatic h = rw h refl

module _ (c : Context) (p : Place) (k : Children) where
  pub fragment_classic : is_classic c.settings.mode ≡ true → lower_node c (fragment p k) ≡ classic_fragment c k
  unfolding lower_node classic_fragment
  fragment_classic h = rw h refl

  pub fragment_automatic : is_classic c.settings.mode ≡ false → lower_node c (fragment p k) ≡ automatic_fragment c k
  unfolding lower_node automatic_fragment
  fragment_automatic h = rw h refl

-- ---- the last key's place, attribute by attribute

-- of the attributes a, those from here on are `rest`, and the key found so far stands at `key`
pub record KeySoFar (c : Context) (d : ℕ) (t : List ℕ) (a : Attributes) (given : List Output) (key : Option ℕ) (rest : Attributes) : Type 0 where
  pub output : List Output
  pub place : KeyAt c d t given key output
  pub same : lower_key c a given ≡ lower_key c rest output

pub key_start : (c : Context) (d : ℕ) (t : List ℕ) (a : Attributes) (given : List Output) → KeySoFar c d t a given None a
key_start c d t a given = record { output = given; place = without_key; same = refl }

module _ (c : Context) (d : ℕ) (t : List ℕ) (a : Attributes) (given : List Output) (i : ℕ) where
  pub key_goes : (key k : Option ℕ) (f : ℕ) (y z : Attributes) → length t < i + suc f → KeyFirst c d (drop i t) k f y z → KeySoFar c d t a given key y
      → KeySoFar c d t a given (newer i k key) z
  unfolding newer
  key_goes key k f y z enough (other h e) S =
      let r : KeySoFar c d t a given key z = record { output = S.output; place = S.place; same = S.same ∙ e S.output } in
      rw h r
  key_goes key k f y z enough (first n v u h one r e) S =
      let q : KeySoFar c d t a given (Some (i + n)) z =
      record {
        output = put bare.Key ++ lower_value c v;
        place = key_at (i + n) f u v (omega arith) (ap (λ (l : List ℕ). value_at f c.text d l) (sym (drop-drop n i t)) ∙ r);
        same = S.same ∙ e S.output;
      } in
      rw h q

-- ---- children, one at a time: what a step says of the counts

module _ (c : Context) (k : Children) where
  pub text_counts : (s : Span) (n : ℕ) → n ≡ some_line (jsx_text c.text s)
      → (survivors c (text_child s k) ≡ n + survivors c k) × (has_spread (text_child s k) ≡ (false || has_spread k))
  unfolding survivors has_spread
  text_counts s n h = (ap (λ (q : ℕ). q + survivors c k) (sym h), refl)

  pub expression_counts : (x : ℕ) → (survivors c (expression_child x k) ≡ 1 + survivors c k) × (has_spread (expression_child x k) ≡ (false || has_spread k))
  unfolding survivors has_spread
  expression_counts x = (omega arith, refl)

  pub empty_counts : (survivors c (empty_child k) ≡ 0 + survivors c k) × (has_spread (empty_child k) ≡ (false || has_spread k))
  unfolding survivors has_spread
  empty_counts = (omega arith, refl)

  pub spread_counts : (x : ℕ) → (survivors c (spread_child x k) ≡ 1 + survivors c k) × (has_spread (spread_child x k) ≡ (true || has_spread k))
  unfolding survivors has_spread
  spread_counts x = (omega arith, refl)

  pub node_counts : (n : Node) → (survivors c (node_child n k) ≡ 1 + survivors c k) × (has_spread (node_child n k) ≡ (false || has_spread k))
  unfolding survivors has_spread
  node_counts n = (omega arith, refl)

-- ---- attributes, one at a time: what a step writes

module _ (c : Context) (classic : Bool) (s : Span) (v : Value) (a : Attributes) where
  -- a key with a value is no property of an automatic call
  pub key_passed : (is_key c s && has_value v) ≡ true → classic ≡ false → lower_attributes c classic (attribute s v a) ≡ [] ++ lower_attributes c classic a
  unfolding lower_attributes
  key_passed h i = go (is_key c s && has_value v) (not classic) _ _ h (ap not i)
    where
      go : (x y : Bool) (p q : List Output) → x ≡ true → y ≡ true → cond (x && y) p q ≡ p
      go x y p q h i = rw (h, i) refl

  pub property_written : (is_key c s && has_value v) ≡ false
      → lower_attributes c classic (attribute s v a) ≡ ((key_notice c s v ++ attribute_name c s) ++ lower_value c v) ++ lower_attributes c classic a
  unfolding lower_attributes
  property_written h = go (is_key c s && has_value v) (not classic) _ _ h
    where
      go : (x y : Bool) (p q : List Output) → x ≡ false → cond (x && y) p q ≡ q
      go x y p q h = rw h refl

  -- every key is a property of a classic call
  pub classic_property : classic ≡ true
      → lower_attributes c classic (attribute s v a) ≡ ((key_notice c s v ++ attribute_name c s) ++ lower_value c v) ++ lower_attributes c classic a
  unfolding lower_attributes
  classic_property h = go (is_key c s && has_value v) (not classic) _ _ (ap not h)
    where
      go : (x y : Bool) (p q : List Output) → y ≡ false → cond (x && y) p q ≡ q
      go true y p q h = rw h refl
      go false y p q h = refl
