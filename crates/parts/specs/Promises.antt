-- What the small parts of lowering promise: text children, literals, lone spreads, keys behind spreads.
use Rattle.std.specs.Prelude.{◌≡◌, Bool, true, false, List, [], ◌∷◌, ℕ, suc, ◌+◌, ◌≤◌, ◌<◌, length, drop, eqb, Option, None, Some}
use Rattle.text.specs.declared.spans.Span.{Span}
use Rattle.definitions.specs.declared.call_tape.WithExpression.TheVariants as with_expression
use Rattle.definitions.specs.Judging.{done}
use Rattle.definitions.specs.Tree.{Attributes, no_attributes}
use Rattle.definitions.specs.Reading.{attributes_at}
use Rattle.definitions.specs.JsxText.{jsx_text}
use Rattle.definitions.specs.Lowering.{Context, Output, some_line, lower_text, key_after_spread, is_last, put_over, lone_spread_or}
use Rattle.pen.specs.declared.pen.Pen.{Pen}
use Rattle.pen.specs.Emitting.{Produced}
use Rattle.emit.specs.declared.used.Used.{Used}
use Rattle.parts.specs.declared.jsx_impl.Items.{Items}
use Rattle.parts.specs.declared.jsx_impl.Props.{Props}
use Rattle.parts.specs.declared.jsx_impl.Front.{Front}
use Rattle.parts.specs.declared.jsx_impl.Front.TheVariants as front

-- whether a tape begins with this code
unfoldable pub starts_with : ℕ → List ℕ → Bool
starts_with code [] = false
starts_with code (b ∷ t) = eqb b code

-- the place of a key that was found so many bytes behind a place, else the one before
unfoldable pub newer : ℕ → Option ℕ → Option ℕ → Option ℕ
newer at (Some k) before = Some (at + k)
newer at None before = before

-- whether there is any
unfoldable pub some_output : List Output → Bool
some_output [] = false
some_output (o ∷ os) = true

-- what a text child is but for its lines
pub record IsText (r : Items) : Type 0 where
  pub used : r.used ≡ 5
  pub bare : r.spread ≡ false
  pub few : r.count ≤ 1

-- a text child: its lines are written, and it counts if there is one
pub record TextWritten (text : List ℕ) (s : Span) (p p' : Pen) (r : Items) : Type 0 where
  pub counted : r.count ≡ some_line (jsx_text text s)
  pub wrote : Produced (lower_text (jsx_text text s)) p p'

-- an object literal's properties
pub record LiteralWritten (os : List Output) (u : ℕ) (p p' : Pen) (r : Props) : Type 0 where
  pub taken : r.used ≡ u
  pub flagged : r.some ≡ some_output os
  pub wrote : Produced os p p'

-- ---- a classic call's lone spread

-- a lone spread, with its u bytes, or an object
unfoldable pub SoleAt : Context → Attributes → ℕ → Option (Used ℕ) → Type 0
SoleAt c a u (Some s) = (u ≡ s.used) × ((object : List Output) → lone_spread_or c a object ≡ put_over with_expression.SoleSpread s.value)
SoleAt c a u None = (object : List Output) → lone_spread_or c a object ≡ object

abbrev pub LoneWithin : ℕ → Option (Used ℕ) → Type 0
LoneWithin len (Some s) = s.used ≤ len
LoneWithin len None = Unit {0}

-- whether the attributes end n bytes behind the front of t
unfoldable pub Alone : List ℕ → ℕ → ℕ → Option (Used ℕ) → Type 0
Alone t x n (Some s) = (s.value ≡ x) × (s.used ≡ n + 1) × (n < length t) × ((f d : ℕ) (text : List ℕ) (a : Attributes) (u : ℕ) → attributes_at f text d (drop n t) ≡ done a u → (a ≡ no_attributes) × (u ≡ 1))
Alone t x n None = (f d : ℕ) (text : List ℕ) (a : Attributes) (u : ℕ) → attributes_at f text d (drop n t) ≡ done a u → is_last a ≡ false

-- ---- a key behind a spread

abbrev pub FrontWithin : ℕ → Option Front → Type 0
FrontWithin len (Some front.Key) = Unit {0}
FrontWithin len (Some (front.Spread n)) = (1 ≤ n) × (n ≤ len)
FrontWithin len (Some (front.Other n)) = (1 ≤ n) × (n ≤ len)
FrontWithin len None = Unit {0}

-- the rest of the attributes, b, is read n bytes behind the front
pub record Onward (text : List ℕ) (d : ℕ) (t : List ℕ) (f n u : ℕ) (b : Attributes) : Type 0 where
  pub fuel : ℕ
  pub turns : f ≡ suc fuel
  pub size : ℕ
  pub reads : attributes_at fuel text d (drop n t) ≡ done b size
  pub used : u ≡ n + size

-- what stands first among attributes of which a spread has been seen or not
unfoldable pub FrontIs : Context → List ℕ → ℕ → List ℕ → Bool → ℕ → Attributes → ℕ → Option Front → Type 0
FrontIs c text d t seen f a u (Some front.Key) = key_after_spread c seen a ≡ true
FrontIs c text d t seen f a u (Some (front.Spread n)) = (b : Attributes) × Onward text d t f n u b × (key_after_spread c seen a ≡ key_after_spread c true b)
FrontIs c text d t seen f a u (Some (front.Other n)) = (b : Attributes) × Onward text d t f n u b × (key_after_spread c seen a ≡ key_after_spread c seen b)
FrontIs c text d t seen f a u None = key_after_spread c seen a ≡ false
