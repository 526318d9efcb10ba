-- What lowering a part of a root tape promises: where the part reads as a tree, the tree's output is written and its bytes are passed.
use Rattle.std.specs.Prelude.{◌≡◌, Bool, true, false, ◌||◌, List, [], ◌++◌, ℕ, suc, ◌+◌, ◌≤◌, ◌<◌, length, drop, Option, None, Some}
use Rattle.commands.specs.declared.root.Place.{Place}
use Rattle.definitions.specs.declared.call_tape.Bare.TheVariants as bare
use Rattle.definitions.specs.Judging.{Parsed, done}
use Rattle.definitions.specs.Tree.{Name, Attributes, Value, Children}
use Rattle.definitions.specs.Reading.{name_at, attributes_at, value_at, children_at}
use Rattle.definitions.specs.Lowering.{Context, Output, put, form_of, children_property, self_output, source_output, no_key, classic_call, automatic_call, object_of, fragment_tag, lower_name, survivors, has_spread, lower_attributes, lower_key, lower_value, lower_children, lone_spread_or}
use Rattle.pen.specs.declared.pen.Pen.{Pen}
use Rattle.pen.specs.Emitting.{Produced}
use Rattle.parts.specs.declared.jsx_impl.Items.{Items}
use Rattle.parts.specs.declared.jsx_impl.Props.{Props}
use Rattle.parts.specs.Promises.{some_output}
use Rattle.jsx.specs.declared.jsx_impl.Form.{Form}
use Rattle.jsx.specs.declared.jsx_impl.Form.TheVariants as form

-- the output os is written, and u bytes of the tape are passed
pub record Written (os : List Output) (u : ℕ) (p p' : Pen) (used : ℕ) : Type 0 where
  pub taken : used ≡ u
  pub wrote : Produced os p p'

-- one can be added to the line and to the column
pub record Countable (p : Place) : Type 0 where
  pub line : p.line < 4294967295
  pub column : p.column < 4294967295

-- ---- lists: what stands first

-- t is read as the list x, which takes u bytes: one stands at the front, of n bytes, whose output is written, and the rest behind it
pub record Step {A : Type 0} (read : ℕ → List ℕ → Parsed A) (out : A → List Output) (Goes : List ℕ → ℕ → A → A → Type 0)
    (t : List ℕ) (p p' : Pen) (n f : ℕ) (x : A) (u : ℕ) : Type 0 where
  pub fuel : ℕ
  pub turns : f ≡ suc fuel
  pub rest : A
  pub size : ℕ
  pub reads : read fuel (drop n t) ≡ done rest size
  pub used : u ≡ n + size
  pub output : List Output
  pub outs : out x ≡ output ++ out rest
  pub goes : Goes t fuel x rest
  pub wrote : Produced output p p'

-- ---- children

abbrev pub ChildMoves : ℕ → Items → Type 0
ChildMoves len r = (r.used ≤ len) × (1 ≤ r.used) × (r.count ≤ r.used)

abbrev pub ChildrenGo : Context → Items → List ℕ → ℕ → Children → Children → Type 0
ChildrenGo c r t f k l = (survivors c k ≡ r.count + survivors c l) × (has_spread k ≡ (r.spread || has_spread l))

-- the child at the front, and those behind it
abbrev pub ChildStep : Context → ℕ → List ℕ → Pen → Pen → Items → ℕ → Children → ℕ → Type 0
ChildStep c d t p p' r f k u =
    Step (λ g l. children_at g c.text d l) (lower_children c) (ChildrenGo c r) t p p' r.used f k u

pub record ChildrenWritten (c : Context) (k : Children) (os : List Output) (u : ℕ) (p p' : Pen) (r : Items) : Type 0 where
  pub taken : r.used ≡ u
  pub counted : r.count ≡ survivors c k
  pub spreads : r.spread ≡ has_spread k
  pub wrote : Produced os p p'

-- ---- attributes

-- a form, as the definition's flag
abbrev pub is_classic_form : Form → Bool
is_classic_form form.Classic = true
is_classic_form form.Automatic = false

-- a key that was found stands within so many bytes
abbrev pub KeyWithin : ℕ → Option ℕ → Type 0
KeyWithin len (Some k) = k ≤ len
KeyWithin len None = Unit {0}

abbrev pub AttributeMoves : ℕ → Props → Type 0
AttributeMoves len r = (r.used ≤ len) × (1 ≤ r.used) × KeyWithin r.used r.key

-- the first of the attributes is a key with a value, which stands so many bytes into t; or it is none
pub data KeyFirst (c : Context) (d : ℕ) (t : List ℕ) (key : Option ℕ) (f : ℕ) (a b : Attributes) : Type 0 where
  other : key ≡ None → ((os : List Output) → lower_key c a os ≡ lower_key c b os) → KeyFirst c d t key f a b
  first : (k : ℕ) (v : Value) (u : ℕ) → key ≡ Some k → 1 ≤ k → value_at f c.text d (drop k t) ≡ done v u
      → ((os : List Output) → lower_key c a os ≡ lower_key c b (put bare.Key ++ lower_value c v)) → KeyFirst c d t key f a b

-- the last key's value stands so many bytes into t; or there is none, and `os` is what is given
pub data KeyAt (c : Context) (d : ℕ) (t : List ℕ) (other : List Output) : Option ℕ → List Output → Type 0 where
  without_key : KeyAt c d t other None other
  key_at : (p g u : ℕ) (v : Value) → length t < p + g → value_at g c.text d (drop p t) ≡ done v u
      → KeyAt c d t other (Some p) (put bare.Key ++ lower_value c v)

abbrev pub AttributesGo : Context → Bool → ℕ → Props → List ℕ → ℕ → Attributes → Attributes → Type 0
AttributesGo c classic d r t f a b =
    (some_output (lower_attributes c classic a) ≡ (r.some || some_output (lower_attributes c classic b))) × KeyFirst c d t r.key f a b

-- the attribute at the front, and those behind it
abbrev pub AttributeStep : Context → Bool → ℕ → List ℕ → Pen → Pen → Props → ℕ → Attributes → ℕ → Type 0
AttributeStep c classic d t p p' r f a u =
    Step (λ g l. attributes_at g c.text d l) (lower_attributes c classic) (AttributesGo c classic d r) t p p' r.used f a u

pub record AttributesWritten (c : Context) (classic : Bool) (d : ℕ) (t : List ℕ) (a : Attributes) (u : ℕ) (p p' : Pen) (r : Props) : Type 0 where
  pub taken : r.used ≡ u
  pub flagged : r.some ≡ some_output (lower_attributes c classic a)
  pub keyed : (other : List Output) → KeyAt c d t other r.key (lower_key c a other)
  pub wrote : Produced (lower_attributes c classic a) p p'

-- ---- elements

-- what an element behind its place is made of: its name takes `at` bytes, its attributes v, its children w
pub record Parts (text : List ℕ) (d : ℕ) (t : List ℕ) (f at : ℕ) (n : Name) (a : Attributes) (v : ℕ) (k : Children) (w : ℕ) : Type 0 where
  pub enough : length t < f
  pub name_reads : name_at f text t ≡ done n at
  pub attributes_reads : attributes_at f text (suc d) (drop at t) ≡ done a v
  pub children_reads : children_at f text (suc d) (drop (at + v) t) ≡ done k w

-- the children of an automatic call and the end of its object
unfoldable pub children_object : Context → Children → List Output
children_object c k = children_property (survivors c k) (form_of (survivors c k) (has_spread k)) (lower_children c k) ++ put bare.ObjectEnd

-- the properties of a classic call
unfoldable pub classic_properties : Context → Place → Attributes → List Output
classic_properties c p a = lower_attributes c true a ++ self_output c ++ source_output c p

-- the four calls
unfoldable pub classic_call_of : Context → Place → Name → Attributes → Children → List Output
classic_call_of c p n a k = classic_call c (lone_spread_or c a (object_of (classic_properties c p a))) (lower_children c k) (lower_name c n)

unfoldable pub automatic_element : Context → Place → Name → Attributes → Children → List Output
automatic_element c p n a k =
    automatic_call c (lower_attributes c false a) k (lower_children c k) (lower_key c a (no_key c)) (source_output c p ++ self_output c) (lower_name c n)

unfoldable pub classic_fragment : Context → Children → List Output
classic_fragment c k = classic_call c (object_of []) (lower_children c k) (fragment_tag c.settings.mode)

unfoldable pub automatic_fragment : Context → Children → List Output
automatic_fragment c k = automatic_call c [] k (lower_children c k) (no_key c) [] (fragment_tag c.settings.mode)
