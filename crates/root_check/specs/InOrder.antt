-- What may be relied on of a tree that was read off a root tape: its names, texts and places are in order in the text.
use Rattle.std.specs.Prelude.{ℕ, ◌≡◌, false, List, [], ◌∷◌}
use Rattle.text.specs.declared.spans.Span.{Span}
use Rattle.text.specs.declared.spans.Bounds.TheVariants.{Outside, Cuts, Good}
use Rattle.text.specs.Spans.{part_of, bounds_of}
use Rattle.references.specs.References.{has_reference}
use Rattle.commands.specs.declared.root.Place.{Place}
use Rattle.definitions.specs.Tree.{Name, plain, identifier, this, namespaced, Property, unnamed, prop_name, Node, element, fragment, Attributes, no_attributes, attribute, namespaced_attribute, spread, literal, Value, absent, string, expression, empty, node_value, Children, no_children, text_child, expression_child, empty_child, spread_child, node_child}

-- ---- spans and places

-- a name: a part of the text that cuts no character and is not empty
abbrev pub NameSpan : List ℕ → Span → Type 0
NameSpan text s = bounds_of text s ≡ Good

-- a part of the text that cuts no character
pub record Inside (text : List ℕ) (s : Span) : Type 0 where
  pub inside : bounds_of text s ≡ Outside → ⊥
  pub whole : bounds_of text s ≡ Cuts → ⊥

-- JSX text, or an attribute's string: it has no reference either
pub record Lettered (text : List ℕ) (s : Span) : Type 0 where
  pub within : Inside text s
  pub plain : has_reference (part_of text s) ≡ false

-- one can be added to the line and to the column
pub record Placed (p : Place) : Type 0 where
  pub line : p.line ≡ 4294967295 → ⊥
  pub column : p.column ≡ 4294967295 → ⊥

-- ---- trees

unfoldable pub Each : {A : Type 0} → (A → Type 0) → List A → Type 0
Each P [] = Unit {0}
Each P (a ∷ l) = P a × Each P l

unfoldable pub NameInOrder : List ℕ → Name → Type 0
NameInOrder text (plain s) = NameSpan text s
NameInOrder text (identifier s ms) = NameSpan text s × Each (NameSpan text) ms
NameInOrder text (this ms) = Each (NameSpan text) ms
NameInOrder text (namespaced s r) = NameSpan text s × NameSpan text r

unfoldable pub PropertyInOrder : List ℕ → Property → Type 0
PropertyInOrder text (unnamed e) = Unit {0}
PropertyInOrder text (prop_name e s) = Inside text s

unfoldable mutual
  pub InOrder : List ℕ → Node → Type 0
  InOrder text (element p n a k) = Placed p × NameInOrder text n × AttributesInOrder text a × ChildrenInOrder text k
  InOrder text (fragment p k) = Placed p × ChildrenInOrder text k

  pub AttributesInOrder : List ℕ → Attributes → Type 0
  AttributesInOrder text no_attributes = Unit {0}
  AttributesInOrder text (attribute s v a) = NameSpan text s × ValueInOrder text v × AttributesInOrder text a
  AttributesInOrder text (namespaced_attribute s r v a) = NameSpan text s × NameSpan text r × ValueInOrder text v × AttributesInOrder text a
  AttributesInOrder text (spread e a) = AttributesInOrder text a
  AttributesInOrder text (literal e ps a) = Each (PropertyInOrder text) ps × AttributesInOrder text a

  pub ValueInOrder : List ℕ → Value → Type 0
  ValueInOrder text absent = Unit {0}
  ValueInOrder text (string s) = Lettered text s
  ValueInOrder text (expression e) = Unit {0}
  ValueInOrder text empty = Unit {0}
  ValueInOrder text (node_value n) = InOrder text n

  pub ChildrenInOrder : List ℕ → Children → Type 0
  ChildrenInOrder text no_children = Unit {0}
  ChildrenInOrder text (text_child s k) = Lettered text s × ChildrenInOrder text k
  ChildrenInOrder text (expression_child e k) = ChildrenInOrder text k
  ChildrenInOrder text (empty_child k) = ChildrenInOrder text k
  ChildrenInOrder text (spread_child e k) = ChildrenInOrder text k
  ChildrenInOrder text (node_child n k) = InOrder text n × ChildrenInOrder text k
