-- docs/TAPES.md, "Root tape": what a root tape says, as a tree.
use Rattle.std.specs.Prelude.{ℕ, List}
use Rattle.text.specs.declared.spans.Span.{Span}
use Rattle.commands.specs.declared.root.Place.{Place}
use Rattle.commands.specs.declared.root.Heritage.{Heritage}
use Rattle.commands.specs.declared.root.ScopeKind.{ScopeKind}

-- "20 S string; 21 S identifier or 22 `this`, each with any number of 25 S properties; 23 S S namespaced"
pub data Name : Type 0 where
  plain : Span → Name
  identifier : Span → List Span → Name
  this : List Span → Name
  namespaced : Span → Span → Name

-- a property of an object literal: "34 E or 36 E S (S the name that `prop_name` gives)"
pub data Property : Type 0 where
  unnamed : ℕ → Property
  prop_name : ℕ → Span → Property

mutual
  -- "10 line u32, column u32: element; then a name, attributes, 1E, children, 1F. 11 line, column: fragment; children, 1F"
  pub data Node : Type 0 where
    element : Place → Name → Attributes → Children → Node
    fragment : Place → Children → Node

  -- "30 S or 31 S S (namespaced) and a value; 32 E spread; 33 E spread of an object literal E"
  pub data Attributes : Type 0 where
    no_attributes : Attributes
    attribute : Span → Value → Attributes → Attributes
    namespaced_attribute : Span → Span → Value → Attributes → Attributes
    spread : ℕ → Attributes → Attributes
    literal : ℕ → List Property → Attributes → Attributes

  -- "40 none, 41 S string, 42 E, 43 empty container, 10, 11"
  pub data Value : Type 0 where
    absent : Value
    string : Span → Value
    expression : ℕ → Value
    empty : Value
    node_value : Node → Value

  -- "50 S text, 42, 43, 51 E spread, 10, 11"
  pub data Children : Type 0 where
    no_children : Children
    text_child : Span → Children → Children
    expression_child : ℕ → Children → Children
    empty_child : Children → Children
    spread_child : ℕ → Children → Children
    node_child : Node → Children → Children

-- "01 heritage u8; 02 kind u8 once per scope, innermost first; then one element or fragment"
pub record Root : Type 0 where
  pub heritage : Heritage
  pub scopes : List ScopeKind
  pub node : Node
