-- docs/TAPES.md, "Root tape", "Grammar" and "Refusals": how a root tape is read as a tree, or where it is refused. Faults are told at the earliest command, within one
-- command in the order 3, 4, 13, 14, 6, 7, 8 (Faults has it apart from any reading).
use Rattle.std.specs.Prelude.{ℕ, zero, suc, Bool, false, cond, ◌||◌, List, [], ◌∷◌, length, drop, eqb, leb, ltb, Option, None, Some, Result, Ok, Err}
use Rattle.text.specs.declared.spans.Span.{Span}
use Rattle.text.specs.Spans.{part_of, bounds_of}
use Rattle.references.specs.References.{has_reference}
use Rattle.tape.specs.declared.refusal.Fault.TheVariants as fault
use Rattle.commands.specs.declared.error.CommandError.{CommandError}
use Rattle.commands.specs.declared.root.Place.{Place}
use Rattle.commands.specs.declared.root.Heritage.{Heritage}
use Rattle.commands.specs.declared.root.ScopeKind.{ScopeKind}
use Rattle.commands.specs.declared.root.ScopeCommand.{ScopeCommand}
use Rattle.commands.specs.declared.root.ScopeCommand.TheVariants as scopes
use Rattle.commands.specs.declared.root.NameCommand.{NameCommand}
use Rattle.commands.specs.declared.root.NameCommand.TheVariants as names
use Rattle.commands.specs.declared.root.AttributeCommand.{AttributeCommand}
use Rattle.commands.specs.declared.root.AttributeCommand.TheVariants as attributes
use Rattle.commands.specs.declared.root.PropertyCommand.{PropertyCommand}
use Rattle.commands.specs.declared.root.PropertyCommand.TheVariants as properties
use Rattle.commands.specs.declared.root.ValueCommand.{ValueCommand}
use Rattle.commands.specs.declared.root.ValueCommand.TheVariants as values
use Rattle.commands.specs.declared.root.ChildCommand.{ChildCommand}
use Rattle.commands.specs.declared.root.ChildCommand.TheVariants as children
pub use Rattle.commands.specs.Root.{is_function}
use Rattle.commands.specs.Root.{heritage_command, scope_command, name_command, member_command, attribute_command, property_command, value_command, child_command}
use Rattle.definitions.specs.Judging.{Parsed, done, stop, ◌then◌, map, from, wrong, unreadable, spanned, named, worse}
use Rattle.definitions.specs.Tree.{Name, plain, identifier, this, namespaced, Property, unnamed, prop_name, Node, element, fragment, Attributes, no_attributes, attribute, namespaced_attribute, spread, literal, Value, absent, string, expression, empty, node_value, Children, no_children, text_child, expression_child, empty_child, spread_child, node_child, Root}

-- ---- what else can be wrong at a command

-- what follows a 41 or 50: an ampersand "is to stay plain text unless it opens a reference. [..] Refusal 7 is now for references alone."
unfoldable pub lettered : {A : Type 0} → List ℕ → Span → Parsed A → Parsed A
lettered text s p = spanned (bounds_of text s) (cond (has_reference (part_of text s)) (stop fault.Reference 0) p)

-- "65th level of elements and fragments", with d of them open; "line or column 4,294,967,295". A 10 or 11 has nine bytes
unfoldable pub opened : {A : Type 0} → ℕ → Place → Parsed A → Parsed A
opened d p body =
    cond (leb 64 d) (stop fault.Depth 0)
    (cond (eqb p.line 4294967295 || eqb p.column 4294967295) (stop fault.Position 0) (from 9 body))

-- ---- by the command at the front of t, what stands there. `next u` reads on u bytes further. The names' order is that of the commands.

unfoldable pub members_by : List ℕ → List ℕ → Result (Option Span) CommandError → (ℕ → Parsed (List Span)) → Parsed (List Span)
members_by text t (Ok None) next = done [] 0
members_by text t (Err e) next = unreadable t e
members_by text t (Ok (Some s)) next = named (bounds_of text s) (map (s ∷◌) (next 5))

unfoldable pub name_by : List ℕ → List ℕ → Result NameCommand CommandError → (ℕ → Parsed (List Span)) → Parsed Name
name_by text t (Err e) next = unreadable t e
name_by text t (Ok (names.Plain s)) next = named (bounds_of text s) (done (plain s) 5)
name_by text t (Ok (names.Identifier s)) next = named (bounds_of text s) (map (identifier s) (next 5))
name_by text t (Ok names.This) next = map this (next 1)
name_by text t (Ok (names.Namespaced s r)) next = named (worse (bounds_of text s) (bounds_of text r)) (done (namespaced s r) 9)

-- the S of 36 may be empty
unfoldable pub properties_by : List ℕ → List ℕ → Result PropertyCommand CommandError → (ℕ → Parsed (List Property)) → Parsed (List Property)
properties_by text t (Err e) next = unreadable t e
properties_by text t (Ok properties.End) next = done [] 1
properties_by text t (Ok (properties.Property e)) next = map (unnamed e ∷◌) (next 3)
properties_by text t (Ok (properties.Named e s)) next = spanned (bounds_of text s) (map (prop_name e s ∷◌) (next 7))

unfoldable pub attributes_by : List ℕ → List ℕ → Result AttributeCommand CommandError → (ℕ → Parsed Value) → (ℕ → Parsed (List Property)) → (ℕ → Parsed Attributes) → Parsed Attributes
attributes_by text t (Err e) value props next = unreadable t e
attributes_by text t (Ok attributes.End) value props next = done no_attributes 1
attributes_by text t (Ok (attributes.Plain s)) value props next =
    named (bounds_of text s) (value 5 then λ v u. map (attribute s v) (next u))
attributes_by text t (Ok (attributes.Namespaced s r)) value props next =
    named (worse (bounds_of text s) (bounds_of text r)) (value 9 then λ v u. map (namespaced_attribute s r v) (next u))
attributes_by text t (Ok (attributes.Spread e)) value props next = map (spread e) (next 3)
attributes_by text t (Ok (attributes.Literal e)) value props next = props 3 then λ ps u. map (literal e ps) (next u)

-- `whole p` and `bare p` read an element's or a fragment's rest
unfoldable pub value_by : List ℕ → ℕ → List ℕ → Result ValueCommand CommandError → (Place → Parsed Node) → (Place → Parsed Node) → Parsed Value
value_by text d t (Err e) whole bare = unreadable t e
value_by text d t (Ok values.Absent) whole bare = done absent 1
value_by text d t (Ok (values.Text s)) whole bare = lettered text s (done (string s) 5)
value_by text d t (Ok (values.Expression e)) whole bare = done (expression e) 3
value_by text d t (Ok values.Empty) whole bare = done empty 1
value_by text d t (Ok (values.Element p)) whole bare = map node_value (opened d p (whole p))
value_by text d t (Ok (values.Fragment p)) whole bare = map node_value (opened d p (bare p))

unfoldable pub children_by : List ℕ → ℕ → List ℕ → Result ChildCommand CommandError → (Place → Parsed Node) → (Place → Parsed Node) → (ℕ → Parsed Children) → Parsed Children
children_by text d t (Err e) whole bare next = unreadable t e
children_by text d t (Ok children.End) whole bare next = done no_children 1
children_by text d t (Ok (children.Text s)) whole bare next = lettered text s (map (text_child s) (next 5))
children_by text d t (Ok (children.Expression e)) whole bare next = map (expression_child e) (next 3)
children_by text d t (Ok children.Empty) whole bare next = map empty_child (next 1)
children_by text d t (Ok (children.Spread e)) whole bare next = map (spread_child e) (next 3)
children_by text d t (Ok (children.Element p)) whole bare next = opened d p (whole p) then λ n u. map (node_child n) (next u)
children_by text d t (Ok (children.Fragment p)) whole bare next = opened d p (bare p) then λ n u. map (node_child n) (next u)

-- ---- what stands at the front of t. The first argument bounds the turns: any number above the length of t gives the same. d elements and fragments
-- are open

unfoldable pub members_at : ℕ → List ℕ → List ℕ → Parsed (List Span)
members_at zero text t = wrong
members_at (suc f) text t = members_by text t (member_command t) (λ u. from u (members_at f text (drop u t)))

unfoldable pub name_at : ℕ → List ℕ → List ℕ → Parsed Name
name_at f text t = name_by text t (name_command t) (λ u. from u (members_at f text (drop u t)))

unfoldable pub properties_at : ℕ → List ℕ → List ℕ → Parsed (List Property)
properties_at zero text t = wrong
properties_at (suc f) text t = properties_by text t (property_command t) (λ u. from u (properties_at f text (drop u t)))

unfoldable mutual
  -- an element behind its 10 and place
  pub element_at : ℕ → List ℕ → ℕ → Place → List ℕ → Parsed Node
  element_at zero text d p t = wrong
  element_at (suc f) text d p t =
      name_at f text t then λ n u.
      from u (attributes_at f text (suc d) (drop u t)) then λ a v.
      map (element p n a) (from v (children_at f text (suc d) (drop v t)))

  -- a fragment behind its 11 and place
  pub fragment_at : ℕ → List ℕ → ℕ → Place → List ℕ → Parsed Node
  fragment_at zero text d p t = wrong
  fragment_at (suc f) text d p t = map (fragment p) (children_at f text (suc d) t)

  pub attributes_at : ℕ → List ℕ → ℕ → List ℕ → Parsed Attributes
  attributes_at zero text d t = wrong
  attributes_at (suc f) text d t =
      attributes_by text t (attribute_command t)
      (λ u. from u (value_at f text d (drop u t)))
      (λ u. from u (properties_at f text (drop u t)))
      (λ u. from u (attributes_at f text d (drop u t)))

  pub value_at : ℕ → List ℕ → ℕ → List ℕ → Parsed Value
  value_at zero text d t = wrong
  value_at (suc f) text d t =
      value_by text d t (value_command t) (λ p. element_at f text d p (drop 9 t)) (λ p. fragment_at f text d p (drop 9 t))

  pub children_at : ℕ → List ℕ → ℕ → List ℕ → Parsed Children
  children_at zero text d t = wrong
  children_at (suc f) text d t =
      children_by text d t (child_command t)
      (λ p. element_at f text d p (drop 9 t))
      (λ p. fragment_at f text d p (drop 9 t))
      (λ u. from u (children_at f text d (drop u t)))

-- ---- the whole tape

pub record Scoped : Type 0 where
  pub kinds : List ScopeKind
  pub node : Node

abbrev pub in_scope : ScopeKind → Scoped → Scoped
in_scope k s = record { kinds = k ∷ s.kinds; node = s.node }

abbrev pub unscoped : Node → Scoped
unscoped n = record { kinds = []; node = n }

unfoldable pub scopes_by : List ℕ → List ℕ → Result ScopeCommand CommandError → (Place → Parsed Node) → (Place → Parsed Node) → (ScopeKind → Parsed Scoped) → Parsed Scoped
scopes_by text t (Err e) whole bare next = unreadable t e
scopes_by text t (Ok (scopes.Scope k)) whole bare next = map (in_scope k) (next k)
scopes_by text t (Ok (scopes.Element p)) whole bare next = map unscoped (opened 0 p (whole p))
scopes_by text t (Ok (scopes.Fragment p)) whole bare next = map unscoped (opened 0 p (bare p))

-- the scopes and what stands in them; `known` says that one of kind 2 or 3 has come
unfoldable pub scopes_at : ℕ → List ℕ → Bool → List ℕ → Parsed Scoped
scopes_at zero text known t = wrong
scopes_at (suc f) text known t =
    scopes_by text t (scope_command known t)
    (λ p. element_at f text 0 p (drop 9 t))
    (λ p. fragment_at f text 0 p (drop 9 t))
    (λ k. from 2 (scopes_at f text (known || is_function k) (drop 2 t)))

unfoldable pub root_by : List ℕ → Result Heritage CommandError → Parsed Scoped → Parsed Root
root_by t (Err e) rest = unreadable t e
root_by t (Ok h) rest = map (λ s. record { heritage = h; scopes = s.kinds; node = s.node }) rest

-- "then one element or fragment and nothing more": what is left over is refused where it begins
unfoldable pub whole : {A : Type 0} → List ℕ → Parsed A → Parsed A
whole t p = p then λ a u. cond (ltb u (length t)) (stop fault.Grammar u) (done a u)

-- the root tape
unfoldable pub read_root : List ℕ → List ℕ → Parsed Root
read_root text t =
    whole t (root_by t (heritage_command t) (from 2 (scopes_at (suc (length t)) text false (drop 2 t))))
