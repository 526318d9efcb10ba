-- The pass finds every text of a root that is read.
--     Costs               a reading's value is within the bound of the bytes that it took
--     name_costs, ..      of each reader
--     calls_within        so a root's calls are within the bound of its tape
--     told_bound, no_bound  the bound that is told, by the tape's length
--     bound_enough         and it holds them
-- Assumes nothing.
use mathlib.Core.Path.{◌≡◌, refl, subst}
use mathlib.Core.Bool.{Bool, true, false, cond, ◌||◌}
use mathlib.Core.List.{List, [], ◌∷◌}
use Prim.Native.Nat.{ℕ, zero, suc, ◌+◌, ◌*◌, ◌≤◌, ◌<◌}
use native.Mathlib.Omega.{arith}
use lib.ListN.{length, drop}
use lib.Seq.{drop-drop}
use lib.Dec.{ltb}
use borrow.Author.Tests.{lt-ltb, le-ltb}
use Rattle.text.specs.declared.spans.Span.{Span}
use Rattle.text.specs.Spans.{bounds_of}
use Rattle.tape.specs.declared.refusal.Fault.TheVariants as fault
use Rattle.std.specs.Prelude.{Option, None, Some, Result, Ok, Err}
use Rattle.commands.specs.declared.error.CommandError.{CommandError}
use Rattle.commands.specs.declared.root.Place.{Place}
use Rattle.commands.specs.declared.root.Heritage.{Heritage}
use Rattle.commands.specs.declared.root.ScopeKind.{ScopeKind}
use Rattle.commands.specs.declared.root.ScopeCommand.{ScopeCommand}
use Rattle.commands.specs.declared.root.ScopeCommand.TheVariants as scopes
use Rattle.commands.specs.declared.root.NameCommand.{NameCommand}
use Rattle.commands.specs.declared.root.NameCommand.TheVariants as names
use Rattle.commands.specs.declared.root.AttributeCommand.{AttributeCommand}
use Rattle.commands.specs.declared.root.AttributeCommand.TheVariants as attributes
use Rattle.commands.specs.declared.root.PropertyCommand.{PropertyCommand}
use Rattle.commands.specs.declared.root.PropertyCommand.TheVariants as properties
use Rattle.commands.specs.declared.root.ValueCommand.{ValueCommand}
use Rattle.commands.specs.declared.root.ValueCommand.TheVariants as values
use Rattle.commands.specs.declared.root.ChildCommand.{ChildCommand}
use Rattle.commands.specs.declared.root.ChildCommand.TheVariants as children
use Rattle.commands.specs.Root.{heritage_command, scope_command, name_command, member_command, attribute_command, property_command, value_command, child_command}
use Rattle.commands.specs.Sizes.{heritage_size, scope_size, name_size, member_size, attribute_size, property_size, value_size, child_size}
use Rattle.definitions.specs.declared.options.Settings.{Settings}
use Rattle.definitions.specs.declared.records.Import.{Import}
use Rattle.definitions.specs.Judging.{Parsed, done, stop, from, worse}
use Rattle.definitions.specs.Tree.{Name, identifier, this, Property, unnamed, prop_name, Node, element, fragment, Attributes, no_attributes, attribute}
use Rattle.definitions.specs.Tree.{namespaced_attribute, spread, literal, Value, absent, expression, empty, node_value, Children, no_children, text_child}
use Rattle.definitions.specs.Tree.{expression_child, empty_child, spread_child, node_child, Root}
use Rattle.definitions.specs.Reading.{opened, members_by, name_by, properties_by, attributes_by, value_by, children_by, members_at, name_at, properties_at}
use Rattle.definitions.specs.Reading.{element_at, fragment_at, attributes_at, value_at, children_at, is_function, Scoped, in_scope, unscoped, scopes_by}
use Rattle.definitions.specs.Reading.{scopes_at, root_by, whole, read_root}
use Rattle.definitions.specs.Lowering.{lower_root, can_add_self}
use Rattle.definitions.specs.Entries.{lowered_after}
use Rattle.definitions.proofs.Weights.{calls_weigh, node_weighs_by_texts, size_name, size_properties, size_node, size_attributes, size_value, size_children}
use Rattle.definitions.proofs.Weights.{priced_node, priced_attributes, priced_value, priced_children}
use Rattle.definitions.proofs.TreeSizes.{Told, tells, faults, told_then, told_map, told_from, told_spanned, told_named, told_lettered, told_opened, told_done}
use Rattle.size_bound.specs.SizeBound.{size_bound, call_size_bound, HoldsCalls}
use Rattle.size_bound.proofs.Fronts.{Fronted, child_text, heritage_front, scope_front, name_front, member_front, attribute_front, property_front, value_front, child_front}

-- ---- what each part of a tree costs: four bytes for each of its own, and six for each of its texts

abbrev price : Span → ℕ
price s = 6 * s.len

abbrev cost_members : List Span → ℕ
cost_members ms = 20 * length ms

abbrev cost_name : Name → ℕ
cost_name n = 4 * size_name n

abbrev cost_properties : List Property → ℕ
cost_properties ps = 4 * size_properties ps

abbrev cost_node : Node → ℕ
cost_node n = 4 * size_node n + priced_node price n

abbrev cost_attributes : Attributes → ℕ
cost_attributes a = 4 * size_attributes a + priced_attributes price a

abbrev cost_value : Value → ℕ
cost_value v = 4 * size_value v + priced_value price v

abbrev cost_children : Children → ℕ
cost_children k = 4 * size_children k + priced_children price k

-- ---- what holds of a reading

-- the value and the bound behind the bytes that it took off t are within r
abbrev Costs : {A : Type 0} → (A → ℕ) → List ℕ → ℕ → Parsed A → Type 0
Costs cost t r p = Told (λ a u. cost a + size_bound (drop u t) ≤ r) p

behind : {A : Type 0} (cost : A → ℕ) (t : List ℕ) {p : Parsed A} (u : ℕ) → Costs cost (drop u t) (size_bound (drop u t)) p → Costs cost t (size_bound (drop u t)) (from u p)
behind cost t u h = told_from u h (λ a v e. subst (λ (l : List ℕ). cost a + size_bound l ≤ size_bound (drop u t)) (drop-drop v u t) e)

-- a node behind the nine bytes of its command
abbrev NodeCosts : List ℕ → Parsed Node → Type 0
NodeCosts t p = Costs cost_node t (36 + size_bound t) p

opened_costs : (d : ℕ) (p : Place) (t : List ℕ) {body : Parsed Node} → Fronted t 9 0 → NodeCosts (drop 9 t) body → Costs cost_node t (size_bound t) (opened d p body)
opened_costs d p t f h =
    told_opened {S = λ n u. cost_node n + size_bound (drop u t) ≤ size_bound t} d p h (λ n u e.
    subst (λ (l : List ℕ). cost_node n + size_bound l ≤ size_bound t) (drop-drop u 9 t) (omega arith))

-- ---- by the command in front

members_by_command : (text t : List ℕ) (c : Result (Option Span) CommandError) (next : ℕ → Parsed (List Span)) → Fronted t (member_size c) 0
    → ((u : ℕ) → Costs cost_members t (size_bound (drop u t)) (next u)) → Costs cost_members t (size_bound t) (members_by text t c next)
unfolding members_by
members_by_command text t (Ok None) next f h = tells {a = []} {u = 0} (omega arith)
members_by_command text t (Err e) next f h = faults
members_by_command text t (Ok (Some s)) next f h = told_named (bounds_of text s) (told_map (s ∷◌) (h 5) (λ a u e. omega arith))

name_by_command : (text t : List ℕ) (c : Result NameCommand CommandError) (next : ℕ → Parsed (List Span)) → Fronted t (name_size c) 0
    → ((u : ℕ) → Costs cost_members t (size_bound (drop u t)) (next u)) → Costs cost_name t (size_bound t) (name_by text t c next)
unfolding name_by size_name
name_by_command text t (Err e) next f h = faults
name_by_command text t (Ok (names.Plain s)) next f h = told_named (bounds_of text s) (tells (omega arith))
name_by_command text t (Ok (names.Identifier s)) next f h = told_named (bounds_of text s) (told_map (identifier s) (h 5) (λ a u e. omega arith))
name_by_command text t (Ok names.This) next f h = told_map this (h 1) (λ a u e. omega arith)
name_by_command text t (Ok (names.Namespaced s r)) next f h = told_named (worse (bounds_of text s) (bounds_of text r)) (tells (omega arith))

properties_by_command : (text t : List ℕ) (c : Result PropertyCommand CommandError) (next : ℕ → Parsed (List Property)) → Fronted t (property_size c) 0
    → ((u : ℕ) → Costs cost_properties t (size_bound (drop u t)) (next u)) → Costs cost_properties t (size_bound t) (properties_by text t c next)
unfolding properties_by size_properties
properties_by_command text t (Err e) next f h = faults
properties_by_command text t (Ok properties.End) next f h = tells {a = []} {u = 1} (omega arith)
properties_by_command text t (Ok (properties.Property e)) next f h = told_map (unnamed e ∷◌) (h 3) (λ a u e. omega arith)
properties_by_command text t (Ok (properties.Named e s)) next f h = told_spanned (bounds_of text s) (told_map (prop_name e s ∷◌) (h 7) (λ a u e. omega arith))

attributes_by_command : (text t : List ℕ) (c : Result AttributeCommand CommandError) (value : ℕ → Parsed Value) (props : ℕ → Parsed (List Property)) (next : ℕ → Parsed Attributes)
    → Fronted t (attribute_size c) 0
    → ((u : ℕ) → Costs cost_value t (size_bound (drop u t)) (value u))
    → ((u : ℕ) → Costs cost_properties t (size_bound (drop u t)) (props u))
    → ((u : ℕ) → Costs cost_attributes t (size_bound (drop u t)) (next u))
    → Costs cost_attributes t (size_bound t) (attributes_by text t c value props next)
unfolding attributes_by size_attributes priced_attributes
attributes_by_command text t (Err e) value props next f v p h = faults
attributes_by_command text t (Ok attributes.End) value props next f v p h = tells {a = no_attributes} {u = 1} (omega arith)
attributes_by_command text t (Ok (attributes.Plain s)) value props next f v p h =
    told_named (bounds_of text s) (told_then _ (v 5) (λ a u e. told_map (attribute s a) (h u) (λ b w d. omega arith)))
attributes_by_command text t (Ok (attributes.Namespaced s r)) value props next f v p h =
    told_named (worse (bounds_of text s) (bounds_of text r)) (told_then _ (v 9) (λ a u e. told_map (namespaced_attribute s r a) (h u) (λ b w d. omega arith)))
attributes_by_command text t (Ok (attributes.Spread e)) value props next f v p h = told_map (spread e) (h 3) (λ a u d. omega arith)
attributes_by_command text t (Ok (attributes.Literal e)) value props next f v p h = told_then _ (p 3) (λ a u d. told_map (literal e a) (h u) (λ b w c. omega arith))

value_by_command : (text : List ℕ) (d : ℕ) (t : List ℕ) (c : Result ValueCommand CommandError) (full bare : Place → Parsed Node) → Fronted t (value_size c) 0
    → ((p : Place) → NodeCosts (drop 9 t) (full p)) → ((p : Place) → NodeCosts (drop 9 t) (bare p)) → Costs cost_value t (size_bound t) (value_by text d t c full bare)
unfolding value_by size_value priced_value
value_by_command text d t (Err e) full bare f h k = faults
value_by_command text d t (Ok values.Absent) full bare f h k = tells {a = absent} {u = 1} (omega arith)
value_by_command text d t (Ok (values.Text s)) full bare f h k = told_lettered text s (tells (omega arith))
value_by_command text d t (Ok (values.Expression e)) full bare f h k = tells {a = expression e} {u = 3} (omega arith)
value_by_command text d t (Ok values.Empty) full bare f h k = tells {a = empty} {u = 1} (omega arith)
value_by_command text d t (Ok (values.Element p)) full bare f h k = told_map node_value (opened_costs d p t f (h p)) (λ n u e. e)
value_by_command text d t (Ok (values.Fragment p)) full bare f h k = told_map node_value (opened_costs d p t f (k p)) (λ n u e. e)

children_by_command : (text : List ℕ) (d : ℕ) (t : List ℕ) (c : Result ChildCommand CommandError) (full bare : Place → Parsed Node) (next : ℕ → Parsed Children)
    → Fronted t (child_size c) (child_text c)
    → ((p : Place) → NodeCosts (drop 9 t) (full p))
    → ((p : Place) → NodeCosts (drop 9 t) (bare p))
    → ((u : ℕ) → Costs cost_children t (size_bound (drop u t)) (next u))
    → Costs cost_children t (size_bound t) (children_by text d t c full bare next)
unfolding children_by size_children priced_children
children_by_command text d t (Err e) full bare next f h k n = faults
children_by_command text d t (Ok children.End) full bare next f h k n = tells {a = no_children} {u = 1} (omega arith)
children_by_command text d t (Ok (children.Text s)) full bare next f h k n = told_lettered text s (told_map (text_child s) (n 5) (λ a u e. omega arith))
children_by_command text d t (Ok (children.Expression e)) full bare next f h k n = told_map (expression_child e) (n 3) (λ a u e. omega arith)
children_by_command text d t (Ok children.Empty) full bare next f h k n = told_map empty_child (n 1) (λ a u e. omega arith)
children_by_command text d t (Ok (children.Spread e)) full bare next f h k n = told_map (spread_child e) (n 3) (λ a u e. omega arith)
children_by_command text d t (Ok (children.Element p)) full bare next f h k n =
    told_then _ (opened_costs d p t f (h p)) (λ a u e. told_map (node_child a) (n u) (λ b w c. omega arith))
children_by_command text d t (Ok (children.Fragment p)) full bare next f h k n =
    told_then _ (opened_costs d p t f (k p)) (λ a u e. told_map (node_child a) (n u) (λ b w c. omega arith))

-- ---- each reader

members_costs : (f : ℕ) (text t : List ℕ) → Costs cost_members t (size_bound t) (members_at f text t)
unfolding members_at
members_costs zero text t = faults
members_costs (suc f) text t = members_by_command text t (member_command t) _ (member_front t) (λ u. behind cost_members t u (members_costs f text (drop u t)))

name_costs : (f : ℕ) (text t : List ℕ) → Costs cost_name t (size_bound t) (name_at f text t)
unfolding name_at
name_costs f text t = name_by_command text t (name_command t) _ (name_front t) (λ u. behind cost_members t u (members_costs f text (drop u t)))

properties_costs : (f : ℕ) (text t : List ℕ) → Costs cost_properties t (size_bound t) (properties_at f text t)
unfolding properties_at
properties_costs zero text t = faults
properties_costs (suc f) text t =
    properties_by_command text t (property_command t) _ (property_front t) (λ u. behind cost_properties t u (properties_costs f text (drop u t)))

mutual
  unfolding element_at fragment_at attributes_at value_at children_at size_node priced_node

  element_costs : (f : ℕ) (text : List ℕ) (d : ℕ) (p : Place) (t : List ℕ) → NodeCosts t (element_at f text d p t)
  element_costs zero text d p t = faults
  element_costs (suc f) text d p t =
      told_then _ (name_costs f text t) (λ n u e.
      told_then _ (behind cost_attributes t u (attributes_costs f text (suc d) (drop u t))) (λ a v g.
      told_map (element p n a) (behind cost_children t v (children_costs f text (suc d) (drop v t))) (λ k w i. omega arith)))

  fragment_costs : (f : ℕ) (text : List ℕ) (d : ℕ) (p : Place) (t : List ℕ) → NodeCosts t (fragment_at f text d p t)
  fragment_costs zero text d p t = faults
  fragment_costs (suc f) text d p t = told_map (fragment p) (children_costs f text (suc d) t) (λ k w i. omega arith)

  attributes_costs : (f : ℕ) (text : List ℕ) (d : ℕ) (t : List ℕ) → Costs cost_attributes t (size_bound t) (attributes_at f text d t)
  attributes_costs zero text d t = faults
  attributes_costs (suc f) text d t =
      attributes_by_command text t (attribute_command t) _ _ _
      (attribute_front t)
      (λ u. behind cost_value t u (value_costs f text d (drop u t)))
      (λ u. behind cost_properties t u (properties_costs f text (drop u t)))
      (λ u. behind cost_attributes t u (attributes_costs f text d (drop u t)))

  value_costs : (f : ℕ) (text : List ℕ) (d : ℕ) (t : List ℕ) → Costs cost_value t (size_bound t) (value_at f text d t)
  value_costs zero text d t = faults
  value_costs (suc f) text d t =
      value_by_command text d t (value_command t) _ _
      (value_front t)
      (λ p. element_costs f text d p (drop 9 t))
      (λ p. fragment_costs f text d p (drop 9 t))

  children_costs : (f : ℕ) (text : List ℕ) (d : ℕ) (t : List ℕ) → Costs cost_children t (size_bound t) (children_at f text d t)
  children_costs zero text d t = faults
  children_costs (suc f) text d t =
      children_by_command text d t (child_command t) _ _ _
      (child_front t)
      (λ p. element_costs f text d p (drop 9 t))
      (λ p. fragment_costs f text d p (drop 9 t))
      (λ u. behind cost_children t u (children_costs f text d (drop u t)))

-- ---- the root

abbrev ScopedWithin : ℕ → Parsed Scoped → Type 0
ScopedWithin r p = Told (λ s u. cost_node s.node ≤ r) p

scopes_by_command : (text t : List ℕ) (c : Result ScopeCommand CommandError) (full bare : Place → Parsed Node) (next : ScopeKind → Parsed Scoped) → Fronted t (scope_size c) 0
    → ((p : Place) → NodeCosts (drop 9 t) (full p))
    → ((p : Place) → NodeCosts (drop 9 t) (bare p))
    → ((k : ScopeKind) → ScopedWithin (size_bound (drop 2 t)) (next k))
    → ScopedWithin (size_bound t) (scopes_by text t c full bare next)
unfolding scopes_by
scopes_by_command text t (Err e) full bare next f h k n = faults
scopes_by_command text t (Ok (scopes.Scope x)) full bare next f h k n = told_map (in_scope x) (n x) (λ s u e. omega arith)
scopes_by_command text t (Ok (scopes.Element p)) full bare next f h k n = told_map unscoped (opened_costs 0 p t f (h p)) (λ x u e. omega arith)
scopes_by_command text t (Ok (scopes.Fragment p)) full bare next f h k n = told_map unscoped (opened_costs 0 p t f (k p)) (λ x u e. omega arith)

scopes_within : (f : ℕ) (text : List ℕ) (known : Bool) (t : List ℕ) → ScopedWithin (size_bound t) (scopes_at f text known t)
unfolding scopes_at
scopes_within zero text known t = faults
scopes_within (suc f) text known t =
    scopes_by_command text t (scope_command known t) _ _ _
    (scope_front known t)
    (λ p. element_costs f text 0 p (drop 9 t))
    (λ p. fragment_costs f text 0 p (drop 9 t))
    (λ k. told_from 2 (scopes_within f text (known || is_function k) (drop 2 t)) (λ s u e. e))

abbrev RootWithin : ℕ → Parsed Root → Type 0
RootWithin r p = Told (λ o u. cost_node o.node ≤ r) p

root_by_command : (t : List ℕ) (c : Result Heritage CommandError) (rest : Parsed Scoped) → Fronted t (heritage_size c) 0 → ScopedWithin (size_bound (drop 2 t)) rest
    → RootWithin (size_bound t) (root_by t c rest)
unfolding root_by
root_by_command t (Err e) rest f h = faults
root_by_command t (Ok x) rest f h = told_map _ h (λ s u e. omega arith)

root_within : (text t : List ℕ) → RootWithin (size_bound t) (read_root text t)
unfolding read_root whole
root_within text t =
    told_then _
    (root_by_command t (heritage_command t) _ (heritage_front t) (told_from 2 (scopes_within (suc (length t)) text false (drop 2 t)) (λ s u e. e)))
    (λ r u e. told_whole (ltb u (length t)) r u e)
  where
    told_whole : (b : Bool) (r : Root) (u : ℕ) → cost_node r.node ≤ size_bound t → RootWithin (size_bound t) (cond b (stop fault.Grammar u) (done r u))
    told_whole true r u e = faults
    told_whole false r u e = tells e

calls_within : (text tape : List ℕ) (s : Settings) (js : List Import) (o : Root) (u : ℕ) → read_root text tape ≡ done o u
    → length (lowered_after text s js o).calls ≤ size_bound tape
unfolding lowered_after lower_root
calls_within text tape s js o u e =
    let h : cost_node o.node ≤ size_bound tape = told_done (root_within text tape) e in
    omega (arith, calls_weigh js (lower_root text s o), node_weighs_by_texts (record { text = text; settings = s; self_allowed = can_add_self o }) o.node)

pub told_bound : (tape : List ℕ) → length tape ≤ 65535 → call_size_bound tape ≡ size_bound tape
unfolding call_size_bound
told_bound tape h = rw (le-ltb 65535 (length tape) h) refl

pub no_bound : (tape : List ℕ) → 65535 < length tape → call_size_bound tape ≡ 0
unfolding call_size_bound
no_bound tape h = rw (lt-ltb 65535 (length tape) h) refl

pub bound_enough : (tape : List ℕ) → HoldsCalls tape (call_size_bound tape)
bound_enough tape text s js o u h e = rw (told_bound tape h) (calls_within text tape s js o u e)
