-- A tree that is read off a tape has as many bytes as it took.
--     Told                what holds of a reading's value and of the bytes that it took
--     members_size, ..    the size of a tree is what its reading took
--     root_size           so a root's tree is no larger than the tape
-- Assumes nothing.
use mathlib.Core.Path.{◌≡◌, refl, subst}
use mathlib.Core.Bool.{Bool, true, false, cond, ◌||◌}
use mathlib.Core.List.{List, ◌∷◌}
use Prim.Native.Nat.{ℕ, zero, suc, ◌+◌, ◌*◌, ◌≤◌}
use native.Mathlib.Omega.{arith}
use lib.ListN.{length, drop}
use lib.Dec.{eqb, leb, ltb}
use Rattle.text.specs.declared.spans.Span.{Span}
use Rattle.text.specs.declared.spans.Bounds.{Bounds}
use Rattle.text.specs.declared.spans.Bounds.TheVariants.{Outside, Cuts, Empty, Good}
use Rattle.text.specs.Spans.{part_of, bounds_of}
use Rattle.references.specs.References.{has_reference}
use Rattle.tape.specs.declared.refusal.Fault.{Fault}
use Rattle.tape.specs.declared.refusal.Fault.TheVariants as fault
use Rattle.std.specs.Prelude.{None, Option, Some, Err, Ok, Result}
use Rattle.commands.specs.declared.error.CommandError.{CommandError}
use Rattle.commands.specs.declared.root.Place.{Place}
use Rattle.commands.specs.declared.root.Heritage.{Heritage}
use Rattle.commands.specs.declared.root.ScopeKind.{ScopeKind}
use Rattle.commands.specs.declared.root.ScopeCommand.{ScopeCommand}
use Rattle.commands.specs.declared.root.ScopeCommand.TheVariants as scopes
use Rattle.commands.specs.declared.root.NameCommand.{NameCommand}
use Rattle.commands.specs.declared.root.NameCommand.TheVariants as names
use Rattle.commands.specs.declared.root.AttributeCommand.{AttributeCommand}
use Rattle.commands.specs.declared.root.AttributeCommand.TheVariants as attributes
use Rattle.commands.specs.declared.root.PropertyCommand.{PropertyCommand}
use Rattle.commands.specs.declared.root.PropertyCommand.TheVariants as properties
use Rattle.commands.specs.declared.root.ValueCommand.{ValueCommand}
use Rattle.commands.specs.declared.root.ValueCommand.TheVariants as values
use Rattle.commands.specs.declared.root.ChildCommand.{ChildCommand}
use Rattle.commands.specs.declared.root.ChildCommand.TheVariants as children
use Rattle.commands.specs.Root.{heritage_command, scope_command, name_command, member_command, attribute_command, property_command, value_command, child_command}
use Rattle.definitions.specs.Judging.{Parsed, done, stop, ◌then◌, map, from, spanned, named, worse}
use Rattle.definitions.specs.Tree.{identifier, this, Property, unnamed, prop_name, Node, element, fragment, Attributes}
use Rattle.definitions.specs.Tree.{attribute, namespaced_attribute, spread, literal, Value}
use Rattle.definitions.specs.Tree.{node_value, Children, text_child, expression_child, empty_child, spread_child, node_child, Root}
use Rattle.definitions.specs.Reading.{lettered, opened, members_by, name_by, properties_by, attributes_by, value_by, children_by, members_at}
use Rattle.definitions.specs.Reading.{name_at, properties_at, element_at, fragment_at, attributes_at, value_at, children_at, is_function, Scoped}
use Rattle.definitions.specs.Reading.{in_scope, unscoped, scopes_by, scopes_at, root_by, whole, read_root}
use Rattle.definitions.proofs.Weights.{size_name, size_properties, size_node, size_attributes, size_value, size_children}

-- ---- what holds of a reading

pub data Told {A : Type 0} (R : A → ℕ → Type 0) : Parsed A → Type 0 where
  tells : {a : A} {u : ℕ} → R a u → Told R (done a u)
  faults : {f : Fault} {p : ℕ} → Told R (stop f p)

pub told_then : {A B : Type 0} {R : A → ℕ → Type 0} {S : B → ℕ → Type 0} {p : Parsed A} (k : A → ℕ → Parsed B)
    → Told R p → ((a : A) (u : ℕ) → R a u → Told S (k a u)) → Told S (p then k)
unfolding ◌then◌
told_then k (tells {a} {u} r) h = h a u r
told_then k faults h = faults

pub told_map : {A B : Type 0} {R : A → ℕ → Type 0} {S : B → ℕ → Type 0} {p : Parsed A} (g : A → B)
    → Told R p → ((a : A) (u : ℕ) → R a u → S (g a) u) → Told S (map g p)
unfolding map
told_map g t h = told_then (λ a u. done (g a) u) t (λ a u r. tells (h a u r))

pub told_from : {A : Type 0} {R S : A → ℕ → Type 0} {p : Parsed A} (u : ℕ) → Told R p → ((a : A) (v : ℕ) → R a v → S a (u + v)) → Told S (from u p)
unfolding from
told_from u (tells {a} {u = v} r) h = tells (h a v r)
told_from u faults h = faults

pub told_spanned : {A : Type 0} {R : A → ℕ → Type 0} (b : Bounds) {p : Parsed A} → Told R p → Told R (spanned b p)
unfolding spanned
told_spanned Outside t = faults
told_spanned Cuts t = faults
told_spanned Empty t = t
told_spanned Good t = t

pub told_named : {A : Type 0} {R : A → ℕ → Type 0} (b : Bounds) {p : Parsed A} → Told R p → Told R (named b p)
unfolding named
told_named Outside t = faults
told_named Cuts t = faults
told_named Empty t = faults
told_named Good t = t

pub told_or : {A : Type 0} {R : A → ℕ → Type 0} (b : Bool) (f : Fault) {p : Parsed A} → Told R p → Told R (cond b (stop f 0) p)
told_or true f t = faults
told_or false f t = t

pub told_lettered : {A : Type 0} {R : A → ℕ → Type 0} (text : List ℕ) (s : Span) {p : Parsed A} → Told R p → Told R (lettered text s p)
unfolding lettered
told_lettered text s t = told_spanned (bounds_of text s) (told_or (has_reference (part_of text s)) fault.Reference t)

pub told_opened : {A : Type 0} {R S : A → ℕ → Type 0} (d : ℕ) (p : Place) {body : Parsed A}
    → Told R body → ((a : A) (u : ℕ) → R a u → S a (9 + u)) → Told S (opened d p body)
unfolding opened
told_opened d p t h =
    told_or (leb 64 d) fault.Depth (told_or (eqb p.line 4294967295 || eqb p.column 4294967295) fault.Position (told_from 9 t h))

-- what is told of a reading that gives a value
pub told_done : {A : Type 0} {R : A → ℕ → Type 0} {p : Parsed A} {a : A} {u : ℕ} → Told R p → p ≡ done a u → R a u
told_done {R = R} {a = b} {u = v} (tells {a} {u} r) e =
    let x : a ≡ b = cc in
    let y : u ≡ v = cc in
    subst (λ (n : ℕ). R b n) y (subst (λ (z : _). R z u) x r)
told_done faults e = let z : ◌≡◌ {A = ℕ} 0 1 = cc in absurd (omega arith)

-- ---- sizes

abbrev Sized : {A : Type 0} → (A → ℕ) → Parsed A → Type 0
Sized size p = Told (λ a u. size a ≡ u) p

-- the same of what is read u bytes further on
abbrev Behind : {A : Type 0} → (A → ℕ) → ℕ → Parsed A → Type 0
Behind size u p = Told (λ a v. size a + u ≡ v) p

behind : {A : Type 0} (size : A → ℕ) {p : Parsed A} (u : ℕ) → Sized size p → Behind size u (from u p)
behind size u t = told_from u t (λ a v e. omega arith)

-- ---- by the command in front

abbrev size_members : List Span → ℕ
size_members ms = 5 * length ms

members_by_command : (text t : List ℕ) (c : Result (Option Span) CommandError) (next : ℕ → Parsed (List Span)) → ((u : ℕ) → Behind size_members u (next u)) → Sized size_members (members_by text t c next)
unfolding members_by
members_by_command text t (Ok None) next h = tells refl
members_by_command text t (Err e) next h = faults
members_by_command text t (Ok (Some s)) next h = told_named (bounds_of text s) (told_map (s ∷◌) (h 5) (λ a u e. omega arith))

name_by_command : (text t : List ℕ) (c : Result NameCommand CommandError) (next : ℕ → Parsed (List Span)) → ((u : ℕ) → Behind size_members u (next u)) → Sized size_name (name_by text t c next)
unfolding name_by size_name
name_by_command text t (Err e) next h = faults
name_by_command text t (Ok (names.Plain s)) next h = told_named (bounds_of text s) (tells refl)
name_by_command text t (Ok (names.Identifier s)) next h = told_named (bounds_of text s) (told_map (identifier s) (h 5) (λ a u e. omega arith))
name_by_command text t (Ok names.This) next h = told_map this (h 1) (λ a u e. omega arith)
name_by_command text t (Ok (names.Namespaced s r)) next h = told_named (worse (bounds_of text s) (bounds_of text r)) (tells refl)

properties_by_command : (text t : List ℕ) (c : Result PropertyCommand CommandError) (next : ℕ → Parsed (List Property)) → ((u : ℕ) → Behind size_properties u (next u))
    → Sized size_properties (properties_by text t c next)
unfolding properties_by size_properties
properties_by_command text t (Err e) next h = faults
properties_by_command text t (Ok properties.End) next h = tells refl
properties_by_command text t (Ok (properties.Property e)) next h = told_map (unnamed e ∷◌) (h 3) (λ a u e. omega arith)
properties_by_command text t (Ok (properties.Named e s)) next h = told_spanned (bounds_of text s) (told_map (prop_name e s ∷◌) (h 7) (λ a u e. omega arith))

attributes_by_command : (text t : List ℕ) (c : Result AttributeCommand CommandError) (value : ℕ → Parsed Value) (props : ℕ → Parsed (List Property)) (next : ℕ → Parsed Attributes)
    → ((u : ℕ) → Behind size_value u (value u)) → ((u : ℕ) → Behind size_properties u (props u)) → ((u : ℕ) → Behind size_attributes u (next u))
    → Sized size_attributes (attributes_by text t c value props next)
unfolding attributes_by size_attributes
attributes_by_command text t (Err e) value props next v p h = faults
attributes_by_command text t (Ok attributes.End) value props next v p h = tells refl
attributes_by_command text t (Ok (attributes.Plain s)) value props next v p h =
    told_named (bounds_of text s) (told_then _ (v 5) (λ a u e. told_map (attribute s a) (h u) (λ b w d. omega arith)))
attributes_by_command text t (Ok (attributes.Namespaced s r)) value props next v p h =
    told_named (worse (bounds_of text s) (bounds_of text r)) (told_then _ (v 9) (λ a u e. told_map (namespaced_attribute s r a) (h u) (λ b w d. omega arith)))
attributes_by_command text t (Ok (attributes.Spread e)) value props next v p h = told_map (spread e) (h 3) (λ a u d. omega arith)
attributes_by_command text t (Ok (attributes.Literal e)) value props next v p h = told_then _ (p 3) (λ a u d. told_map (literal e a) (h u) (λ b w c. omega arith))

-- a node behind the nine bytes of its command
abbrev NodeSized : Parsed Node → Type 0
NodeSized p = Told (λ n u. size_node n ≡ 9 + u) p

value_by_command : (text : List ℕ) (d : ℕ) (t : List ℕ) (c : Result ValueCommand CommandError) (full bare : Place → Parsed Node)
    → ((p : Place) → NodeSized (full p)) → ((p : Place) → NodeSized (bare p)) → Sized size_value (value_by text d t c full bare)
unfolding value_by size_value
value_by_command text d t (Err e) full bare h k = faults
value_by_command text d t (Ok values.Absent) full bare h k = tells refl
value_by_command text d t (Ok (values.Text s)) full bare h k = told_lettered text s (tells refl)
value_by_command text d t (Ok (values.Expression e)) full bare h k = tells refl
value_by_command text d t (Ok values.Empty) full bare h k = tells refl
value_by_command text d t (Ok (values.Element p)) full bare h k = told_map node_value (told_opened {S = λ n u. size_node n ≡ u} d p (h p) (λ n u e. e)) (λ n u e. e)
value_by_command text d t (Ok (values.Fragment p)) full bare h k = told_map node_value (told_opened {S = λ n u. size_node n ≡ u} d p (k p) (λ n u e. e)) (λ n u e. e)

children_by_command : (text : List ℕ) (d : ℕ) (t : List ℕ) (c : Result ChildCommand CommandError) (full bare : Place → Parsed Node) (next : ℕ → Parsed Children)
    → ((p : Place) → NodeSized (full p)) → ((p : Place) → NodeSized (bare p)) → ((u : ℕ) → Behind size_children u (next u))
    → Sized size_children (children_by text d t c full bare next)
unfolding children_by size_children
children_by_command text d t (Err e) full bare next h k n = faults
children_by_command text d t (Ok children.End) full bare next h k n = tells refl
children_by_command text d t (Ok (children.Text s)) full bare next h k n = told_lettered text s (told_map (text_child s) (n 5) (λ a u e. omega arith))
children_by_command text d t (Ok (children.Expression e)) full bare next h k n = told_map (expression_child e) (n 3) (λ a u e. omega arith)
children_by_command text d t (Ok children.Empty) full bare next h k n = told_map empty_child (n 1) (λ a u e. omega arith)
children_by_command text d t (Ok (children.Spread e)) full bare next h k n = told_map (spread_child e) (n 3) (λ a u e. omega arith)
children_by_command text d t (Ok (children.Element p)) full bare next h k n =
    told_then _ (told_opened {S = λ x u. size_node x ≡ u} d p (h p) (λ x u e. e)) (λ a u e. told_map (node_child a) (n u) (λ b w c. omega arith))
children_by_command text d t (Ok (children.Fragment p)) full bare next h k n =
    told_then _ (told_opened {S = λ x u. size_node x ≡ u} d p (k p) (λ x u e. e)) (λ a u e. told_map (node_child a) (n u) (λ b w c. omega arith))

-- ---- each reader

members_size : (f : ℕ) (text t : List ℕ) → Sized size_members (members_at f text t)
unfolding members_at
members_size zero text t = faults
members_size (suc f) text t = members_by_command text t (member_command t) _ (λ u. behind size_members u (members_size f text (drop u t)))

name_size : (f : ℕ) (text t : List ℕ) → Sized size_name (name_at f text t)
unfolding name_at
name_size f text t = name_by_command text t (name_command t) _ (λ u. behind size_members u (members_size f text (drop u t)))

properties_size : (f : ℕ) (text t : List ℕ) → Sized size_properties (properties_at f text t)
unfolding properties_at
properties_size zero text t = faults
properties_size (suc f) text t = properties_by_command text t (property_command t) _ (λ u. behind size_properties u (properties_size f text (drop u t)))

mutual
  unfolding element_at fragment_at attributes_at value_at children_at size_node

  pub element_size : (f : ℕ) (text : List ℕ) (d : ℕ) (p : Place) (t : List ℕ) → NodeSized (element_at f text d p t)
  element_size zero text d p t = faults
  element_size (suc f) text d p t =
      told_then _ (name_size f text t) (λ n u e.
      told_then _ (behind size_attributes u (attributes_size f text (suc d) (drop u t))) (λ a v g.
      told_map (element p n a) (behind size_children v (children_size f text (suc d) (drop v t))) (λ k w i. omega arith)))

  pub fragment_size : (f : ℕ) (text : List ℕ) (d : ℕ) (p : Place) (t : List ℕ) → NodeSized (fragment_at f text d p t)
  fragment_size zero text d p t = faults
  fragment_size (suc f) text d p t = told_map (fragment p) (children_size f text (suc d) t) (λ k w i. omega arith)

  pub attributes_size : (f : ℕ) (text : List ℕ) (d : ℕ) (t : List ℕ) → Sized size_attributes (attributes_at f text d t)
  attributes_size zero text d t = faults
  attributes_size (suc f) text d t =
      attributes_by_command text t (attribute_command t) _ _ _
      (λ u. behind size_value u (value_size f text d (drop u t)))
      (λ u. behind size_properties u (properties_size f text (drop u t)))
      (λ u. behind size_attributes u (attributes_size f text d (drop u t)))

  pub value_size : (f : ℕ) (text : List ℕ) (d : ℕ) (t : List ℕ) → Sized size_value (value_at f text d t)
  value_size zero text d t = faults
  value_size (suc f) text d t =
      value_by_command text d t (value_command t) _ _ (λ p. element_size f text d p (drop 9 t)) (λ p. fragment_size f text d p (drop 9 t))

  pub children_size : (f : ℕ) (text : List ℕ) (d : ℕ) (t : List ℕ) → Sized size_children (children_at f text d t)
  children_size zero text d t = faults
  children_size (suc f) text d t =
      children_by_command text d t (child_command t) _ _ _
      (λ p. element_size f text d p (drop 9 t))
      (λ p. fragment_size f text d p (drop 9 t))
      (λ u. behind size_children u (children_size f text d (drop u t)))

-- ---- the root

abbrev ScopedSized : Parsed Scoped → Type 0
ScopedSized p = Told (λ s u. size_node s.node ≤ u) p

scopes_by_command : (text t : List ℕ) (c : Result ScopeCommand CommandError) (full bare : Place → Parsed Node) (next : ScopeKind → Parsed Scoped)
    → ((p : Place) → NodeSized (full p)) → ((p : Place) → NodeSized (bare p)) → ((k : ScopeKind) → ScopedSized (next k)) → ScopedSized (scopes_by text t c full bare next)
unfolding scopes_by
scopes_by_command text t (Err e) full bare next h k n = faults
scopes_by_command text t (Ok (scopes.Scope x)) full bare next h k n = told_map (in_scope x) (n x) (λ s u e. e)
scopes_by_command text t (Ok (scopes.Element p)) full bare next h k n = told_map unscoped (told_opened {S = λ x u. size_node x ≡ u} 0 p (h p) (λ x u e. e)) (λ x u e. omega arith)
scopes_by_command text t (Ok (scopes.Fragment p)) full bare next h k n = told_map unscoped (told_opened {S = λ x u. size_node x ≡ u} 0 p (k p) (λ x u e. e)) (λ x u e. omega arith)

scopes_size : (f : ℕ) (text : List ℕ) (known : Bool) (t : List ℕ) → ScopedSized (scopes_at f text known t)
unfolding scopes_at
scopes_size zero text known t = faults
scopes_size (suc f) text known t =
    scopes_by_command text t (scope_command known t) _ _ _
    (λ p. element_size f text 0 p (drop 9 t))
    (λ p. fragment_size f text 0 p (drop 9 t))
    (λ k. told_from 2 (scopes_size f text (known || is_function k) (drop 2 t)) (λ s u e. omega arith))

abbrev RootSized : Parsed Root → Type 0
RootSized p = Told (λ r u. size_node r.node ≤ u) p

root_by_command : (t : List ℕ) (c : Result Heritage CommandError) (rest : Parsed Scoped) → ScopedSized rest → RootSized (root_by t c rest)
unfolding root_by
root_by_command t (Err e) rest h = faults
root_by_command t (Ok x) rest h = told_map _ h (λ s u e. e)

root_told : (text t : List ℕ) → RootSized (read_root text t)
unfolding read_root whole
root_told text t =
    told_then _
    (root_by_command t (heritage_command t) _ (told_from 2 (scopes_size (suc (length t)) text false (drop 2 t)) (λ s u e. omega arith)))
    (λ r u e. told_whole (ltb u (length t)) r u e)
  where
    told_whole : (b : Bool) (r : Root) (u : ℕ) → size_node r.node ≤ u → RootSized (cond b (stop fault.Grammar u) (done r u))
    told_whole true r u e = faults
    told_whole false r u e = tells e

pub root_size : (text t : List ℕ) (r : Root) (u : ℕ) → read_root text t ≡ done r u → size_node r.node ≤ u
root_size text t r u e = told_done (root_told text t) e
