-- The notices of a root have no more bytes than its tape.
--     noted             the bytes of an output's notices
--     notes             they are those of the notice tape
--     node_notes        a tree's notices have no more bytes than the tree has on its tape
--     root_notes        so a root's have no more than its tape
-- Assumes nothing.
use mathlib.Core.Path.{◌≡◌, refl}
use mathlib.Core.Bool.{Bool, true, false, cond, not, ◌&&◌}
use mathlib.Core.List.{List, [], ◌∷◌, ◌++◌}
use Prim.Native.Nat.{ℕ, ◌+◌, ◌≤◌}
use native.Mathlib.Omega.{arith}
use lib.ListN.{length}
use lib.Dec.{eqb, leb}
use Rattle.text.specs.declared.spans.Span.{Span}
use Rattle.text.specs.Bytes.{find}
use Rattle.text.specs.Spans.{part_of}
use Rattle.commands.specs.declared.root.Place.{Place}
use Rattle.definitions.specs.declared.options.Mode.{Mode}
use Rattle.definitions.specs.declared.options.Mode.TheVariants.{Module, Script, Classic}
use Rattle.definitions.specs.Tree.{Name, Property, unnamed, prop_name, Node, element, fragment, Attributes, no_attributes, attribute}
use Rattle.definitions.specs.Tree.{namespaced_attribute, spread, literal, Value, absent, string, expression, empty, node_value, Children}
use Rattle.definitions.specs.Tree.{no_children, text_child, expression_child, empty_child, spread_child, node_child, Root}
use Rattle.definitions.specs.Tree as tree
use Rattle.definitions.specs.Judging.{done}
use Rattle.definitions.specs.Reading.{read_root}
use Rattle.definitions.specs.declared.options.Settings.{Settings}
use Rattle.definitions.specs.declared.records.Import.{Import}
use Rattle.definitions.specs.JsxText.{jsx_text}
use Rattle.definitions.specs.Calls.{Notice, valueless_key, namespaced_tag, invalid_pragma, notice_bytes_of, notice_bytes}
use Rattle.definitions.specs.Calls as call
use Rattle.definitions.specs.Lowering.{Context, Output, emit, notify, notices_of, put, put_over, put_span, piece, joined, colonized, members}
use Rattle.definitions.specs.Lowering.{lower_name, imported, fragment_tag, is_key, has_value, has_proto, carried, lower_literal, is_found}
use Rattle.definitions.specs.Lowering.{attribute_name, key_notice, survivors, has_spread, form_of, children_property, lower_text, source_output}
use Rattle.definitions.specs.Lowering.{self_output, static_children, no_key, is_classic, closing, automatic_name, automatic_call, object_of}
use Rattle.definitions.specs.Lowering.{classic_call, plugins_off, is_last, lone_spread_or, classic_element, lower_node, lower_attributes, lower_key}
use Rattle.definitions.specs.Lowering.{lower_value, lower_children, can_add_self, lower_root}
use Rattle.definitions.specs.Entries.{lowered_after}
use Rattle.definitions.proofs.TreeSizes.{root_size}
use Rattle.definitions.proofs.Weights.{size_name, size_node, size_attributes, size_value, size_children}

unfoldable pub noted : List Output → ℕ
noted [] = 0
noted (emit c ∷ os) = noted os
noted (notify (valueless_key s) ∷ os) = 5 + noted os
noted (notify (namespaced_tag s r) ∷ os) = 9 + noted os
noted (notify (invalid_pragma s) ∷ os) = 5 + noted os

pub notes : (os : List Output) → length (notice_bytes (notices_of os)) ≡ noted os
unfolding notice_bytes notices_of noted notice_bytes_of
notes [] = refl
notes (emit c ∷ os) = notes os
notes (notify (valueless_key s) ∷ os) = omega (arith, notes os)
notes (notify (namespaced_tag s r) ∷ os) = omega (arith, notes os)
notes (notify (invalid_pragma s) ∷ os) = omega (arith, notes os)

noted_append : (xs ys : List Output) → noted (xs ++ ys) ≡ noted xs + noted ys
unfolding noted
noted_append [] ys = omega arith
noted_append (emit c ∷ xs) ys = noted_append xs ys
noted_append (notify (valueless_key s) ∷ xs) ys = omega (arith, noted_append xs ys)
noted_append (notify (namespaced_tag s r) ∷ xs) ys = omega (arith, noted_append xs ys)
noted_append (notify (invalid_pragma s) ∷ xs) ys = omega (arith, noted_append xs ys)

-- ---- parts that notify nobody

-- at most n, whichever way a test goes
either_noted : (b : Bool) (xs ys : List Output) (n : ℕ) → noted xs ≤ n → noted ys ≤ n → noted (cond b xs ys) ≤ n
either_noted true xs ys n h k = h
either_noted false xs ys n h k = k

piece_noted : (s : Span) → noted (piece s) ≤ 0
unfolding noted
piece_noted s = either_noted (eqb s.len 0) [] (put_span call.Piece s) 0 (omega arith) (omega arith)

joined_noted : (ss : List Span) → noted (joined ss) ≤ 0
unfolding joined noted
joined_noted [] = omega arith
joined_noted (s ∷ []) = piece_noted s
joined_noted (s ∷ r ∷ rs) = simp noted_append (omega (arith, piece_noted s, joined_noted (r ∷ rs)))

text_noted : (ss : List Span) → noted (lower_text ss) ≤ 0
unfolding lower_text noted
text_noted [] = omega arith
text_noted (s ∷ ss) = simp noted_append (omega (arith, joined_noted (s ∷ ss)))

members_noted : (ss : List Span) → noted (members ss) ≤ 0
unfolding members noted
members_noted [] = omega arith
members_noted (s ∷ ss) = members_noted ss

colonized_noted : (s r : Span) → noted (colonized s r) ≤ 0
unfolding noted
colonized_noted s r = simp noted_append (omega (arith, piece_noted s, piece_noted r))

imported_noted : (m : Mode) (n k : ℕ) → noted (imported m n k) ≤ 0
unfolding imported noted
imported_noted Module n k = omega arith
imported_noted Script n k = omega arith
imported_noted Classic n k = omega arith

closing_noted : (c : Context) (tag : List Output) (n : ℕ) → noted (closing c tag n) ≤ noted tag
unfolding noted
closing_noted c tag n = simp noted_append (omega (arith, imported_noted c.settings.mode n 0))

source_noted : (c : Context) (p : Place) → noted (source_output c p) ≤ 0
unfolding source_output noted
source_noted c p = either_noted c.settings.options.flags.source_plugin _ [] 0 (omega arith) (omega arith)

self_noted : (c : Context) → noted (self_output c) ≤ 0
unfolding self_output noted
self_noted c = either_noted (c.settings.options.flags.self_plugin && c.self_allowed) (put call.SelfProperty) [] 0 (omega arith) (omega arith)

static_noted : (c : Context) (n : ℕ) → noted (static_children c n) ≤ 0
unfolding static_children noted
static_noted c n =
    either_noted c.settings.options.flags.development _ [] 0
    (either_noted (leb 2 n) (put call.LiteralTrue) (put call.LiteralFalse) 0 (omega arith) (omega arith))
    (omega arith)

no_key_noted : (c : Context) → noted (no_key c) ≤ 0
unfolding no_key noted
no_key_noted c = either_noted c.settings.options.flags.development (put call.VoidZero) [] 0 (omega arith) (omega arith)

attribute_name_noted : (c : Context) (s : Span) → noted (attribute_name c s) ≤ 0
unfolding attribute_name noted
attribute_name_noted c s =
    either_noted (is_found (find (eqb 0x2d) (part_of c.text s))) _ (put_span call.Name s) 0 (simp noted_append (omega (arith, piece_noted s))) (omega arith)

carried_noted : (ps : List Property) → noted (carried ps) ≤ 0
unfolding carried noted
carried_noted [] = omega arith
carried_noted (unnamed e ∷ ps) = carried_noted ps
carried_noted (prop_name e s ∷ ps) = carried_noted ps

literal_noted : (c : Context) (e : ℕ) (ps : List Property) → noted (lower_literal c e ps) ≤ 0
unfolding noted
literal_noted c e ps = either_noted (has_proto c ps) (put_over call.SpreadProperty e) (carried ps) 0 (omega arith) (carried_noted ps)

-- ---- names, keys and calls

name_noted : (c : Context) (n : Name) → noted (lower_name c n) ≤ size_name n
unfolding lower_name noted size_name
name_noted c (tree.plain s) = simp noted_append (omega (arith, piece_noted s))
name_noted c (tree.identifier s ms) = omega (arith, members_noted ms)
name_noted c (tree.this ms) = omega (arith, members_noted ms)
name_noted c (tree.namespaced s r) = go c.settings.options.flags.throw_if_namespace
  where
    go : (b : Bool) → noted (cond b (notify (namespaced_tag s r) ∷ []) [] ++ colonized s r) ≤ 9
    go true = omega (arith, colonized_noted s r)
    go false = omega (arith, colonized_noted s r)

key_noted : (c : Context) (s : Span) (v : Value) → noted (key_notice c s v) ≤ 5
unfolding key_notice noted
key_noted c s v = either_noted (is_key c s && not (has_value v)) (notify (valueless_key s) ∷ []) [] 5 (omega arith) (omega arith)

children_noted : (n form : ℕ) (items : List Output) → noted (children_property n form items) ≤ noted items
unfolding children_property noted
children_noted n form items = either_noted (eqb n 0) [] _ (noted items) (omega arith) (simp noted_append (omega arith))

object_noted : (os : List Output) → noted (object_of os) ≤ noted os
unfolding object_of noted
object_noted [] = omega arith
object_noted (o ∷ os) = simp noted_append (omega arith)

lone_noted : (c : Context) (a : Attributes) (os : List Output) → noted (lone_spread_or c a os) ≤ noted os
unfolding lone_spread_or noted
lone_noted c no_attributes os = omega arith
lone_noted c (attribute s v a) os = omega arith
lone_noted c (namespaced_attribute s r v a) os = omega arith
lone_noted c (spread e a) os = either_noted (is_last a && plugins_off c) (put_over call.SoleSpread e) os (noted os) (omega arith) (omega arith)
lone_noted c (literal e ps a) os =
    either_noted (is_last a && plugins_off c && not (has_proto c ps)) (put_over call.SoleSpread e) os (noted os) (omega arith) (omega arith)

automatic_noted : (c : Context) (ps : List Output) (k : Children) (items key added tag : List Output)
    → noted (automatic_call c ps k items key added tag) ≤ noted ps + noted items + noted key + noted added + noted tag
unfolding automatic_call noted
automatic_noted c ps k items key added tag =
    let n = survivors c k in
    simp noted_append
    (omega (arith, children_noted n (form_of n (has_spread k)) items, static_noted c n, simp noted_append at (closing_noted c tag (automatic_name c n))))

classic_noted : (c : Context) (argument items tag : List Output) → noted (classic_call c argument items tag) ≤ noted argument + noted items + noted tag
unfolding classic_call noted
classic_noted c argument items tag = simp noted_append (omega (arith, simp noted_append at (closing_noted c tag 1)))

-- ---- trees

module _ (c : Context) where
  mutual
    unfolding lower_node lower_attributes lower_key lower_value lower_children noted size_node size_attributes size_value size_children

    pub node_notes : (n : Node) → noted (lower_node c n) ≤ size_node n
    node_notes (element p n a k) =
        either_noted (classic_element c a) _ _ (size_node (element p n a k))
        (omega (
          arith,
          classic_noted c (lone_spread_or c a (object_of (lower_attributes c true a ++ self_output c ++ source_output c p))) (lower_children c k) (lower_name c n),
          lone_noted c a (object_of (lower_attributes c true a ++ self_output c ++ source_output c p)),
          object_noted (lower_attributes c true a ++ self_output c ++ source_output c p),
          noted_append (lower_attributes c true a ++ self_output c) (source_output c p),
          noted_append (lower_attributes c true a) (self_output c),
          self_noted c,
          source_noted c p,
          name_noted c n,
          attributes_note a,
          children_note k,
        ))
        (omega (
          arith,
          automatic_noted c (lower_attributes c false a) k (lower_children c k) (lower_key c a (no_key c)) (source_output c p ++ self_output c) (lower_name c n),
          noted_append (source_output c p) (self_output c),
          self_noted c,
          source_noted c p,
          name_noted c n,
          keyed_note a (no_key c),
          no_key_noted c,
          children_note k,
        ))
    node_notes (fragment p k) =
        either_noted (is_classic c.settings.mode) _ _ (size_node (fragment p k))
        (omega (
          arith,
          classic_noted c (object_of []) (lower_children c k) (fragment_tag c.settings.mode),
          object_noted [],
          imported_noted c.settings.mode 0 1,
          children_note k,
        ))
        (omega (
          arith,
          automatic_noted c [] k (lower_children c k) (no_key c) [] (fragment_tag c.settings.mode),
          imported_noted c.settings.mode 0 1,
          no_key_noted c,
          children_note k,
        ))

    attributes_note : (a : Attributes) → noted (lower_attributes c true a) ≤ size_attributes a
    attributes_note no_attributes = omega arith
    attributes_note (attribute s v a) =
        either_noted (is_key c s && has_value v && not true) (lower_attributes c true a) _ (size_attributes (attribute s v a))
        (omega (arith, attributes_note a))
        (simp noted_append (omega (arith, key_noted c s v, attribute_name_noted c s, value_notes v, attributes_note a)))
    attributes_note (namespaced_attribute s r v a) =
        simp noted_append (omega (arith, simp noted_append at (colonized_noted s r), value_notes v, attributes_note a))
    attributes_note (spread e a) = omega (arith, attributes_note a)
    attributes_note (literal e ps a) = simp noted_append (omega (arith, literal_noted c e ps, attributes_note a))

    -- the value of a key is written once, among the attributes or behind the children
    keyed_note : (a : Attributes) (other : List Output) → noted (lower_attributes c false a) + noted (lower_key c a other) ≤ size_attributes a + noted other
    keyed_note no_attributes other = omega arith
    keyed_note (attribute s v a) other = go (is_key c s) (has_value v) (value_notes v) (keyed_note a)
      where
        go : (k g : Bool) → noted (lower_value c v) ≤ size_value v
            → ((o : List Output) → noted (lower_attributes c false a) + noted (lower_key c a o) ≤ size_attributes a + noted o)
            → noted (cond (k && g && not false) (lower_attributes c false a) (key_notice c s v ++ attribute_name c s ++ lower_value c v ++ lower_attributes c false a))
            + noted (lower_key c a (cond (k && g) (put call.Key ++ lower_value c v) other))
            ≤ 5 + size_value v + size_attributes a + noted other
        go true true w h = omega (arith, h (put call.Key ++ lower_value c v), noted_append (put call.Key) (lower_value c v))
        go true false w h = simp noted_append (omega (arith, h other, key_noted c s v, attribute_name_noted c s))
        go false true w h = simp noted_append (omega (arith, h other, key_noted c s v, attribute_name_noted c s))
        go false false w h = simp noted_append (omega (arith, h other, key_noted c s v, attribute_name_noted c s))
    keyed_note (namespaced_attribute s r v a) other =
        simp noted_append (omega (arith, simp noted_append at (colonized_noted s r), value_notes v, keyed_note a other))
    keyed_note (spread e a) other = omega (arith, keyed_note a other)
    keyed_note (literal e ps a) other = simp noted_append (omega (arith, literal_noted c e ps, keyed_note a other))

    value_notes : (v : Value) → noted (lower_value c v) ≤ size_value v
    value_notes absent = omega arith
    value_notes (string s) = simp noted_append (omega (arith, piece_noted s))
    value_notes (expression e) = omega arith
    value_notes empty = omega arith
    value_notes (node_value n) = node_notes n

    children_note : (k : Children) → noted (lower_children c k) ≤ size_children k
    children_note no_children = omega arith
    children_note (text_child s k) = simp noted_append (omega (arith, text_noted (jsx_text c.text s), children_note k))
    children_note (expression_child e k) = omega (arith, children_note k)
    children_note (empty_child k) = omega (arith, children_note k)
    children_note (spread_child e k) = omega (arith, children_note k)
    children_note (node_child n k) = simp noted_append (omega (arith, node_notes n, children_note k))

pub root_notes : (text tape : List ℕ) (s : Settings) (js : List Import) (r : Root) (u : ℕ) → read_root text tape ≡ done r u
    → length (lowered_after text s js r).notices ≤ u
unfolding lowered_after lower_root
root_notes text tape s js r u e =
    let c : Context = record { text = text; settings = s; self_allowed = can_add_self r } in
    omega (arith, notes (lower_node c r.node), node_notes c r.node, root_size text tape r u e)
