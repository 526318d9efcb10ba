-- How much lowering writes at the most, by the bytes that a tree takes on its tape.
--     weight                        the bytes of an output, calls and notices together
--     calls_weigh, notices_weigh    each of the two is no more than that
--     size_node, ..                 the bytes of a tree on its tape
--     priced_node, ..               what the texts of a tree come to, each at its price
--     node_weighs_by_texts          a tree's output weighs at most four times its size, and six times the lengths of its texts
--     node_weighs                   or 400,000 times its size, over a text of at most 65,535 bytes
-- Assumes nothing.
use mathlib.Core.Path.{◌≡◌, refl, ap}
use mathlib.Core.Bool.{Bool, true, false, cond, not, ◌&&◌}
use mathlib.Core.List.{List, [], ◌∷◌, ◌++◌}
use Prim.Native.Nat.{ℕ, zero, suc, ◌+◌, ◌*◌, ◌-◌, ◌≤◌}
use native.Mathlib.Omega.{arith}
use lib.ListN.{length, drop, length-append, length-take, length-drop}
use lib.Dec.{eqb, leb}
use Rattle.text.specs.declared.spans.Span.{Span}
use Rattle.text.specs.Bytes.{find}
use Rattle.text.specs.Utf8.{width}
use Rattle.text.specs.Chars.{is_line_terminator}
use Rattle.text.specs.Spans.{part_of}
use Rattle.commands.specs.declared.root.Place.{Place}
use Rattle.definitions.specs.declared.options.Mode.{Mode}
use Rattle.definitions.specs.declared.options.Mode.TheVariants.{Module, Script, Classic}
use Rattle.definitions.specs.declared.records.Import.{Import}
use Rattle.definitions.specs.Tree.{Name, Property, unnamed, prop_name, Node, element, fragment, Attributes, no_attributes, attribute}
use Rattle.definitions.specs.Tree.{namespaced_attribute, spread, literal, Value, absent, string, expression, empty, node_value, Children}
use Rattle.definitions.specs.Tree.{no_children, text_child, expression_child, empty_child, spread_child, node_child}
use Rattle.definitions.specs.Tree as tree
use Rattle.definitions.specs.Pragmas.{onto}
use Rattle.definitions.specs.JsxText.{Placed, chars_from, lines_of, trim_back, later_lines, spans_of, kept_lines, jsx_text}
use Rattle.definitions.specs.Calls.{Command, bare, byte, over, span, binding, source, Notice, valueless_key, namespaced_tag, invalid_pragma, bytes_of, call_bytes, notice_bytes_of, notice_bytes}
use Rattle.definitions.specs.Calls as call
use Rattle.definitions.specs.Store.{bound_by, numbered, numbered_all}
use Rattle.definitions.specs.Lowering.{Context, Output, emit, notify, commands_of, notices_of, put, put_over, put_span, piece, quoted}
use Rattle.definitions.specs.Lowering.{joined, colonized, members, lower_name, imported, fragment_tag, is_key, has_value, has_proto}
use Rattle.definitions.specs.Lowering.{carried, lower_literal, is_found, attribute_name, key_notice, survivors, has_spread, form_of, children_property}
use Rattle.definitions.specs.Lowering.{lower_text, source_output, self_output, static_children, no_key, is_classic, closing, automatic_name}
use Rattle.definitions.specs.Lowering.{automatic_call, object_of, classic_call, plugins_off, is_last, lone_spread_or, classic_element, lower_node}
use Rattle.definitions.specs.Lowering.{lower_attributes, lower_key, lower_value, lower_children}

-- ---- the weight of an output

abbrev pub command_size : {B : Type 0} → Command B → ℕ
command_size (bare c) = 1
command_size (byte c n) = 2
command_size (over c e) = 3
command_size (span c s) = 5
command_size (binding b) = 2
command_size (source b p) = 10

abbrev pub output_size : Output → ℕ
output_size (emit c) = command_size c
output_size (notify (valueless_key s)) = 5
output_size (notify (namespaced_tag s r)) = 9
output_size (notify (invalid_pragma s)) = 5

unfoldable pub weight : List Output → ℕ
weight [] = 0
weight (o ∷ os) = output_size o + weight os

weight_append : (xs ys : List Output) → weight (xs ++ ys) ≡ weight xs + weight ys
unfolding weight
weight_append [] ys = omega arith
weight_append (o ∷ xs) ys = omega (arith, weight_append xs ys)

numbered_size : (js : List Import) (c : Command Import) → length (bytes_of (numbered js c)) ≡ command_size c
unfolding bytes_of numbered
numbered_size js (bare c) = refl
numbered_size js (byte c n) = refl
numbered_size js (over c e) = refl
numbered_size js (span c s) = refl
numbered_size js (binding b) = refl
numbered_size js (source b p) = refl

pub calls_weigh : (js : List Import) (os : List Output) → length (call_bytes (numbered_all js (commands_of os))) ≤ weight os
unfolding call_bytes numbered_all commands_of weight
calls_weigh js [] = omega arith
calls_weigh js (emit c ∷ os) =
    omega (arith, calls_weigh (bound_by js c) os, numbered_size js c, length-append (bytes_of (numbered js c)) (call_bytes (numbered_all (bound_by js c) (commands_of os))))
calls_weigh js (notify (valueless_key s) ∷ os) = omega (arith, calls_weigh js os)
calls_weigh js (notify (namespaced_tag s r) ∷ os) = omega (arith, calls_weigh js os)
calls_weigh js (notify (invalid_pragma s) ∷ os) = omega (arith, calls_weigh js os)

pub notices_weigh : (os : List Output) → length (notice_bytes (notices_of os)) ≤ weight os
unfolding notice_bytes notices_of weight notice_bytes_of
notices_weigh [] = omega arith
notices_weigh (emit c ∷ os) = omega (arith, notices_weigh os)
notices_weigh (notify (valueless_key s) ∷ os) = omega (arith, notices_weigh os)
notices_weigh (notify (namespaced_tag s r) ∷ os) = omega (arith, notices_weigh os)
notices_weigh (notify (invalid_pragma s) ∷ os) = omega (arith, notices_weigh os)

-- ---- a text has no more lines than bytes, and one

chars_few : (n at : ℕ) (l : List ℕ) → length (chars_from n at l) ≤ length l
unfolding chars_from
chars_few zero at [] = omega arith
chars_few (suc n) at [] = omega arith
chars_few zero at (b ∷ l) = omega (arith, chars_few (width (b ∷ l) - 1) (suc at) l)
chars_few (suc n) at (b ∷ l) = omega (arith, chars_few n (suc at) l)

onto_length : (c : Placed) (ls : List (List Placed)) (n : ℕ) → length ls ≤ suc n → length (onto c ls) ≤ suc n
unfolding onto
onto_length c [] n h = omega arith
onto_length c (l ∷ ls) n h = h

lines_few : (cs : List Placed) → length (lines_of cs) ≤ suc (length cs)
unfolding lines_of
lines_few [] = omega arith
lines_few (c ∷ cs) = go (is_line_terminator c.code) (lines_few cs)
  where
    go : (b : Bool) → length (lines_of cs) ≤ suc (length cs) → length (cond b ([] ∷ lines_of cs) (onto c (lines_of cs))) ≤ suc (suc (length cs))
    go true h = omega arith
    go false h = onto_length c (lines_of cs) (suc (length cs)) (omega arith)

later_length : (ls : List (List Placed)) → length (later_lines ls) ≡ length ls
unfolding later_lines
later_length [] = refl
later_length (l ∷ []) = refl
later_length (l ∷ m ∷ ms) = ap suc (later_length (m ∷ ms))

spans_few : (ls : List (List Placed)) → length (spans_of ls) ≤ length ls
unfolding spans_of
spans_few [] = omega arith
spans_few ([] ∷ ls) = omega (arith, spans_few ls)
spans_few ((c ∷ cs) ∷ ls) = omega (arith, spans_few ls)

kept_few : (s : Span) (ls : List (List Placed)) → length (kept_lines s ls) ≤ suc (length ls)
unfolding kept_lines
kept_few s [] = omega arith
kept_few s (l ∷ []) = omega arith
kept_few s (l ∷ m ∷ ms) = omega (arith, spans_few (trim_back l ∷ later_lines (m ∷ ms)), later_length (m ∷ ms))

text_few : (text : List ℕ) (s : Span) → length (jsx_text text s) ≤ length (part_of text s) + 2
unfolding jsx_text
text_few text s =
    let cs = chars_from 0 s.start (part_of text s) in
    omega (arith, kept_few s (lines_of cs), lines_few cs, chars_few 0 s.start (part_of text s))

piece_weighs : (s : Span) → weight (piece s) ≤ 5
unfolding weight
piece_weighs s = go (eqb s.len 0)
  where
    go : (b : Bool) → weight (cond b [] (put_span call.Piece s)) ≤ 5
    go true = omega arith
    go false = omega arith

joined_weighs : (ss : List Span) → weight (joined ss) ≤ 6 * length ss
unfolding joined weight
joined_weighs [] = omega arith
joined_weighs (s ∷ []) = omega (arith, piece_weighs s)
joined_weighs (s ∷ r ∷ rs) = simp weight_append (omega (arith, piece_weighs s, joined_weighs (r ∷ rs)))

quoted_weighs : (os : List Output) → weight (quoted os) ≡ weight os + 2
unfolding weight
quoted_weighs os = simp weight_append (omega arith)

lines_weigh : (ss : List Span) → weight (lower_text ss) ≤ 6 * length ss + 2
unfolding lower_text weight
lines_weigh [] = omega arith
lines_weigh (s ∷ ss) = omega (arith, quoted_weighs (joined (s ∷ ss)), joined_weighs (s ∷ ss))

-- ---- names, attribute names and what calls add

members_weigh : (ss : List Span) → weight (members ss) ≡ 5 * length ss
unfolding members weight
members_weigh [] = omega arith
members_weigh (s ∷ ss) = omega (arith, members_weigh ss)

colonized_weighs : (s r : Span) → weight (colonized s r) ≤ 13
unfolding weight
colonized_weighs s r = simp weight_append (omega (arith, piece_weighs s, piece_weighs r))

unfoldable pub size_name : Name → ℕ
size_name (tree.plain s) = 5
size_name (tree.identifier s ms) = 5 + 5 * length ms
size_name (tree.this ms) = 1 + 5 * length ms
size_name (tree.namespaced s r) = 9

name_weighs : (c : Context) (n : Name) → weight (lower_name c n) ≤ 4 * size_name n
unfolding lower_name weight size_name
name_weighs c (tree.plain s) = omega (arith, quoted_weighs (piece s), piece_weighs s)
name_weighs c (tree.identifier s ms) = omega (arith, members_weigh ms)
name_weighs c (tree.this ms) = omega (arith, members_weigh ms)
name_weighs c (tree.namespaced s r) = go c.settings.options.flags.throw_if_namespace
  where
    go : (b : Bool) → weight (cond b (notify (namespaced_tag s r) ∷ []) [] ++ colonized s r) ≤ 4 * 9
    go true = omega (arith, colonized_weighs s r)
    go false = omega (arith, colonized_weighs s r)

imported_weighs : (m : Mode) (n k : ℕ) → weight (imported m n k) ≤ 4
unfolding imported weight
imported_weighs Module n k = omega arith
imported_weighs Script n k = omega arith
imported_weighs Classic n k = omega arith

closing_weighs : (c : Context) (tag : List Output) (n : ℕ) → weight (closing c tag n) ≤ weight tag + 8
unfolding weight
closing_weighs c tag n = simp weight_append (omega (arith, imported_weighs c.settings.mode n 0))

-- at most n, whichever way a test goes
either_weighs : (b : Bool) (xs ys : List Output) (n : ℕ) → weight xs ≤ n → weight ys ≤ n → weight (cond b xs ys) ≤ n
either_weighs true xs ys n h k = h
either_weighs false xs ys n h k = k

source_weighs : (c : Context) (p : Place) → weight (source_output c p) ≤ 10
unfolding source_output weight
source_weighs c p = either_weighs c.settings.options.flags.source_plugin _ [] 10 (omega arith) (omega arith)

self_weighs : (c : Context) → weight (self_output c) ≤ 1
unfolding self_output weight
self_weighs c = either_weighs (c.settings.options.flags.self_plugin && c.self_allowed) (put call.SelfProperty) [] 1 (omega arith) (omega arith)

static_weighs : (c : Context) (n : ℕ) → weight (static_children c n) ≤ 1
unfolding static_children weight
static_weighs c n =
    either_weighs c.settings.options.flags.development _ [] 1
    (either_weighs (leb 2 n) (put call.LiteralTrue) (put call.LiteralFalse) 1 (omega arith) (omega arith))
    (omega arith)

no_key_weighs : (c : Context) → weight (no_key c) ≤ 1
unfolding no_key weight
no_key_weighs c = either_weighs c.settings.options.flags.development (put call.VoidZero) [] 1 (omega arith) (omega arith)

attribute_name_weighs : (c : Context) (s : Span) → weight (attribute_name c s) ≤ 8
unfolding attribute_name weight
attribute_name_weighs c s =
    either_weighs (is_found (find (eqb 0x2d) (part_of c.text s))) _ (put_span call.Name s) 8
    (simp weight_append (omega (arith, piece_weighs s)))
    (omega arith)

notice_weighs : (c : Context) (s : Span) (v : Value) → weight (key_notice c s v) ≤ 5
unfolding key_notice weight
notice_weighs c s v = either_weighs (is_key c s && not (has_value v)) (notify (valueless_key s) ∷ []) [] 5 (omega arith) (omega arith)

unfoldable pub size_properties : List Property → ℕ
size_properties [] = 1
size_properties (unnamed e ∷ ps) = 3 + size_properties ps
size_properties (prop_name e s ∷ ps) = 7 + size_properties ps

carried_weighs : (ps : List Property) → weight (carried ps) ≤ size_properties ps
unfolding carried weight size_properties
carried_weighs [] = omega arith
carried_weighs (unnamed e ∷ ps) = omega (arith, carried_weighs ps)
carried_weighs (prop_name e s ∷ ps) = omega (arith, carried_weighs ps)

literal_weighs : (c : Context) (e : ℕ) (ps : List Property) → weight (lower_literal c e ps) ≤ 3 + size_properties ps
unfolding weight
literal_weighs c e ps =
    either_weighs (has_proto c ps) (put_over call.SpreadProperty e) (carried ps) (3 + size_properties ps) (omega arith) (omega (arith, carried_weighs ps))

children_weigh : (n form : ℕ) (items : List Output) → weight (children_property n form items) ≤ weight items + 3
unfolding children_property weight
children_weigh n form items = either_weighs (eqb n 0) [] _ (weight items + 3) (omega arith) (simp weight_append (omega arith))

object_weighs : (os : List Output) → weight (object_of os) ≤ weight os + 2
unfolding object_of weight
object_weighs [] = omega arith
object_weighs (o ∷ os) = simp weight_append (omega arith)

lone_weighs : (c : Context) (a : Attributes) (os : List Output) → weight (lone_spread_or c a os) ≤ weight os + 3
unfolding lone_spread_or weight
lone_weighs c no_attributes os = omega arith
lone_weighs c (attribute s v a) os = omega arith
lone_weighs c (namespaced_attribute s r v a) os = omega arith
lone_weighs c (spread e a) os = either_weighs (is_last a && plugins_off c) (put_over call.SoleSpread e) os (weight os + 3) (omega arith) (omega arith)
lone_weighs c (literal e ps a) os =
    either_weighs (is_last a && plugins_off c && not (has_proto c ps)) (put_over call.SoleSpread e) os (weight os + 3) (omega arith) (omega arith)

automatic_weighs : (c : Context) (ps : List Output) (k : Children) (items key added tag : List Output)
    → weight (automatic_call c ps k items key added tag) ≤ weight ps + weight items + weight key + weight added + weight tag + 16
unfolding automatic_call weight
automatic_weighs c ps k items key added tag =
    let n = survivors c k in
    simp weight_append
    (omega (arith, children_weigh n (form_of n (has_spread k)) items, static_weighs c n, simp weight_append at (closing_weighs c tag (automatic_name c n))))

classic_weighs : (c : Context) (argument items tag : List Output) → weight (classic_call c argument items tag) ≤ weight argument + weight items + weight tag + 10
unfolding classic_call weight
classic_weighs c argument items tag = simp weight_append (omega (arith, simp weight_append at (closing_weighs c tag 1)))

-- ---- trees

unfoldable mutual
  pub size_node : Node → ℕ
  size_node (element p n a k) = 9 + size_name n + size_attributes a + size_children k
  size_node (fragment p k) = 9 + size_children k

  pub size_attributes : Attributes → ℕ
  size_attributes no_attributes = 1
  size_attributes (attribute s v a) = 5 + size_value v + size_attributes a
  size_attributes (namespaced_attribute s r v a) = 9 + size_value v + size_attributes a
  size_attributes (spread e a) = 3 + size_attributes a
  size_attributes (literal e ps a) = 3 + size_properties ps + size_attributes a

  pub size_value : Value → ℕ
  size_value absent = 1
  size_value (string s) = 5
  size_value (expression e) = 3
  size_value empty = 1
  size_value (node_value n) = size_node n

  pub size_children : Children → ℕ
  size_children no_children = 1
  size_children (text_child s k) = 5 + size_children k
  size_children (expression_child e k) = 3 + size_children k
  size_children (empty_child k) = 1 + size_children k
  size_children (spread_child e k) = 3 + size_children k
  size_children (node_child n k) = size_node n + size_children k

-- ---- what the texts of a tree come to, each at its price

module _ (price : Span → ℕ) where
  unfoldable mutual
    pub priced_node : Node → ℕ
    priced_node (element p n a k) = priced_attributes a + priced_children k
    priced_node (fragment p k) = priced_children k

    pub priced_attributes : Attributes → ℕ
    priced_attributes no_attributes = 0
    priced_attributes (attribute s v a) = priced_value v + priced_attributes a
    priced_attributes (namespaced_attribute s r v a) = priced_value v + priced_attributes a
    priced_attributes (spread e a) = priced_attributes a
    priced_attributes (literal e ps a) = priced_attributes a

    pub priced_value : Value → ℕ
    priced_value absent = 0
    priced_value (string s) = 0
    priced_value (expression e) = 0
    priced_value empty = 0
    priced_value (node_value n) = priced_node n

    pub priced_children : Children → ℕ
    priced_children no_children = 0
    priced_children (text_child s k) = price s + priced_children k
    priced_children (expression_child e k) = priced_children k
    priced_children (empty_child k) = priced_children k
    priced_children (spread_child e k) = priced_children k
    priced_children (node_child n k) = priced_node n + priced_children k

-- the output of a tree is four bytes for each of its own and the price of its texts, where a text that costs no more than its price is given twenty bytes
module _ (c : Context) (price : Span → ℕ) (text_weighs : (s : Span) → weight (lower_text (jsx_text c.text s)) ≤ 20 + price s) where
  mutual
    unfolding lower_node lower_attributes lower_key lower_value lower_children weight size_node size_attributes size_value size_children priced_node priced_attributes priced_value priced_children

    pub tree_weighs : (n : Node) → weight (lower_node c n) ≤ 4 * size_node n + priced_node price n
    tree_weighs (element p n a k) =
        either_weighs (classic_element c a) _ _ (4 * size_node (element p n a k) + priced_node price (element p n a k))
        (omega (
          arith,
          classic_weighs c (lone_spread_or c a (object_of (lower_attributes c true a ++ self_output c ++ source_output c p))) (lower_children c k) (lower_name c n),
          lone_weighs c a (object_of (lower_attributes c true a ++ self_output c ++ source_output c p)),
          object_weighs (lower_attributes c true a ++ self_output c ++ source_output c p),
          weight_append (lower_attributes c true a ++ self_output c) (source_output c p),
          weight_append (lower_attributes c true a) (self_output c),
          self_weighs c,
          source_weighs c p,
          name_weighs c n,
          attributes_weigh a,
          children_weighs k,
        ))
        (omega (
          arith,
          automatic_weighs c (lower_attributes c false a) k (lower_children c k) (lower_key c a (no_key c)) (source_output c p ++ self_output c) (lower_name c n),
          weight_append (source_output c p) (self_output c),
          self_weighs c,
          source_weighs c p,
          name_weighs c n,
          keyed_weigh a (no_key c),
          no_key_weighs c,
          children_weighs k,
        ))
    tree_weighs (fragment p k) =
        either_weighs (is_classic c.settings.mode) _ _ (4 * size_node (fragment p k) + priced_node price (fragment p k))
        (omega (
          arith,
          classic_weighs c (object_of []) (lower_children c k) (fragment_tag c.settings.mode),
          object_weighs [],
          imported_weighs c.settings.mode 0 1,
          children_weighs k,
        ))
        (omega (
          arith,
          automatic_weighs c [] k (lower_children c k) (no_key c) [] (fragment_tag c.settings.mode),
          imported_weighs c.settings.mode 0 1,
          no_key_weighs c,
          children_weighs k,
        ))

    attributes_weigh : (a : Attributes) → weight (lower_attributes c true a) ≤ 4 * size_attributes a + priced_attributes price a
    attributes_weigh no_attributes = omega arith
    attributes_weigh (attribute s v a) =
        either_weighs (is_key c s && has_value v && not true) (lower_attributes c true a) _ (4 * size_attributes (attribute s v a) + priced_attributes price (attribute s v a))
        (omega (arith, attributes_weigh a))
        (simp weight_append (omega (arith, notice_weighs c s v, attribute_name_weighs c s, value_weighs v, attributes_weigh a)))
    attributes_weigh (namespaced_attribute s r v a) =
        simp weight_append (omega (arith, simp weight_append at (colonized_weighs s r), value_weighs v, attributes_weigh a))
    attributes_weigh (spread e a) = omega (arith, attributes_weigh a)
    attributes_weigh (literal e ps a) = simp weight_append (omega (arith, literal_weighs c e ps, attributes_weigh a))

    -- the value of a key is written once, among the attributes or behind the children
    keyed_weigh : (a : Attributes) (other : List Output)
        → weight (lower_attributes c false a) + weight (lower_key c a other) ≤ 4 * size_attributes a + priced_attributes price a + weight other
    keyed_weigh no_attributes other = omega arith
    keyed_weigh (attribute s v a) other = go (is_key c s) (has_value v) (value_weighs v) (keyed_weigh a)
      where
        go : (k g : Bool) → weight (lower_value c v) ≤ 4 * size_value v + priced_value price v
            → ((o : List Output) → weight (lower_attributes c false a) + weight (lower_key c a o) ≤ 4 * size_attributes a + priced_attributes price a + weight o)
            → weight (cond (k && g && not false) (lower_attributes c false a) (key_notice c s v ++ attribute_name c s ++ lower_value c v ++ lower_attributes c false a))
            + weight (lower_key c a (cond (k && g) (put call.Key ++ lower_value c v) other))
            ≤ 4 * (5 + size_value v + size_attributes a) + (priced_value price v + priced_attributes price a) + weight other
        go true true w h = omega (arith, h (put call.Key ++ lower_value c v), weight_append (put call.Key) (lower_value c v))
        go true false w h = simp weight_append (omega (arith, h other, notice_weighs c s v, attribute_name_weighs c s))
        go false true w h = simp weight_append (omega (arith, h other, notice_weighs c s v, attribute_name_weighs c s))
        go false false w h = simp weight_append (omega (arith, h other, notice_weighs c s v, attribute_name_weighs c s))
    keyed_weigh (namespaced_attribute s r v a) other =
        simp weight_append (omega (arith, simp weight_append at (colonized_weighs s r), value_weighs v, keyed_weigh a other))
    keyed_weigh (spread e a) other = omega (arith, keyed_weigh a other)
    keyed_weigh (literal e ps a) other = simp weight_append (omega (arith, literal_weighs c e ps, keyed_weigh a other))

    value_weighs : (v : Value) → weight (lower_value c v) ≤ 4 * size_value v + priced_value price v
    value_weighs absent = omega arith
    value_weighs (string s) = omega (arith, quoted_weighs (piece s), piece_weighs s)
    value_weighs (expression e) = omega arith
    value_weighs empty = omega arith
    value_weighs (node_value n) = tree_weighs n

    children_weighs : (k : Children) → weight (lower_children c k) ≤ 4 * size_children k + priced_children price k
    children_weighs no_children = omega arith
    children_weighs (text_child s k) = simp weight_append (omega (arith, text_weighs s, children_weighs k))
    children_weighs (expression_child e k) = omega (arith, children_weighs k)
    children_weighs (empty_child k) = omega (arith, children_weighs k)
    children_weighs (spread_child e k) = omega (arith, children_weighs k)
    children_weighs (node_child n k) = simp weight_append (omega (arith, tree_weighs n, children_weighs k))

-- ---- by the texts' lengths

-- a text has no more lines than bytes, and two, of six bytes each, and a string has two ends
pub text_weighs : (text : List ℕ) (s : Span) → weight (lower_text (jsx_text text s)) ≤ 20 + 6 * length (part_of text s)
text_weighs text s = omega (arith, lines_weigh (jsx_text text s), text_few text s)

pub part_within : (text : List ℕ) (s : Span) → length (part_of text s) ≤ s.len
unfolding part_of
part_within text s = omega (arith, length-take s.len (drop s.start text))

part_short : (text : List ℕ) (s : Span) → length (part_of text s) ≤ length text
unfolding part_of
part_short text s = omega (arith, length-take s.len (drop s.start text), length-drop s.start text)

pub node_weighs_by_texts : (c : Context) (n : Node) → weight (lower_node c n) ≤ 4 * size_node n + priced_node (λ s. 6 * s.len) n
node_weighs_by_texts c = tree_weighs c (λ s. 6 * s.len) (λ s. omega (arith, text_weighs c.text s, part_within c.text s))

-- ---- whatever the texts

module _ (price : Span → ℕ) (most : (s : Span) → price s ≤ 393210) where
  mutual
    unfolding size_node size_attributes size_value size_children priced_node priced_attributes priced_value priced_children

    priced_node_within : (n : Node) → priced_node price n ≤ 393210 * size_node n
    priced_node_within (element p n a k) = omega (arith, priced_attributes_within a, priced_children_within k)
    priced_node_within (fragment p k) = omega (arith, priced_children_within k)

    priced_attributes_within : (a : Attributes) → priced_attributes price a ≤ 393210 * size_attributes a
    priced_attributes_within no_attributes = omega arith
    priced_attributes_within (attribute s v a) = omega (arith, priced_value_within v, priced_attributes_within a)
    priced_attributes_within (namespaced_attribute s r v a) = omega (arith, priced_value_within v, priced_attributes_within a)
    priced_attributes_within (spread e a) = omega (arith, priced_attributes_within a)
    priced_attributes_within (literal e ps a) = omega (arith, priced_attributes_within a)

    priced_value_within : (v : Value) → priced_value price v ≤ 393210 * size_value v
    priced_value_within absent = omega arith
    priced_value_within (string s) = omega arith
    priced_value_within (expression e) = omega arith
    priced_value_within empty = omega arith
    priced_value_within (node_value n) = priced_node_within n

    priced_children_within : (k : Children) → priced_children price k ≤ 393210 * size_children k
    priced_children_within no_children = omega arith
    priced_children_within (text_child s k) = omega (arith, most s, priced_children_within k)
    priced_children_within (expression_child e k) = omega (arith, priced_children_within k)
    priced_children_within (empty_child k) = omega (arith, priced_children_within k)
    priced_children_within (spread_child e k) = omega (arith, priced_children_within k)
    priced_children_within (node_child n k) = omega (arith, priced_node_within n, priced_children_within k)

pub node_weighs : (c : Context) → length c.text ≤ 65535 → (n : Node) → weight (lower_node c n) ≤ 400000 * size_node n
node_weighs c short n =
    let price : Span → ℕ = λ s. 6 * length (part_of c.text s) in
    omega (arith, tree_weighs c price (text_weighs c.text) n, priced_node_within price (λ s. omega (arith, part_short c.text s)) n)
