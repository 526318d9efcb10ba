-- docs/TAPES.md, "Call tape" and "Grammar": the calls that a tree becomes and the notices on the way (jsx_impl.rs, jsx_self.rs, jsx_source.rs). A command names a binding
-- by what it is; numbers come later.
use Rattle.std.specs.Prelude.{ℕ, suc, ◌+◌, Bool, true, false, cond, not, ◌&&◌, ◌||◌, List, [], ◌∷◌, ◌++◌, eqb, leb, None, Option, Some}
use Rattle.text.specs.declared.spans.Span.{Span}
use Rattle.text.specs.Bytes.{ascii, same, find}
use Rattle.text.specs.Spans.{part_of}
use Rattle.commands.specs.declared.root.Place.{Place}
use Rattle.commands.specs.declared.root.Heritage.{Heritage}
use Rattle.commands.specs.declared.root.Heritage.TheVariants as heritage
use Rattle.commands.specs.declared.root.ScopeKind.{ScopeKind}
use Rattle.commands.specs.declared.root.ScopeKind.TheVariants as kind
use Rattle.definitions.specs.declared.options.Mode.{Mode}
use Rattle.definitions.specs.declared.options.Mode.TheVariants.{Module, Script, Classic}
use Rattle.definitions.specs.declared.options.Settings.{Settings}
use Rattle.definitions.specs.declared.records.Import.{Import}
use Rattle.definitions.specs.declared.records.Import.TheVariants.{Named, Default, FileName}
use Rattle.definitions.specs.Tree.{Name, Property, unnamed, prop_name, Node, element, fragment, Attributes, no_attributes, attribute, namespaced_attribute, spread, literal, Value, absent, string, expression, empty, node_value, Children, no_children, text_child, expression_child, empty_child, spread_child, node_child, Root}
use Rattle.definitions.specs.Tree as tree
use Rattle.definitions.specs.JsxText.{jsx_text}
use Rattle.definitions.specs.Calls.{Bare, WithByte, WithExpression, WithSpan, Command, bare, byte, over, span, binding, source, Notice, valueless_key, namespaced_tag}
use Rattle.definitions.specs.Calls as call
use Rattle.definitions.specs.Store.{fragment_name, create_element, jsx, jsxs, jsx_dev, source_of}

-- what lowering sees beside the tree
pub record Context : Type 0 where
  pub text : List ℕ
  pub settings : Settings
  pub self_allowed : Bool

-- what lowering gives, in order: a command of the call tape or a notice
pub data Output : Type 0 where
  emit : Command Import → Output
  notify : Notice → Output

-- ---- commands as output

abbrev pub put : Bare → List Output
put c = emit (bare c) ∷ []

abbrev pub put_byte : WithByte → ℕ → List Output
put_byte c n = emit (byte c n) ∷ []

abbrev pub put_over : WithExpression → ℕ → List Output
put_over c e = emit (over c e) ∷ []

abbrev pub put_span : WithSpan → Span → List Output
put_span c s = emit (span c s) ∷ []

abbrev pub put_binding : Import → List Output
put_binding i = emit (binding i) ∷ []

-- ---- strings: "8A, pieces, 8D string (8B S, 8C space, 8E colon; an empty S is no piece)"

abbrev pub piece : Span → List Output
piece s = cond (eqb s.len 0) [] (put_span call.Piece s)

abbrev pub quoted : List Output → List Output
quoted ps = put call.StringBegin ++ ps ++ put call.StringEnd

-- "lines join by one space"
unfoldable pub joined : List Span → List Output
joined [] = []
joined (s ∷ []) = piece s
joined (s ∷ r ∷ rs) = piece s ++ put call.Space ++ joined (r ∷ rs)

-- a namespaced name
abbrev pub colonized : Span → Span → List Output
colonized s r = quoted (piece s ++ put call.Colon ++ piece r)

-- ---- names and expressions

unfoldable pub members : List Span → List Output
members [] = []
members (s ∷ ss) = put_span call.MemberName s ++ members ss

-- `transform_element_name`
unfoldable pub lower_name : Context → Name → List Output
lower_name c (tree.plain s) = quoted (piece s)
lower_name c (tree.identifier s ms) = put_span call.Identifier s ++ members ms
lower_name c (tree.this ms) = put call.This ++ members ms
lower_name c (tree.namespaced s r) =
    cond c.settings.options.flags.throw_if_namespace (notify (namespaced_tag s r) ∷ []) [] ++ colonized s r

-- a name of one of the two sources: "96 binding in a module, 96 binding 99 name in a script"
unfoldable pub imported : Mode → ℕ → ℕ → List Output
imported Module n k = put_binding (Named (source_of n) n)
imported Script n k = put_binding (Default (source_of n)) ++ put_byte call.Member n
imported Classic n k = put_byte call.Pragma k

-- `get_create_element`: "A callee is 98 00 in classic settings"
abbrev pub callee_named : Mode → ℕ → List Output
callee_named m n = imported m n 0

-- `get_fragment`: "a fragment's tag is 98 01, 96 binding, or 96 binding 99 00"
abbrev pub fragment_tag : Mode → List Output
fragment_tag m = imported m fragment_name 1

-- ---- attributes

-- "A key is a 30 whose name is `key`, with or without a value."
abbrev pub is_key : Context → Span → Bool
is_key c s = same (part_of c.text s) (ascii "key")

unfoldable pub has_value : Value → Bool
has_value absent = false
has_value (string s) = true
has_value (expression e) = true
has_value empty = true
has_value (node_value n) = true

unfoldable pub is_proto : Context → Property → Bool
is_proto c (unnamed e) = false
is_proto c (prop_name e s) = same (part_of c.text s) (ascii "__proto__")

-- `has_proto`
unfoldable pub has_proto : Context → List Property → Bool
has_proto c [] = false
has_proto c (p ∷ ps) = is_proto c p || has_proto c ps

-- "87 E carried over from any other literal"
unfoldable pub carried : List Property → List Output
carried [] = []
carried (unnamed e ∷ ps) = put_over call.Carried e ++ carried ps
carried (prop_name e s ∷ ps) = put_over call.Carried e ++ carried ps

-- "86 E spread, also for a literal that has `__proto__`"
abbrev pub lower_literal : Context → ℕ → List Property → List Output
lower_literal c e ps = cond (has_proto c ps) (put_over call.SpreadProperty e) (carried ps)

unfoldable pub is_found : Option ℕ → Bool
is_found (Some p) = true
is_found None = false

-- `get_attribute_name`: "83 S, or 84 and a string where the name has a hyphen or is namespaced"
unfoldable pub attribute_name : Context → Span → List Output
attribute_name c s =
    cond (is_found (find (eqb 0x2d) (part_of c.text s))) (put call.StringName ++ quoted (piece s)) (put_span call.Name s)

-- C0 for a key without value
unfoldable pub key_notice : Context → Span → Value → List Output
key_notice c s v = cond (is_key c s && not (has_value v)) (notify (valueless_key s) ∷ []) []

-- `has_key_after_props_spread`: a key behind a spread (32 or 33), one of which has come
unfoldable pub key_after_spread : Context → Bool → Attributes → Bool
key_after_spread c seen no_attributes = false
key_after_spread c seen (attribute s v a) = (seen && is_key c s) || key_after_spread c seen a
key_after_spread c seen (namespaced_attribute s r v a) = key_after_spread c seen a
key_after_spread c seen (spread e a) = key_after_spread c true a
key_after_spread c seen (literal e ps a) = key_after_spread c true a

-- ---- children

-- "A child survives unless it is a 43 or a 50 whose lines all vanish."
unfoldable pub some_line : List Span → ℕ
some_line [] = 0
some_line (s ∷ ss) = 1

unfoldable pub survivors : Context → Children → ℕ
survivors c no_children = 0
survivors c (text_child s k) = some_line (jsx_text c.text s) + survivors c k
survivors c (expression_child e k) = suc (survivors c k)
survivors c (empty_child k) = survivors c k
survivors c (spread_child e k) = suc (survivors c k)
survivors c (node_child n k) = suc (survivors c k)

unfoldable pub has_spread : Children → Bool
has_spread no_children = false
has_spread (text_child s k) = has_spread k
has_spread (expression_child e k) = has_spread k
has_spread (empty_child k) = has_spread k
has_spread (spread_child e k) = true
has_spread (node_child n k) = has_spread k

-- "9B form (0 one bare item, 1 array)": a lone spread child stays in an array
abbrev pub form_of : ℕ → Bool → ℕ
form_of n spreads = cond (eqb n 1 && not spreads) 0 1

-- "any children as 9A items 9B form"
unfoldable pub children_property : ℕ → ℕ → List Output → List Output
children_property n form items = cond (eqb n 0) [] (put call.ChildrenBegin ++ items ++ put_byte call.ChildrenEnd form)

-- a text child: nothing, or a string of its lines
unfoldable pub lower_text : List Span → List Output
lower_text [] = []
lower_text (s ∷ ss) = quoted (joined (s ∷ ss))

-- ---- what the plugins add to elements

-- `__source`: "A1: binding u8, line u32, column u32, both plus one", "A1 if source plugin"
unfoldable pub source_output : Context → Place → List Output
source_output c p =
    cond c.settings.options.flags.source_plugin
    (emit (source FileName (record { line = p.line + 1; column = p.column + 1 })) ∷ [])
    []

-- `__self`: "A2 (`this`) if self plugin and self allowed"
unfoldable pub self_output : Context → List Output
self_output c = cond (c.settings.options.flags.self_plugin && c.self_allowed) (put call.SelfProperty) []

abbrev pub development : Context → Bool
development c = c.settings.options.flags.development

-- "90 or 91 (true, false: two or more children) in development"
unfoldable pub static_children : Context → ℕ → List Output
static_children c n = cond (development c) (cond (leb 2 n) (put call.LiteralTrue) (put call.LiteralFalse)) []

-- "or 92 (void 0) in development"
unfoldable pub no_key : Context → List Output
no_key c = cond (development c) (put call.VoidZero) []

-- ---- calls

unfoldable pub is_classic : Mode → Bool
is_classic Module = false
is_classic Script = false
is_classic Classic = true

abbrev pub pure_byte : Bool → ℕ
pure_byte p = cond p 1 0

-- "9E tag; 9F callee; A0 pure u8"
abbrev pub closing : Context → List Output → ℕ → List Output
closing c tag n =
    put call.Tag ++ tag ++ put call.Callee ++ callee_named c.settings.mode n ++ put_byte call.CallEnd (pure_byte c.settings.pure)

-- the callee of an automatic call, by its number of children
unfoldable pub automatic_name : Context → ℕ → ℕ
automatic_name c n = cond (development c) jsx_dev (cond (leb 2 n) jsxs jsx)

-- "80 01; 81, properties, any children as 9A items 9B form, 82; 9D and the key's value, or 92 (void 0) in development; 90 or 91 in development; for
-- elements only, A1 if source plugin, then A2 if self plugin and self allowed; 9E tag; 9F callee; A0 pure u8"
unfoldable pub automatic_call : Context → List Output → Children → List Output → List Output → List Output → List Output → List Output
automatic_call c properties k items key added tag =
    put_byte call.Call 1
    ++ put call.ObjectBegin
    ++ properties
    ++ children_property (survivors c k) (form_of (survivors c k) (has_spread k)) items
    ++ put call.ObjectEnd
    ++ key
    ++ static_children c (survivors c k)
    ++ added
    ++ closing c tag (automatic_name c (survivors c k))

-- "object, 88 (null)": the object of some properties, else null
unfoldable pub object_of : List Output → List Output
object_of [] = put call.Null
object_of (o ∷ os) = put call.ObjectBegin ++ (o ∷ os) ++ put call.ObjectEnd

-- "80 00; object, 88 (null) or 89 E; children; 9E; 9F; A0"
unfoldable pub classic_call : Context → List Output → List Output → List Output → List Output
classic_call c argument items tag = put_byte call.Call 0 ++ argument ++ items ++ closing c tag create_element

abbrev pub plugins_off : Context → Bool
plugins_off c = not (c.settings.options.flags.self_plugin || c.settings.options.flags.source_plugin)

unfoldable pub is_last : Attributes → Bool
is_last no_attributes = true
is_last (attribute s v a) = false
is_last (namespaced_attribute s r v a) = false
is_last (spread e a) = false
is_last (literal e ps a) = false

-- "A lone classic spread without `__proto__`, both plugin options off, is 89 E, literal or not."
unfoldable pub lone_spread_or : Context → Attributes → List Output → List Output
lone_spread_or c no_attributes object = object
lone_spread_or c (attribute s v a) object = object
lone_spread_or c (namespaced_attribute s r v a) object = object
lone_spread_or c (spread e a) object = cond (is_last a && plugins_off c) (put_over call.SoleSpread e) object
lone_spread_or c (literal e ps a) object = cond (is_last a && plugins_off c && not (has_proto c ps)) (put_over call.SoleSpread e) object

-- "A key after a spread (32 or 33) makes an element's call classic"
abbrev pub classic_element : Context → Attributes → Bool
classic_element c a = is_classic c.settings.mode || key_after_spread c false a

-- `transform_jsx` and what it calls
unfoldable mutual
  pub lower_node : Context → Node → List Output
  lower_node c (element p n a k) =
      cond (classic_element c a)
      (classic_call c
      (lone_spread_or c a (object_of (lower_attributes c true a ++ self_output c ++ source_output c p)))
      (lower_children c k)
      (lower_name c n))
      (automatic_call c
      (lower_attributes c false a)
      k
      (lower_children c k)
      (lower_key c a (no_key c))
      (source_output c p ++ self_output c)
      (lower_name c n))
  lower_node c (fragment p k) =
      cond (is_classic c.settings.mode)
      (classic_call c (object_of []) (lower_children c k) (fragment_tag c.settings.mode))
      (automatic_call c [] k (lower_children c k) (no_key c) [] (fragment_tag c.settings.mode))

  -- the properties; keys with a value are among them only in a classic call
  pub lower_attributes : Context → Bool → Attributes → List Output
  lower_attributes c classic no_attributes = []
  lower_attributes c classic (attribute s v a) =
      cond (is_key c s && has_value v && not classic)
      (lower_attributes c classic a)
      (key_notice c s v ++ attribute_name c s ++ lower_value c v ++ lower_attributes c classic a)
  lower_attributes c classic (namespaced_attribute s r v a) =
      put call.StringName ++ colonized s r ++ lower_value c v ++ lower_attributes c classic a
  lower_attributes c classic (spread e a) = put_over call.SpreadProperty e ++ lower_attributes c classic a
  lower_attributes c classic (literal e ps a) = lower_literal c e ps ++ lower_attributes c classic a

  -- "Among automatic keys the last value counts, lowered after the children; earlier ones are never lowered.": the last key's value, or what is given
  pub lower_key : Context → Attributes → List Output → List Output
  lower_key c no_attributes other = other
  lower_key c (attribute s v a) other = lower_key c a (cond (is_key c s && has_value v) (put call.Key ++ lower_value c v) other)
  lower_key c (namespaced_attribute s r v a) other = lower_key c a other
  lower_key c (spread e a) other = lower_key c a other
  lower_key c (literal e ps a) other = lower_key c a other

  -- `transform_jsx_attribute_value`: "90 for 40 and 43"
  pub lower_value : Context → Value → List Output
  lower_value c absent = put call.LiteralTrue
  lower_value c (string s) = quoted (piece s)
  lower_value c (expression e) = put_over call.Expression e
  lower_value c empty = put call.LiteralTrue
  lower_value c (node_value n) = lower_node c n

  -- `transform_jsx_child`: "a child 43 gives nothing"
  pub lower_children : Context → Children → List Output
  lower_children c no_children = []
  lower_children c (text_child s k) = lower_text (jsx_text c.text s) ++ lower_children c k
  lower_children c (expression_child e k) = put_over call.Expression e ++ lower_children c k
  lower_children c (empty_child k) = lower_children c k
  lower_children c (spread_child e k) = put_over call.SpreadItem e ++ lower_children c k
  lower_children c (node_child n k) = lower_node c n ++ lower_children c k

-- ---- a root

-- `is_inside_constructor`: the first scope that is no block and no arrow is a constructor
unfoldable pub inside_constructor : List ScopeKind → Bool
inside_constructor [] = false
inside_constructor (kind.Block ∷ ks) = inside_constructor ks
inside_constructor (kind.Arrow ∷ ks) = inside_constructor ks
inside_constructor (kind.Constructor ∷ ks) = true
inside_constructor (kind.Function ∷ ks) = false

-- `has_no_super_class`: the nearest class body extends nothing, or there is none
abbrev pub no_super_class : Heritage → Bool
no_super_class heritage.NoClass = true
no_super_class heritage.Base = true
no_super_class heritage.Derived = false

-- `can_add_self_attribute`
abbrev pub can_add_self : Root → Bool
can_add_self r = not (inside_constructor r.scopes) || no_super_class r.heritage

unfoldable pub lower_root : List ℕ → Settings → Root → List Output
lower_root text s r = lower_node (record { text = text; settings = s; self_allowed = can_add_self r }) r.node

-- the calls and the notices of an output, in order
unfoldable pub commands_of : List Output → List (Command Import)
commands_of [] = []
commands_of (emit c ∷ os) = c ∷ commands_of os
commands_of (notify n ∷ os) = commands_of os

unfoldable pub notices_of : List Output → List Notice
notices_of [] = []
notices_of (emit c ∷ os) = notices_of os
notices_of (notify n ∷ os) = n ∷ notices_of os
