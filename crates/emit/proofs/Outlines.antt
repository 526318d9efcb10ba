-- Lowering asks no more of the settings than their outline: over both a tree gives the same.
--     outlined_node     a node
--     outlined_root     a root
--     byte_told         a byte tells the outline
-- Assumes nothing.
use mathlib.Core.Path.{◌≡◌, refl}
use mathlib.Core.Bool.{Bool, true, false, cond, not, ◌&&◌, ◌||◌}
use mathlib.Core.List.{List, [], ◌∷◌, ◌++◌}
use Prim.Native.Nat.{ℕ, suc, ◌+◌, ◌*◌, ◌/◌, ◌%◌, ◌^◌, ◌≤◌}
use native.Mathlib.Omega.{arith}
use lib.Dec.{eqb}
use Rattle.definitions.specs.declared.options.Mode.{Mode}
use Rattle.definitions.specs.declared.options.Mode.TheVariants.{Module, Script, Classic}
use Rattle.definitions.specs.declared.options.Settings.{Settings}
use Rattle.definitions.specs.Tree.{Name, Property, unnamed, prop_name, Node, element, fragment, Attributes, no_attributes, attribute, namespaced_attribute, spread, literal, Value, absent, string, expression, empty, node_value, Children, no_children, text_child, expression_child, empty_child, spread_child, node_child, Root}
use Rattle.definitions.specs.Tree as tree
use Rattle.definitions.specs.JsxText.{jsx_text}
use Rattle.definitions.specs.declared.call_tape.Bare.TheVariants as bare
use Rattle.definitions.specs.declared.call_tape.WithByte.TheVariants as with_byte
use Rattle.definitions.specs.declared.call_tape.WithExpression.TheVariants as with_expression
use Rattle.definitions.specs.Lowering.{Context, Output, put, put_byte, put_over, colonized, lower_name, is_key, has_value, is_proto, has_proto, carried, attribute_name, key_notice, key_after_spread, some_line, survivors, has_spread, form_of, children_property, lower_text, source_output, self_output, static_children, no_key, is_classic, closing, automatic_name, automatic_call, object_of, classic_call, fragment_tag, plugins_off, is_last, lone_spread_or, lower_node, lower_attributes, lower_key, lower_value, lower_children, can_add_self, lower_root}
use Rattle.emit.specs.Outlines.{outlined, outline, mode_in, settings_in, outlined_byte, outline_byte}

module _ (text : List ℕ) (s : Settings) (allowed : Bool) where
  abbrev whole : Context
  whole = record { text = text; settings = s; self_allowed = allowed }

  abbrev brief : Context
  brief = record { text = text; settings = outline s; self_allowed = allowed }

  proto : (p : Property) → is_proto brief p ≡ is_proto whole p
  unfolding is_proto
  proto (unnamed e) = refl
  proto (prop_name e r) = refl

  protos : (ps : List Property) → has_proto brief ps ≡ has_proto whole ps
  unfolding has_proto
  protos [] = refl
  protos (p ∷ ps) = λ ι. proto p ι || protos ps ι

  keys : (seen : Bool) (a : Attributes) → key_after_spread brief seen a ≡ key_after_spread whole seen a
  unfolding key_after_spread
  keys seen no_attributes = refl
  keys seen (attribute r v a) = λ ι. (seen && is_key whole r) || keys seen a ι
  keys seen (namespaced_attribute r q v a) = keys seen a
  keys seen (spread e a) = keys true a
  keys seen (literal e ps a) = keys true a

  counts : (k : Children) → survivors brief k ≡ survivors whole k
  unfolding survivors
  counts no_children = refl
  counts (text_child r k) = λ ι. some_line (jsx_text text r) + counts k ι
  counts (expression_child e k) = λ ι. suc (counts k ι)
  counts (empty_child k) = counts k
  counts (spread_child e k) = λ ι. suc (counts k ι)
  counts (node_child n k) = λ ι. suc (counts k ι)

  name : (n : Name) → lower_name brief n ≡ lower_name whole n
  unfolding lower_name
  name (tree.plain r) = refl
  name (tree.identifier r ms) = refl
  name (tree.this ms) = refl
  name (tree.namespaced r q) = refl

  lone : (a : Attributes) {x y : List Output} → x ≡ y → lone_spread_or brief a x ≡ lone_spread_or whole a y
  unfolding lone_spread_or
  lone no_attributes h = h
  lone (attribute r v a) h = h
  lone (namespaced_attribute r q v a) h = h
  lone (spread e a) h = λ ι. cond (is_last a && plugins_off whole) (put_over with_expression.SoleSpread e) (h ι)
  lone (literal e ps a) h = λ ι. cond (is_last a && plugins_off whole && not (protos ps ι)) (put_over with_expression.SoleSpread e) (h ι)

  automatic : (k : Children) (added : List Output) {ps ps' items items' key key' tag tag' : List Output} → ps ≡ ps' → items ≡ items' → key ≡ key' → tag ≡ tag'
      → automatic_call brief ps k items key added tag ≡ automatic_call whole ps' k items' key' added tag'
  unfolding automatic_call static_children automatic_name
  automatic k added p i q t =
      λ ι.
      put_byte with_byte.Call 1
      ++ put bare.ObjectBegin
      ++ p ι
      ++ children_property (counts k ι) (form_of (counts k ι) (has_spread k)) (i ι)
      ++ put bare.ObjectEnd
      ++ q ι
      ++ static_children whole (counts k ι)
      ++ added
      ++ closing whole (t ι) (automatic_name whole (counts k ι))

  mutual
    unfolding lower_node classic_call source_output self_output no_key key_notice attribute_name

    pub outlined_node : (n : Node) → lower_node brief n ≡ lower_node whole n
    outlined_node (element p n a k) =
        λ ι.
        cond (is_classic s.mode || keys false a ι)
        (classic_call whole
        (lone a (λ κ. object_of (attributes true a κ ++ self_output whole ++ source_output whole p)) ι)
        (children k ι)
        (name n ι))
        (automatic k (source_output whole p ++ self_output whole) (attributes false a) (children k) (key a {x = no_key brief} refl) (name n) ι)
    outlined_node (fragment p k) =
        λ ι.
        cond (is_classic s.mode)
        (classic_call whole (object_of []) (children k ι) (fragment_tag s.mode))
        (automatic k [] {ps = []} {key = no_key brief} {tag = fragment_tag s.mode} refl (children k) refl refl ι)

    attributes : (classic : Bool) (a : Attributes) → lower_attributes brief classic a ≡ lower_attributes whole classic a
    attributes classic no_attributes = refl
    attributes classic (attribute r v a) =
        λ ι.
        cond (is_key whole r && has_value v && not classic)
        (attributes classic a ι)
        (key_notice whole r v ++ attribute_name whole r ++ value v ι ++ attributes classic a ι)
    attributes classic (namespaced_attribute r q v a) = λ ι. put bare.StringName ++ colonized r q ++ value v ι ++ attributes classic a ι
    attributes classic (spread e a) = λ ι. put_over with_expression.SpreadProperty e ++ attributes classic a ι
    attributes classic (literal e ps a) =
        λ ι. cond (protos ps ι) (put_over with_expression.SpreadProperty e) (carried ps) ++ attributes classic a ι

    key : (a : Attributes) {x y : List Output} → x ≡ y → lower_key brief a x ≡ lower_key whole a y
    key no_attributes h = h
    key (attribute r v a) h = key a (λ ι. cond (is_key whole r && has_value v) (put bare.Key ++ value v ι) (h ι))
    key (namespaced_attribute r q v a) h = key a h
    key (spread e a) h = key a h
    key (literal e ps a) h = key a h

    value : (v : Value) → lower_value brief v ≡ lower_value whole v
    value absent = refl
    value (string r) = refl
    value (expression e) = refl
    value empty = refl
    value (node_value n) = outlined_node n

    children : (k : Children) → lower_children brief k ≡ lower_children whole k
    children no_children = refl
    children (text_child r k) = λ ι. lower_text (jsx_text text r) ++ children k ι
    children (expression_child e k) = λ ι. put_over with_expression.Expression e ++ children k ι
    children (empty_child k) = children k
    children (spread_child e k) = λ ι. put_over with_expression.SpreadItem e ++ children k ι
    children (node_child n k) = λ ι. outlined_node n ι ++ children k ι

pub outlined_root : (text : List ℕ) (s : Settings) (r : Root) → lower_root text (outline s) r ≡ lower_root text s r
unfolding lower_root
outlined_root text s r = outlined_node text s (can_add_self r) r.node

-- ---- a byte tells the outline

weighs : (b : Bool) (n : ℕ) → (cond b n 0 ≡ cond b 1 0 * n) × (cond b 1 0 ≤ 1)
weighs true n = (omega arith, omega arith)
weighs false n = (omega arith, omega arith)

told : (b : Bool) (n : ℕ) → n ≡ cond b 1 0 → eqb n 1 ≡ b
told true n e = rw e
told false n e = rw e

module _ (a b c d e : Bool) where
  abbrev low : ℕ
  low = cond a 2 0 + cond b 4 0 + cond c 16 0 + cond d 32 0 + cond e 64 0

  abbrev Bits : ℕ → ℕ → ℕ → Type 0
  Bits n classic modules =
      (n / 2 ^ 3 % 2 ≡ classic)
      × (n / 2 ^ 7 % 2 ≡ modules)
      × (n / 2 ^ 1 % 2 ≡ cond a 1 0)
      × (n / 2 ^ 2 % 2 ≡ cond b 1 0)
      × (n / 2 ^ 4 % 2 ≡ cond c 1 0)
      × (n / 2 ^ 5 % 2 ≡ cond d 1 0)
      × (n / 2 ^ 6 % 2 ≡ cond e 1 0)

  bits : (classic modules : ℕ) → classic ≤ 1 → modules ≤ 1 → Bits (low + (classic * 8 + modules * 128)) classic modules
  bits classic modules h k =
      let v = weighs a 2 in
      let w = weighs b 4 in
      let x = weighs c 16 in
      let y = weighs d 32 in
      let z = weighs e 64 in
      (omega arith, omega arith, omega arith, omega arith, omega arith, omega arith, omega arith)

  outlined_by : (n : ℕ) (m : Mode) {classic modules : ℕ} → Bits n classic modules → mode_in n ≡ m → settings_in n ≡ outlined a b c d e m
  outlined_by n m B mode = λ ι. outlined (told a _ B.2 ι) (told b _ B.3 ι) (told c _ B.4 ι) (told d _ B.5 ι) (told e _ B.6 ι) (mode ι)

  pub byte_tells : (m : Mode) → settings_in (outlined_byte a b c d e m) ≡ outlined a b c d e m
  byte_tells Module = let B = bits 0 1 (omega arith) (omega arith) in outlined_by (low + 128) Module B (rw (B.0, B.1))
  byte_tells Script = let B = bits 0 0 (omega arith) (omega arith) in outlined_by (low + 0) Script B (rw (B.0, B.1))
  byte_tells Classic = let B = bits 1 0 (omega arith) (omega arith) in outlined_by (low + 8) Classic B (rw B.0)

pub byte_told : (s : Settings) → settings_in (outline_byte s) ≡ outline s
byte_told s = byte_tells s.options.flags.self_plugin s.options.flags.source_plugin s.options.flags.development s.options.flags.throw_if_namespace s.pure s.mode
