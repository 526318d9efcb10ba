-- Under automatic settings the callees of a root's commands are those that demand 3 says of its tree: an induction over the tree.
--     key_after_spread_marked, lone_never     a key behind a spread, by lowering's test and by the claim's
--     no_survivors                     where no child survives there is no element among them
--     element_reads, fragment_reads    a call by its parts
--     root_callees, all_callees        the callees of a root, and of a list of roots
-- Assumes nothing.
use mathlib.Core.Path.{◌≡◌, refl, sym, ap, subst, ◌∙◌}
use mathlib.Core.Bool.{Bool, true, false, cond, not, ◌&&◌, ◌||◌}
use mathlib.Core.List.{List, [], ◌∷◌, ◌++◌, map, map-append, append-nil}
use Prim.Native.Nat.{ℕ}
use native.Mathlib.Omega.{arith}
use lib.Dec.{eqb, leb}
use borrow.Author.Tests.{eqb-true}
use Rattle.text.specs.declared.spans.Span.{Span}
use Rattle.text.specs.Bytes.{ascii, same}
use Rattle.text.specs.Spans.{part_of}
use Rattle.commands.specs.declared.root.Place.{Place}
use Rattle.definitions.specs.declared.options.Settings.{Settings}
use Rattle.definitions.specs.declared.records.Import.{Import}
use Rattle.definitions.specs.Tree.{Name, Node, element, fragment, Attributes, no_attributes, attribute, namespaced_attribute, spread, literal}
use Rattle.definitions.specs.Tree.{Value, absent, string, expression, empty, node_value, Children, no_children, text_child, expression_child}
use Rattle.definitions.specs.Tree.{empty_child, spread_child, node_child, Root}
use Rattle.definitions.specs.JsxText.{jsx_text}
use Rattle.definitions.specs.Calls.{Command, bare_code}
use Rattle.definitions.specs.Calls as call
use Rattle.definitions.specs.Store.{fragment_name, create_element, jsx, jsxs, jsx_dev}
use Rattle.definitions.specs.Lowering.{Context, Output, put, put_byte, is_key, has_value, key_notice, attribute_name, key_after_spread, survivors}
use Rattle.definitions.specs.Lowering.{has_spread, form_of, children_property, source_output, self_output, development, no_key, is_classic}
use Rattle.definitions.specs.Lowering.{automatic_name, automatic_call, object_of, classic_call, is_last, lone_spread_or, lower_node, lower_attributes}
use Rattle.definitions.specs.Lowering.{lower_key, lower_value, lower_children, lower_name, can_add_self, lower_root, commands_of}
use Rattle.definitions.specs.Callees.{key_mark, other_mark, marks_of, any_key, key_follows_spread, surviving, callee_of_node, given, later_valued_key}
use Rattle.definitions.specs.Callees.{callees_in, callees_in_values, callees_in_key, callees_in_value, callees_in_children, callees_of_roots, Callee}
use Rattle.definitions.specs.Callees.{callee_named}
use Rattle.definitions.proofs.Counting.{never}
use Rattle.definitions.proofs.Plain.{none, plain_put, plain_byte, plain_over, plain_colonized, plain_name, plain_literal, plain_attribute}
use Rattle.definitions.proofs.Plain.{plain_notice, plain_string, plain_text, plain_self, plain_static, plain_no_key, ◌and◌}
use Rattle.definitions.proofs.Survival.{survivors_surviving}
use Rattle.definitions.proofs.SymbolicCallees.{callees_of, Reads, ◌joined◌, ◌still◌, ◌onward◌, quiet_onward, plain_reads, source_reads, tag_reads, closing_reads}

module _ (c : Context) where
  -- ---- a key behind a spread

  any_key_marked : (a : Attributes) → key_after_spread c true a ≡ any_key (marks_of c.text a)
  unfolding key_after_spread marks_of any_key
  any_key_marked no_attributes = refl
  any_key_marked (attribute s v a) = go (is_key c s) (any_key_marked a)
    where
      go : (b : Bool) → key_after_spread c true a ≡ any_key (marks_of c.text a)
          → (b || key_after_spread c true a) ≡ any_key (cond b key_mark other_mark ∷ marks_of c.text a)
      go true ih = refl
      go false ih = ih
  any_key_marked (namespaced_attribute s r v a) = any_key_marked a
  any_key_marked (spread e a) = any_key_marked a
  any_key_marked (literal e ps a) = any_key_marked a

  pub key_after_spread_marked : (a : Attributes) → key_after_spread c false a ≡ key_follows_spread (marks_of c.text a)
  unfolding key_after_spread marks_of key_follows_spread
  key_after_spread_marked no_attributes = refl
  key_after_spread_marked (attribute s v a) = go (is_key c s) (key_after_spread_marked a)
    where
      go : (b : Bool) → key_after_spread c false a ≡ key_follows_spread (marks_of c.text a)
          → key_after_spread c false a ≡ key_follows_spread (cond b key_mark other_mark ∷ marks_of c.text a)
      go true ih = ih
      go false ih = ih
  key_after_spread_marked (namespaced_attribute s r v a) = key_after_spread_marked a
  key_after_spread_marked (spread e a) = any_key_marked a
  key_after_spread_marked (literal e ps a) = any_key_marked a

  -- behind a lone spread stands no key
  last_no_key : (a : Attributes) → key_after_spread c true a ≡ true → is_last a ≡ false
  unfolding key_after_spread is_last
  last_no_key no_attributes h = never h
  last_no_key (attribute s v a) h = refl
  last_no_key (namespaced_attribute s r v a) h = refl
  last_no_key (spread e a) h = refl
  last_no_key (literal e ps a) h = refl

  lone_never : (a : Attributes) (object : List Output) → key_after_spread c false a ≡ true → lone_spread_or c a object ≡ object
  unfolding key_after_spread lone_spread_or
  lone_never no_attributes object h = refl
  lone_never (attribute s v a) object h = refl
  lone_never (namespaced_attribute s r v a) object h = refl
  lone_never (spread e a) object h = rw (last_no_key a h)
  lone_never (literal e ps a) object h = rw (last_no_key a h)

  -- ---- children

  no_survivors : (d : Bool) (k : Children) → survivors c k ≡ 0 → callees_in_children c.text d k ≡ []
  unfolding survivors callees_in_children
  no_survivors d no_children h = refl
  no_survivors d (text_child s k) h = no_survivors d k (omega arith)
  no_survivors d (expression_child e k) h = absurd (omega arith)
  no_survivors d (empty_child k) h = no_survivors d k h
  no_survivors d (spread_child e k) h = absurd (omega arith)
  no_survivors d (node_child n k) h = absurd (omega arith)

-- ---- values and keys

value_given : (v : Value) → has_value v ≡ given v
unfolding has_value given
value_given absent = refl
value_given (string s) = refl
value_given (expression e) = refl
value_given empty = refl
value_given (node_value n) = refl

no_value : (text : List ℕ) (d : Bool) (v : Value) → given v ≡ false → callees_in_value text d v ≡ []
unfolding given callees_in_value
no_value text d absent h = refl
no_value text d (string s) h = refl
no_value text d (expression e) h = refl
no_value text d empty h = refl
no_value text d (node_value n) h = never (sym h)

-- in a classic call the keys stand among the attributes
no_key_apart : (text : List ℕ) (d : Bool) (a : Attributes) → callees_in_key text d true a ≡ []
unfolding callees_in_key
no_key_apart text d no_attributes = refl
no_key_apart text d (attribute s v a) = go (same (part_of text s) (ascii "key")) (no_key_apart text d a)
  where
    go : (b : Bool) → callees_in_key text d true a ≡ []
        → cond (b && false && not (later_valued_key text a)) (callees_in_value text d v) [] ++ callees_in_key text d true a ≡ []
    go true ih = ih
    go false ih = ih
no_key_apart text d (namespaced_attribute s r v a) = no_key_apart text d a
no_key_apart text d (spread e a) = no_key_apart text d a
no_key_apart text d (literal e ps a) = no_key_apart text d a

-- ---- calls by their parts, under automatic settings

module _ (c : Context) (automatic : is_classic c.settings.mode ≡ false) where
  children_reads : {items : List Output} (k : Children) (form : ℕ) → Reads items (callees_in_children c.text (development c) k)
      → Reads (children_property (survivors c k) form items) (callees_in_children c.text (development c) k)
  unfolding children_property bare_code
  children_reads {items} k form h = go (eqb (survivors c k) 0) refl
    where
      go : (b : Bool) → eqb (survivors c k) 0 ≡ b
          → Reads (cond b [] (put call.ChildrenBegin ++ items ++ put_byte call.ChildrenEnd form)) (callees_in_children c.text (development c) k)
      go true e = rw (no_survivors c (development c) k (eqb-true (survivors c k) 0 e)) (plain_reads none)
      go false e = plain_put call.ChildrenBegin refl onward h still plain_byte call.ChildrenEnd form

  automatic_reads : {properties items key added tag : List Output} {ns ms : List ℕ} (k : Children)
      → Reads properties ns → Reads items (callees_in_children c.text (development c) k) → Reads key ms → Reads added [] → Reads tag []
      → Reads (automatic_call c properties k items key added tag)
      (ns ++ callees_in_children c.text (development c) k ++ ms
      ++ cond (development c) jsx_dev (cond (leb 2 (surviving c.text k)) jsxs jsx) ∷ [])
  unfolding automatic_call automatic_name bare_code
  automatic_reads k hp hi hk ha ht =
      rw (← survivors_surviving c k)
      (quiet_onward
      ((plain_byte call.Call 1 and plain_put call.ObjectBegin refl onward hp)
      joined children_reads k (form_of (survivors c k) (has_spread k)) hi
      still plain_put call.ObjectEnd refl
      joined hk
      still plain_static c (survivors c k))
      ha
      joined closing_reads c (automatic_name c (survivors c k)) automatic ht)

  object_reads : (os : List Output) (ns : List ℕ) → Reads os ns → Reads (object_of os) ns
  unfolding object_of bare_code commands_of callees_of
  object_reads [] ns h = record { so = λ rest. h.so rest }
  object_reads (o ∷ os) ns h = plain_put call.ObjectBegin refl onward h still plain_put call.ObjectEnd refl

  classic_reads : {argument items tag : List Output} {ns ms : List ℕ} → Reads argument ns → Reads items ms → Reads tag []
      → Reads (classic_call c argument items tag) (ns ++ ms ++ create_element ∷ [])
  unfolding classic_call
  classic_reads ha hi ht = (plain_byte call.Call 0 onward ha) joined hi joined closing_reads c create_element automatic ht

  module _ (p : Place) (n : Name) (a : Attributes) (k : Children) where
    abbrev values : Bool → List ℕ
    values all = callees_in_values c.text (development c) all a

    abbrev kids : List ℕ
    kids = callees_in_children c.text (development c) k

    -- an element whose call is classic because a key stands behind a spread
    keyed_reads : key_after_spread c false a ≡ true → Reads (lower_attributes c true a) (values true) → Reads (lower_children c k) kids
        → Reads
        (classic_call c (lone_spread_or c a (object_of (lower_attributes c true a ++ self_output c ++ source_output c p))) (lower_children c k) (lower_name c n))
        (values true ++ kids ++ callees_in_key c.text (development c) true a ++ create_element ∷ [])
    keyed_reads e hv hk =
        rw (lone_never c a (object_of (lower_attributes c true a ++ self_output c ++ source_output c p)) e, no_key_apart c.text (development c) a, append-nil (values true ++ kids))
        (classic_reads
        (object_reads (lower_attributes c true a ++ self_output c ++ source_output c p) (values true) (quiet_onward (hv still plain_self c) (source_reads c p)))
        hk
        (plain_reads (plain_name c n)))

    element_reads : Reads (lower_attributes c true a) (values true) → Reads (lower_attributes c false a) (values false) → Reads (lower_children c k) kids
        → Reads (lower_key c a (no_key c)) (callees_in_key c.text (development c) false a)
        → Reads (lower_node c (element p n a k)) (callees_in c.text (development c) (element p n a k))
    unfolding lower_node callees_in callee_of_node
    element_reads ht hf hk hy = rw (automatic, ← key_after_spread_marked c a) (go (key_after_spread c false a) refl)
      where
        go : (b : Bool) → key_after_spread c false a ≡ b
            → Reads
            (cond b
            (classic_call c (lone_spread_or c a (object_of (lower_attributes c true a ++ self_output c ++ source_output c p))) (lower_children c k) (lower_name c n))
            (automatic_call c (lower_attributes c false a) k (lower_children c k) (lower_key c a (no_key c)) (source_output c p ++ self_output c) (lower_name c n)))
            (values b ++ kids ++ callees_in_key c.text (development c) b a
            ++ cond b create_element (cond (development c) jsx_dev (cond (leb 2 (surviving c.text k)) jsxs jsx)) ∷ [])
        go true e = keyed_reads e ht hk
        go false e =
            automatic_reads k hf hk hy (source_reads c p still plain_self c) (plain_reads (plain_name c n))

  fragment_reads : (p : Place) (k : Children) → Reads (lower_children c k) (callees_in_children c.text (development c) k)
      → Reads (lower_node c (fragment p k)) (callees_in c.text (development c) (fragment p k))
  unfolding lower_node callees_in callee_of_node
  fragment_reads p k hk =
      rw automatic
      (subst (Reads _) (rw (append-nil (callees_in_children c.text (development c) k)))
      (automatic_reads k (plain_reads none) hk (plain_reads (plain_no_key c)) (plain_reads none) (tag_reads c.settings.mode fragment_name 1)))

  -- an attribute before others
  attribute_reads : (classic : Bool) (s : Span) (v : Value) (a : Attributes)
      → Reads (lower_value c v) (callees_in_value c.text (development c) v)
      → Reads (lower_attributes c classic a) (callees_in_values c.text (development c) classic a)
      → Reads (lower_attributes c classic (attribute s v a)) (callees_in_values c.text (development c) classic (attribute s v a))
  unfolding lower_attributes callees_in_values
  attribute_reads classic s v a hv ha = go (is_key c s) (has_value v) refl classic ha
    where
      kept : (all : Bool) → Reads (lower_attributes c all a) (callees_in_values c.text (development c) all a)
          → Reads (key_notice c s v ++ attribute_name c s ++ lower_value c v ++ lower_attributes c all a)
          (callees_in_value c.text (development c) v ++ callees_in_values c.text (development c) all a)
      kept all ha = (plain_notice c s v and plain_attribute c s onward hv) joined ha

      go : (key has : Bool) → has_value v ≡ has → (all : Bool) → Reads (lower_attributes c all a) (callees_in_values c.text (development c) all a)
          → Reads
          (cond (key && has && not all) (lower_attributes c all a) (key_notice c s v ++ attribute_name c s ++ lower_value c v ++ lower_attributes c all a))
          (cond (key && not all) [] (callees_in_value c.text (development c) v) ++ callees_in_values c.text (development c) all a)
      go true true e true ha = kept true ha
      go true true e false ha = ha
      go true false e true ha = kept true ha
      go true false e false ha = rw (no_value c.text (development c) v (sym (value_given v) ∙ e)) at (kept false ha)
      go false has e all ha = kept all ha

  -- which value the last key of some attributes has, or that none has any
  key_here : (key has : Bool) (later : Bool) (vs ns ks : List ℕ) → (has ≡ false → vs ≡ [])
      → cond later [] (cond (key && has) vs ns) ++ ks ≡ cond (key && has || later) [] ns ++ (cond (key && true && not later) vs [] ++ ks)
  key_here true true true vs ns ks h = refl
  key_here true true false vs ns ks h = refl
  key_here true false true vs ns ks h = refl
  key_here true false false vs ns ks h = rw (h refl)
  key_here false has true vs ns ks h = refl
  key_here false has false vs ns ks h = refl

  choose_either : {xs ys : List Output} {ns ms : List ℕ} (b : Bool) → Reads xs ns → Reads ys ms → Reads (cond b xs ys) (cond b ns ms)
  choose_either true h k = h
  choose_either false h k = k

  -- ---- the tree

  mutual
    unfolding lower_node lower_attributes lower_key lower_value lower_children callees_in callees_in_values callees_in_key callees_in_value callees_in_children later_valued_key bare_code

    node_reads : (n : Node) → Reads (lower_node c n) (callees_in c.text (development c) n)
    node_reads (element p n a k) =
        element_reads p n a k (attributes_read true a) (attributes_read false a) (kids_read k)
        (subst (Reads _) (no_other (later_valued_key c.text a) (callees_in_key c.text (development c) false a)) (key_read a (plain_reads (plain_no_key c))))
      where
        no_other : (b : Bool) (ks : List ℕ) → cond b [] [] ++ ks ≡ ks
        no_other true ks = refl
        no_other false ks = refl
    node_reads (fragment p k) = fragment_reads p k (kids_read k)

    attributes_read : (classic : Bool) (a : Attributes) → Reads (lower_attributes c classic a) (callees_in_values c.text (development c) classic a)
    attributes_read classic no_attributes = plain_reads none
    attributes_read classic (attribute s v a) = attribute_reads classic s v a (value_reads v) (attributes_read classic a)
    attributes_read classic (namespaced_attribute s r v a) =
        (plain_put call.StringName refl and plain_colonized s r onward value_reads v) joined attributes_read classic a
    attributes_read classic (spread e a) = plain_over call.SpreadProperty e onward attributes_read classic a
    attributes_read classic (literal e ps a) = plain_literal c e ps onward attributes_read classic a

    key_read : {other : List Output} {ns : List ℕ} (a : Attributes) → Reads other ns
        → Reads (lower_key c a other) (cond (later_valued_key c.text a) [] ns ++ callees_in_key c.text (development c) false a)
    key_read {ns = ns} no_attributes h = rw (append-nil ns) h
    key_read {ns = ns} (attribute s v a) h =
        subst (Reads _)
        (rw (value_given v)
        (key_here (is_key c s) (given v) (later_valued_key c.text a) (callees_in_value c.text (development c) v) ns (callees_in_key c.text (development c) false a)
        (no_value c.text (development c) v)))
        (key_read a (choose_either (is_key c s && has_value v) (plain_put call.Key refl onward value_reads v) h))
    key_read (namespaced_attribute s r v a) h = key_read a h
    key_read (spread e a) h = key_read a h
    key_read (literal e ps a) h = key_read a h

    value_reads : (v : Value) → Reads (lower_value c v) (callees_in_value c.text (development c) v)
    value_reads absent = plain_reads (plain_put call.LiteralTrue refl)
    value_reads (string s) = plain_reads (plain_string s)
    value_reads (expression e) = plain_reads (plain_over call.Expression e)
    value_reads empty = plain_reads (plain_put call.LiteralTrue refl)
    value_reads (node_value n) = node_reads n

    kids_read : (k : Children) → Reads (lower_children c k) (callees_in_children c.text (development c) k)
    kids_read no_children = plain_reads none
    kids_read (text_child s k) = plain_text (jsx_text c.text s) onward kids_read k
    kids_read (expression_child e k) = plain_over call.Expression e onward kids_read k
    kids_read (empty_child k) = kids_read k
    kids_read (spread_child e k) = plain_over call.SpreadItem e onward kids_read k
    kids_read (node_child n k) = node_reads n joined kids_read k

-- ---- roots

pub root_callees : (text : List ℕ) (s : Settings) → is_classic s.mode ≡ false → (r : Root)
    → Reads (lower_root text s r) (callees_in text s.options.flags.development r.node)
unfolding lower_root
root_callees text s e r = node_reads (record { text = text; settings = s; self_allowed = can_add_self r }) e r.node

-- the commands of a list of roots
unfoldable pub commands_of_roots : List ℕ → Settings → List Root → List (Command Import)
commands_of_roots text s [] = []
commands_of_roots text s (r ∷ rs) = commands_of (lower_root text s r) ++ commands_of_roots text s rs

pub all_callees : (text : List ℕ) (s : Settings) → is_classic s.mode ≡ false → (rs : List Root)
    → callees_of (commands_of_roots text s rs) ≡ map callee_named (callees_of_roots text s.options.flags.development rs)
unfolding commands_of_roots callees_of_roots callees_of
all_callees text s e [] = refl
all_callees text s e (r ∷ rs) =
    let d = s.options.flags.development in
    (root_callees text s e r).so (commands_of_roots text s rs)
    ∙ ap (λ (l : List Callee). map callee_named (callees_in text d r.node) ++ l) (all_callees text s e rs)
    ∙ sym (map-append callee_named (callees_in text d r.node) (callees_of_roots text d rs))
