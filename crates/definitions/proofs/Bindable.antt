-- What lowering binds can be bound under its settings: an induction over the tree.
--     Fits                      every thing that an output mentions can be bound
--     ◌with◌, pick, plain_fits  parts and choices of what fits fit; plain output fits
--     root_fits                 the output of a root fits
-- Assumes nothing.
use mathlib.Core.Path.{◌≡◌, refl}
use mathlib.Core.Bool.{Bool, true, false, cond, not, ◌&&◌}
use mathlib.Core.List.{List, [], ◌∷◌, ◌++◌}
use Prim.Native.Nat.{ℕ, ◌+◌}
use lib.Dec.{eqb, ltb, leb}
use borrow.Author.Tests.{eq-eqb}
use Rattle.commands.specs.declared.root.Place.{Place}
use Rattle.definitions.specs.declared.options.Mode.{Mode}
use Rattle.definitions.specs.declared.options.Mode.TheVariants.{Module, Script, Classic}
use Rattle.definitions.specs.declared.options.Settings.{Settings}
use Rattle.definitions.specs.declared.records.Import.TheVariants.{FileName}
use Rattle.definitions.specs.Tree.{Node, element, fragment, Attributes, no_attributes, attribute, namespaced_attribute, spread, literal, Value}
use Rattle.definitions.specs.Tree.{absent, string, expression, empty, node_value, Children, no_children, text_child, expression_child, empty_child}
use Rattle.definitions.specs.Tree.{spread_child, node_child, Root}
use Rattle.definitions.specs.JsxText.{jsx_text}
use Rattle.definitions.specs.Calls.{Bare, source}
use Rattle.definitions.specs.Calls as call
use Rattle.definitions.specs.Store.{fragment_name, create_element, jsx, jsxs, jsx_dev, source_of, can_name, can_import, can_require, can_bind}
use Rattle.definitions.specs.States.{all_bindable}
use Rattle.definitions.specs.Lowering.{Context, Output, emit, put, imported, fragment_tag, is_key, has_value, has_proto, survivors, has_spread}
use Rattle.definitions.specs.Lowering.{form_of, children_property, source_output, self_output, development, is_classic, pure_byte, closing}
use Rattle.definitions.specs.Lowering.{automatic_name, automatic_call, object_of, classic_call, plugins_off, is_last, lone_spread_or, classic_element}
use Rattle.definitions.specs.Lowering.{lower_node, lower_attributes, lower_key, lower_value, lower_children, can_add_self, lower_root, commands_of}
use Rattle.definitions.proofs.Numbering.{imports_of, imports_append}
use Rattle.definitions.proofs.Soundness.{bindable_append}
use Rattle.definitions.proofs.Plain.{Plain, none, plain_byte, plain_over, commands_append, plain_imports, plain_colonized, plain_name}
use Rattle.definitions.proofs.Plain.{plain_literal, plain_attribute, plain_notice, plain_string, plain_text, plain_self, plain_static}
use Rattle.definitions.proofs.Plain.{plain_no_key}

pub record Fits (c : Context) (os : List Output) : Type 0 where
  pub so : all_bindable c.settings (imports_of (commands_of os)) ≡ true

infixl 20 ◌with◌
module _ {c : Context} where
  ◌with◌ : {xs ys : List Output} → Fits c xs → Fits c ys → Fits c (xs ++ ys)
  ◌with◌ {xs} {ys} h k =
      record {
        so =
            rw (
              commands_append xs ys,
              imports_append (commands_of xs) (commands_of ys),
              bindable_append c.settings (imports_of (commands_of xs))
                  (imports_of (commands_of ys)),
              h.so,
              k.so,
            );
      }

  plain_fits : {os : List Output} → Plain os → Fits c os
  unfolding all_bindable
  plain_fits {os} h = record { so = rw (plain_imports os h.so) }

  pick : {xs ys : List Output} (b : Bool) → Fits c xs → Fits c ys → Fits c (cond b xs ys)
  pick true h k = h
  pick false h k = k

  put_fits : (b : Bare) → Fits c (put b)
  unfolding commands_of imports_of all_bindable
  put_fits b = record { so = refl }

module _ (c : Context) where
  -- ---- callees, tags and `__source`

  imported_fits : (n k : ℕ) → can_name (development c) n ≡ true → Fits c (imported c.settings.mode n k)
  unfolding commands_of imports_of all_bindable imported can_bind can_import can_require
  imported_fits n k h = go c.settings.mode refl
    where
      below : (b : Bool) → ltb (cond b 0 1) 2 ≡ true
      below true = refl
      below false = refl

      go : (m : Mode) → c.settings.mode ≡ m → Fits c (imported m n k)
      go Module e = record { so = rw (e, h, eq-eqb (source_of n) (source_of n) refl) }
      go Script e = record { so = rw (e, below (eqb n create_element)) }
      go Classic e = record { so = refl }

  closing_fits : {tag : List Output} (n : ℕ) → Fits c tag → can_name (development c) n ≡ true → Fits c (closing c tag n)
  closing_fits n h k =
      put_fits call.Tag with h with put_fits call.Callee with imported_fits n 0 k
      with plain_fits (plain_byte call.CallEnd (pure_byte c.settings.pure))

  tag_fits : Fits c (fragment_tag c.settings.mode)
  tag_fits = imported_fits fragment_name 1 refl

  source_fits : (p : Place) → Fits c (source_output c p)
  unfolding commands_of imports_of all_bindable source_output can_bind
  source_fits p = go c.settings.options.flags.source_plugin refl
    where
      go : (b : Bool) → c.settings.options.flags.source_plugin ≡ b
          → Fits c (cond b (emit (source FileName (record { line = p.line + 1; column = p.column + 1 })) ∷ []) [])
      go true e = record { so = rw e }
      go false e = record { so = refl }

  -- ---- calls

  automatic_name_bindable : (n : ℕ) → can_name (development c) (automatic_name c n) ≡ true
  unfolding automatic_name
  automatic_name_bindable n = go (development c) (leb 2 n)
    where
      go : (d b : Bool) → can_name d (cond d jsx_dev (cond b jsxs jsx)) ≡ true
      go true b = refl
      go false true = refl
      go false false = refl

  children_fits : {items : List Output} (n form : ℕ) → Fits c items → Fits c (children_property n form items)
  unfolding children_property
  children_fits n form h =
      pick (eqb n 0) (plain_fits none) (put_fits call.ChildrenBegin with h with plain_fits (plain_byte call.ChildrenEnd form))

  automatic_fits : {properties items key added tag : List Output} (k : Children)
      → Fits c properties → Fits c items → Fits c key → Fits c added → Fits c tag → Fits c (automatic_call c properties k items key added tag)
  unfolding automatic_call
  automatic_fits k hp hi hk ha ht =
      plain_fits (plain_byte call.Call 1)
      with put_fits call.ObjectBegin
      with hp
      with children_fits (survivors c k) (form_of (survivors c k) (has_spread k)) hi
      with put_fits call.ObjectEnd
      with hk
      with plain_fits (plain_static c (survivors c k))
      with ha
      with closing_fits (automatic_name c (survivors c k)) ht (automatic_name_bindable (survivors c k))

  object_fits : (os : List Output) → Fits c os → Fits c (object_of os)
  unfolding object_of
  object_fits [] h = put_fits call.Null
  object_fits (o ∷ os) h = put_fits call.ObjectBegin with h with put_fits call.ObjectEnd

  classic_fits : {argument items tag : List Output} → Fits c argument → Fits c items → Fits c tag → Fits c (classic_call c argument items tag)
  unfolding classic_call
  classic_fits ha hi ht = plain_fits (plain_byte call.Call 0) with ha with hi with closing_fits create_element ht refl

  lone_fits : {object : List Output} (a : Attributes) → Fits c object → Fits c (lone_spread_or c a object)
  unfolding lone_spread_or
  lone_fits no_attributes h = h
  lone_fits (attribute s v a) h = h
  lone_fits (namespaced_attribute s r v a) h = h
  lone_fits (spread e a) h = pick (is_last a && plugins_off c) (plain_fits (plain_over call.SoleSpread e)) h
  lone_fits (literal e ps a) h = pick (is_last a && plugins_off c && not (has_proto c ps)) (plain_fits (plain_over call.SoleSpread e)) h

  -- ---- the tree

  mutual
    unfolding lower_node lower_attributes lower_key lower_value lower_children

    node_fits : (n : Node) → Fits c (lower_node c n)
    node_fits (element p n a k) =
        pick (classic_element c a)
        (classic_fits
        (lone_fits a
        (object_fits (lower_attributes c true a ++ self_output c ++ source_output c p)
        (attributes_fit true a with plain_fits (plain_self c) with source_fits p)))
        (kids_fit k)
        (plain_fits (plain_name c n)))
        (automatic_fits k
        (attributes_fit false a)
        (kids_fit k)
        (key_fits a (plain_fits (plain_no_key c)))
        (source_fits p with plain_fits (plain_self c))
        (plain_fits (plain_name c n)))
    node_fits (fragment p k) =
        pick (is_classic c.settings.mode)
        (classic_fits (object_fits [] (plain_fits none)) (kids_fit k) tag_fits)
        (automatic_fits k (plain_fits none) (kids_fit k) (plain_fits (plain_no_key c)) (plain_fits none) tag_fits)

    attributes_fit : (classic : Bool) (a : Attributes) → Fits c (lower_attributes c classic a)
    attributes_fit classic no_attributes = plain_fits none
    attributes_fit classic (attribute s v a) =
        pick (is_key c s && has_value v && not classic)
        (attributes_fit classic a)
        (plain_fits (plain_notice c s v) with plain_fits (plain_attribute c s) with value_fits v with attributes_fit classic a)
    attributes_fit classic (namespaced_attribute s r v a) =
        put_fits call.StringName with plain_fits (plain_colonized s r) with value_fits v with attributes_fit classic a
    attributes_fit classic (spread e a) = plain_fits (plain_over call.SpreadProperty e) with attributes_fit classic a
    attributes_fit classic (literal e ps a) = plain_fits (plain_literal c e ps) with attributes_fit classic a

    key_fits : {other : List Output} (a : Attributes) → Fits c other → Fits c (lower_key c a other)
    key_fits no_attributes h = h
    key_fits (attribute s v a) h = key_fits a (pick (is_key c s && has_value v) (put_fits call.Key with value_fits v) h)
    key_fits (namespaced_attribute s r v a) h = key_fits a h
    key_fits (spread e a) h = key_fits a h
    key_fits (literal e ps a) h = key_fits a h

    value_fits : (v : Value) → Fits c (lower_value c v)
    value_fits absent = put_fits call.LiteralTrue
    value_fits (string s) = plain_fits (plain_string s)
    value_fits (expression e) = plain_fits (plain_over call.Expression e)
    value_fits empty = put_fits call.LiteralTrue
    value_fits (node_value n) = node_fits n

    kids_fit : (k : Children) → Fits c (lower_children c k)
    kids_fit no_children = plain_fits none
    kids_fit (text_child s k) = plain_fits (plain_text (jsx_text c.text s)) with kids_fit k
    kids_fit (expression_child e k) = plain_fits (plain_over call.Expression e) with kids_fit k
    kids_fit (empty_child k) = kids_fit k
    kids_fit (spread_child e k) = plain_fits (plain_over call.SpreadItem e) with kids_fit k
    kids_fit (node_child n k) = node_fits n with kids_fit k

pub root_fits : (text : List ℕ) (s : Settings) (r : Root) → all_bindable s (imports_of (commands_of (lower_root text s r))) ≡ true
unfolding lower_root
root_fits text s r = (node_fits (record { text = text; settings = s; self_allowed = can_add_self r }) r.node).so
