-- What holds of everything that is read off a tape, whatever the bound of the turns: how much it takes, where a fault lies, and that the tree is in
-- order in the text.
--     Reads                  the claim, of a reading
--     reads_done             what it says of a tree and the bytes that it took
--     members_reads, ..      each reader
--     root_in_order          a root is in order, and takes the whole tape
-- Assumes nothing.
use mathlib.Core.Path.{◌≡◌, refl, sym, subst, ◌∙◌}
use mathlib.Core.Bool.{Bool, true, false, cond, ◌||◌}
use mathlib.Core.List.{List, ◌∷◌}
use Prim.Native.Nat.{ℕ, zero, suc, ◌+◌, ◌≤◌}
use native.Mathlib.Omega.{arith}
use lib.ListN.{length, drop, length-drop}
use lib.Dec.{eqb, leb, ltb}
use borrow.Author.Tests.{eq-eqb, ltb-false}
use Rattle.std.specs.Prelude.{Option, Some, None, Result, Ok, Err}
use Rattle.text.specs.declared.spans.Span.{Span}
use Rattle.text.specs.declared.spans.Bounds.{Bounds}
use Rattle.text.specs.declared.spans.Bounds.TheVariants.{Outside, Cuts, Empty, Good}
use Rattle.text.specs.Spans.{part_of, bounds_of}
use Rattle.references.specs.References.{has_reference}
use Rattle.tape.specs.declared.refusal.Fault.{Fault}
use Rattle.tape.specs.declared.refusal.Fault.TheVariants as fault
use Rattle.commands.specs.declared.error.CommandError.{CommandError}
use Rattle.commands.specs.declared.error.CommandError.TheVariants as command
use Rattle.commands.specs.declared.root.Place.{Place}
use Rattle.commands.specs.declared.root.Heritage.{Heritage}
use Rattle.commands.specs.declared.root.ScopeKind.{ScopeKind}
use Rattle.commands.specs.declared.root.ScopeCommand.{ScopeCommand}
use Rattle.commands.specs.declared.root.ScopeCommand.TheVariants as scopes
use Rattle.commands.specs.declared.root.NameCommand.{NameCommand}
use Rattle.commands.specs.declared.root.NameCommand.TheVariants as names
use Rattle.commands.specs.declared.root.AttributeCommand.{AttributeCommand}
use Rattle.commands.specs.declared.root.AttributeCommand.TheVariants as attributes
use Rattle.commands.specs.declared.root.PropertyCommand.{PropertyCommand}
use Rattle.commands.specs.declared.root.PropertyCommand.TheVariants as properties
use Rattle.commands.specs.declared.root.ValueCommand.{ValueCommand}
use Rattle.commands.specs.declared.root.ValueCommand.TheVariants as values
use Rattle.commands.specs.declared.root.ChildCommand.{ChildCommand}
use Rattle.commands.specs.declared.root.ChildCommand.TheVariants as children
use Rattle.commands.specs.Root.{heritage_command, scope_command, name_command, member_command, attribute_command, property_command, value_command, child_command}
use Rattle.commands.proofs.Lengths.{heritage_fits, scope_fits, name_fits, member_fits, attribute_fits, property_fits, value_fits, child_fits}
use Rattle.definitions.specs.Judging.{Parsed, done, stop, ◌then◌, map, from, error_place, unreadable, spanned, named, worse}
use Rattle.definitions.specs.Tree.{identifier, this, Property, unnamed, prop_name, Node, element, fragment, Attributes, attribute}
use Rattle.definitions.specs.Tree.{namespaced_attribute, spread, literal, Value, node_value, Children, text_child, expression_child, empty_child}
use Rattle.definitions.specs.Tree.{spread_child, node_child, Root}
use Rattle.definitions.specs.Reading.{lettered, opened, members_by, name_by, properties_by, attributes_by, value_by, children_by, scopes_by}
use Rattle.definitions.specs.Reading.{root_by, members_at, name_at, properties_at, element_at, fragment_at, attributes_at, value_at, children_at, scopes_at}
use Rattle.definitions.specs.Reading.{is_function, Scoped, in_scope, unscoped, whole, read_root}
use Rattle.root_check.specs.Checking.{Scan, report, Within}
use Rattle.root_check.specs.InOrder.{NameSpan, Inside, Lettered, Placed, Each, NameInOrder, PropertyInOrder, InOrder, AttributesInOrder, ValueInOrder, ChildrenInOrder}

-- Read off a part of len bytes: a tree with the property Q that takes m of them at least, or a fault that lies within the part.
pub data Reads {A : Type 0} (Q : A → Type 0) (m len : ℕ) : Parsed A → Type 0 where
  reads : {a : A} {u : ℕ} → Q a → m ≤ u → u ≤ len → Reads Q m len (done a u)
  faults : {f : Fault} {p : ℕ} → p ≤ len → Reads Q m len (stop f p)

-- ---- what the claim says

module _ {A : Type 0} {Q : A → Type 0} {m len : ℕ} where
  pub reads_done : {p : Parsed A} {a : A} {u : ℕ} → Reads Q m len p → p ≡ done a u → Q a × (m ≤ u) × (u ≤ len)
  reads_done {a = b} {u = v} (reads {a} {u} q h k) e =
      let x : a ≡ b = cc in
      let y : u ≡ v = cc in
      (subst Q x q, omega arith, omega arith)
  reads_done (faults h) e = let z : ◌≡◌ {A = ℕ} 0 1 = cc in absurd (omega arith)

  pub reads_within : {p : Parsed A} {r : Scan} → Reads Q m len p → report p ≡ r → Within m len r
  unfolding report
  reads_within (reads q h k) e = subst (Within m len) e (h, k)
  reads_within (faults h) e = subst (Within m len) e h

-- ---- readings put together

pub unread_within : (t : List ℕ) (e : CommandError) → error_place t e ≤ length t
unread_within t command.Wrong = omega arith
unread_within t command.Cut = omega arith
unread_within t command.Bad = omega arith

module _ {A : Type 0} {Q : A → Type 0} where
  here : {m len : ℕ} {f : Fault} → Reads Q m len (stop f 0)
  here = faults {p = 0} (omega arith)

  -- a command that can't be read
  unread : {m : ℕ} (t : List ℕ) (e : CommandError) → Reads Q m (length t) (unreadable t e)
  unread t e = faults {p = error_place t e} (unread_within t e)

  pub less : (m : ℕ) {k len : ℕ} {p : Parsed A} → m ≤ k → Reads Q k len p → Reads Q m len p
  less m h (reads {u} q i j) = reads {u = u} q (omega arith) j
  less m h (faults i) = faults i

  pub behind : (t : List ℕ) (u : ℕ) {m : ℕ} {p : Parsed A} → u ≤ length t → Reads Q m (length (drop u t)) p → Reads Q (u + m) (length t) (from u p)
  unfolding from
  behind t u h (reads {u = v} q i j) = reads {u = u + v} q (omega arith) (omega (arith, length-drop u t))
  behind t u h (faults {p} i) = faults {p = u + p} (omega (arith, length-drop u t))

module _ {A B : Type 0} {Q : A → Type 0} {R : B → Type 0} {m len : ℕ} where
  then_reads : {n : ℕ} {p : Parsed A} (K : A → ℕ → Parsed B) → Reads Q m len p
      → ((a : A) (u : ℕ) → Q a → m ≤ u → u ≤ len → Reads R n len (K a u)) → Reads R n len (p then K)
  unfolding ◌then◌
  then_reads K (reads q h k) f = f _ _ q h k
  then_reads K (faults h) f = faults h

  map_reads : {p : Parsed A} (g : A → B) → ((a : A) → Q a → R (g a)) → Reads Q m len p → Reads R m len (map g p)
  unfolding map
  map_reads g f r = then_reads _ r (λ a u q h k. reads (f a q) h k)

-- ---- what is judged at a command

never : false ≡ true → ⊥
never e = let z : ◌≡◌ {A = ℕ} 0 1 = cc in omega arith

module _ {A : Type 0} {Q : A → Type 0} {m len : ℕ} {p : Parsed A} where
  pub named_reads : (b : Bounds) → (b ≡ Good → Reads Q m len p) → Reads Q m len (named b p)
  unfolding named
  named_reads Outside f = here
  named_reads Cuts f = here
  named_reads Empty f = here
  named_reads Good f = f refl

  pub spanned_reads : (text : List ℕ) (s : Span) → (Inside text s → Reads Q m len p) → Reads Q m len (spanned (bounds_of text s) p)
  unfolding spanned
  spanned_reads text s f = go (bounds_of text s) refl
    where
      go : (b : Bounds) → bounds_of text s ≡ b → Reads Q m len (spanned b p)
      go Outside e = here
      go Cuts e = here
      go Empty e = f (record { inside = λ h. let z : ◌≡◌ {A = ℕ} 0 1 = cc in omega arith; whole = λ h. let z : ◌≡◌ {A = ℕ} 0 1 = cc in omega arith })
      go Good e = f (record { inside = λ h. let z : ◌≡◌ {A = ℕ} 0 1 = cc in omega arith; whole = λ h. let z : ◌≡◌ {A = ℕ} 0 1 = cc in omega arith })

module _ {A : Type 0} {Q : A → Type 0} {m len : ℕ} {p : Parsed A} where
  pub lettered_reads : (text : List ℕ) (s : Span) → (Lettered text s → Reads Q m len p) → Reads Q m len (lettered text s p)
  unfolding lettered
  lettered_reads text s f = spanned_reads text s (λ i. go i (has_reference (part_of text s)) refl)
    where
      go : Inside text s → (x : Bool) → has_reference (part_of text s) ≡ x → Reads Q m len (cond x (stop fault.Reference 0) p)
      go i true e = here
      go i false e = f (record { within = i; plain = e })

module _ {A : Type 0} {Q : A → Type 0} {m : ℕ} {p : Parsed A} where
  pub opened_reads : (d : ℕ) (at : Place) (t : List ℕ) → 9 ≤ length t → (Placed at → Reads Q m (length (drop 9 t)) p) → Reads Q (9 + m) (length t) (opened d at p)
  unfolding opened
  opened_reads d at t h f = deep (leb 64 d)
    where
      line : (b : Bool) (c : Bool) → eqb at.line 4294967295 ≡ b → eqb at.column 4294967295 ≡ c
          → Reads Q (9 + m) (length t) (cond (b || c) (stop fault.Position 0) (from 9 p))
      line true c e e' = here
      line false true e e' = here
      line false false e e' =
          behind t 9 h (f (record { line = λ q. never (sym e ∙ eq-eqb _ _ q); column = λ q. never (sym e' ∙ eq-eqb _ _ q) }))

      deep : (b : Bool)
          → Reads Q (9 + m) (length t)
          (cond b (stop fault.Depth 0) (cond (eqb at.line 4294967295 || eqb at.column 4294967295) (stop fault.Position 0) (from 9 p)))
      deep true = here
      deep false = line (eqb at.line 4294967295) (eqb at.column 4294967295) refl refl

worse_good : (a b : Bounds) → worse a b ≡ Good → (a ≡ Good) × (b ≡ Good)
unfolding worse
worse_good Outside b e = let z : ◌≡◌ {A = ℕ} 0 1 = cc in absurd (omega arith)
worse_good Cuts Outside e = let z : ◌≡◌ {A = ℕ} 0 1 = cc in absurd (omega arith)
worse_good Cuts Cuts e = let z : ◌≡◌ {A = ℕ} 0 1 = cc in absurd (omega arith)
worse_good Cuts Empty e = let z : ◌≡◌ {A = ℕ} 0 1 = cc in absurd (omega arith)
worse_good Cuts Good e = let z : ◌≡◌ {A = ℕ} 0 1 = cc in absurd (omega arith)
worse_good Empty Outside e = let z : ◌≡◌ {A = ℕ} 0 1 = cc in absurd (omega arith)
worse_good Empty Cuts e = let z : ◌≡◌ {A = ℕ} 0 1 = cc in absurd (omega arith)
worse_good Empty Empty e = let z : ◌≡◌ {A = ℕ} 0 1 = cc in absurd (omega arith)
worse_good Empty Good e = let z : ◌≡◌ {A = ℕ} 0 1 = cc in absurd (omega arith)
worse_good Good b e = (refl, e)

-- ---- names and properties

-- what is read u bytes behind the front of t, for each u
abbrev Next : {A : Type 0} → (A → Type 0) → ℕ → List ℕ → (ℕ → Parsed A) → Type 0
Next Q m t next = (u : ℕ) → u ≤ length t → Reads Q (u + m) (length t) (next u)

module _ (text t : List ℕ) where
  members_by_command : (c : Result (Option Span) CommandError) (next : ℕ → Parsed (List Span)) → member_command t ≡ c → Next (Each (NameSpan text)) 0 t next
      → Reads (Each (NameSpan text)) 0 (length t) (members_by text t c next)
  unfolding members_by Each
  members_by_command (Ok None) next e f = reads {u = 0} tt (omega arith) (omega arith)
  members_by_command (Err x) next e f = unread t x
  members_by_command (Ok (Some s)) next e f =
      named_reads _ (λ g. map_reads (s ∷◌) (λ l h. (g, h)) (less 0 (omega arith) (f 5 (member_fits t e))))

  name_by_command : (c : Result NameCommand CommandError) (next : ℕ → Parsed (List Span)) → name_command t ≡ c → Next (Each (NameSpan text)) 0 t next
      → Reads (NameInOrder text) 1 (length t) (name_by text t c next)
  unfolding name_by NameInOrder
  name_by_command (Err x) next e f = unread t x
  name_by_command (Ok (names.Plain s)) next e f = named_reads _ (λ g. reads {u = 5} g (omega arith) (name_fits t e))
  name_by_command (Ok (names.Identifier s)) next e f =
      named_reads _ (λ g. map_reads (identifier s) (λ l h. (g, h)) (less 1 (omega arith) (f 5 (name_fits t e))))
  name_by_command (Ok names.This) next e f = map_reads this (λ l h. h) (less 1 (omega arith) (f 1 (name_fits t e)))
  name_by_command (Ok (names.Namespaced s r)) next e f = named_reads _ (λ g. reads {u = 9} (worse_good _ _ g) (omega arith) (name_fits t e))

  properties_by_command : (c : Result PropertyCommand CommandError) (next : ℕ → Parsed (List Property)) → property_command t ≡ c → Next (Each (PropertyInOrder text)) 1 t next
      → Reads (Each (PropertyInOrder text)) 1 (length t) (properties_by text t c next)
  unfolding properties_by Each PropertyInOrder
  properties_by_command (Err x) next e f = unread t x
  properties_by_command (Ok properties.End) next e f = reads {u = 1} tt (omega arith) (property_fits t e)
  properties_by_command (Ok (properties.Property x)) next e f =
      map_reads (unnamed x ∷◌) (λ l h. (tt, h)) (less 1 (omega arith) (f 3 (property_fits t e)))
  properties_by_command (Ok (properties.Named x s)) next e f =
      spanned_reads text s (λ i. map_reads (prop_name x s ∷◌) (λ l h. (i, h)) (less 1 (omega arith) (f 7 (property_fits t e))))

pub members_reads : (f : ℕ) (text t : List ℕ) → Reads (Each (NameSpan text)) 0 (length t) (members_at f text t)
unfolding members_at
members_reads zero text t = here
members_reads (suc f) text t = members_by_command text t _ _ refl (λ u h. behind t u h (members_reads f text (drop u t)))

pub name_reads : (f : ℕ) (text t : List ℕ) → Reads (NameInOrder text) 1 (length t) (name_at f text t)
unfolding name_at
name_reads f text t = name_by_command text t _ _ refl (λ u h. behind t u h (members_reads f text (drop u t)))

pub properties_reads : (f : ℕ) (text t : List ℕ) → Reads (Each (PropertyInOrder text)) 1 (length t) (properties_at f text t)
unfolding properties_at
properties_reads zero text t = here
properties_reads (suc f) text t = properties_by_command text t _ _ refl (λ u h. behind t u h (properties_reads f text (drop u t)))

-- ---- elements and fragments

module _ (text t : List ℕ) where
  attributes_by_command : (c : Result AttributeCommand CommandError) (value : ℕ → Parsed Value) (props : ℕ → Parsed (List Property)) (next : ℕ → Parsed Attributes)
      → attribute_command t ≡ c
      → Next (ValueInOrder text) 1 t value → Next (Each (PropertyInOrder text)) 1 t props → Next (AttributesInOrder text) 1 t next
      → Reads (AttributesInOrder text) 1 (length t) (attributes_by text t c value props next)
  unfolding attributes_by AttributesInOrder
  attributes_by_command (Err x) value props next e v ps f = unread t x
  attributes_by_command (Ok attributes.End) value props next e v ps f = reads {u = 1} tt (omega arith) (attribute_fits t e)
  attributes_by_command (Ok (attributes.Plain s)) value props next e v ps f =
      named_reads _ (λ g. then_reads _ (v 5 (attribute_fits t e))
      (λ x u q h k. map_reads (attribute s x) (λ a i. (g, q, i)) (less 1 (omega arith) (f u k))))
  attributes_by_command (Ok (attributes.Namespaced s r)) value props next e v ps f =
      named_reads _ (λ g. then_reads _ (v 9 (attribute_fits t e))
      (λ x u q h k. map_reads (namespaced_attribute s r x) (λ a i. ((worse_good _ _ g).0, (worse_good _ _ g).1, q, i)) (less 1 (omega arith) (f u k))))
  attributes_by_command (Ok (attributes.Spread x)) value props next e v ps f =
      map_reads (spread x) (λ a i. i) (less 1 (omega arith) (f 3 (attribute_fits t e)))
  attributes_by_command (Ok (attributes.Literal x)) value props next e v ps f =
      then_reads _ (ps 3 (attribute_fits t e)) (λ l u q h k. map_reads (literal x l) (λ a i. (q, i)) (less 1 (omega arith) (f u k)))

  -- the rest of an element or a fragment that stands at the front of t
  abbrev Inner : (Place → Parsed Node) → Type 0
  Inner node = (p : Place) → Placed p → Reads (InOrder text) 0 (length (drop 9 t)) (node p)

  value_by_command : (d : ℕ) (c : Result ValueCommand CommandError) (whole bare : Place → Parsed Node) → value_command t ≡ c → Inner whole → Inner bare
      → Reads (ValueInOrder text) 1 (length t) (value_by text d t c whole bare)
  unfolding value_by ValueInOrder
  value_by_command d (Err x) whole bare e w b = unread t x
  value_by_command d (Ok values.Absent) whole bare e w b = reads {u = 1} tt (omega arith) (value_fits t e)
  value_by_command d (Ok (values.Text s)) whole bare e w b = lettered_reads text s (λ l. reads {u = 5} l (omega arith) (value_fits t e))
  value_by_command d (Ok (values.Expression x)) whole bare e w b = reads {u = 3} tt (omega arith) (value_fits t e)
  value_by_command d (Ok values.Empty) whole bare e w b = reads {u = 1} tt (omega arith) (value_fits t e)
  value_by_command d (Ok (values.Element p)) whole bare e w b =
      map_reads node_value (λ n h. h) (less 1 (omega arith) (opened_reads d p t (value_fits t e) (w p)))
  value_by_command d (Ok (values.Fragment p)) whole bare e w b =
      map_reads node_value (λ n h. h) (less 1 (omega arith) (opened_reads d p t (value_fits t e) (b p)))

  children_by_command : (d : ℕ) (c : Result ChildCommand CommandError) (whole bare : Place → Parsed Node) (next : ℕ → Parsed Children) → child_command t ≡ c
      → Inner whole → Inner bare → Next (ChildrenInOrder text) 1 t next
      → Reads (ChildrenInOrder text) 1 (length t) (children_by text d t c whole bare next)
  unfolding children_by ChildrenInOrder
  children_by_command d (Err x) whole bare next e w b f = unread t x
  children_by_command d (Ok children.End) whole bare next e w b f = reads {u = 1} tt (omega arith) (child_fits t e)
  children_by_command d (Ok (children.Text s)) whole bare next e w b f =
      lettered_reads text s (λ l. map_reads (text_child s) (λ k i. (l, i)) (less 1 (omega arith) (f 5 (child_fits t e))))
  children_by_command d (Ok (children.Expression x)) whole bare next e w b f =
      map_reads (expression_child x) (λ k i. i) (less 1 (omega arith) (f 3 (child_fits t e)))
  children_by_command d (Ok children.Empty) whole bare next e w b f = map_reads empty_child (λ k i. i) (less 1 (omega arith) (f 1 (child_fits t e)))
  children_by_command d (Ok (children.Spread x)) whole bare next e w b f = map_reads (spread_child x) (λ k i. i) (less 1 (omega arith) (f 3 (child_fits t e)))
  children_by_command d (Ok (children.Element p)) whole bare next e w b f =
      then_reads _ (opened_reads d p t (child_fits t e) (w p)) (λ n u q h k. map_reads (node_child n) (λ c i. (q, i)) (less 1 (omega arith) (f u k)))
  children_by_command d (Ok (children.Fragment p)) whole bare next e w b f =
      then_reads _ (opened_reads d p t (child_fits t e) (b p)) (λ n u q h k. map_reads (node_child n) (λ c i. (q, i)) (less 1 (omega arith) (f u k)))

mutual
  unfolding element_at fragment_at attributes_at value_at children_at InOrder

  pub element_reads : (f : ℕ) (text : List ℕ) (d : ℕ) (p : Place) (t : List ℕ) → Placed p → Reads (InOrder text) 0 (length t) (element_at f text d p t)
  element_reads zero text d p t o = here
  element_reads (suc f) text d p t o =
      then_reads _ (name_reads f text t)
      (λ n u q h k. then_reads _ (behind t u k (attributes_reads f text (suc d) (drop u t)))
      (λ a v r i j. map_reads (element p n a) (λ c s. (o, q, r, s)) (less 0 (omega arith) (behind t v j (children_reads f text (suc d) (drop v t))))))

  pub fragment_reads : (f : ℕ) (text : List ℕ) (d : ℕ) (p : Place) (t : List ℕ) → Placed p → Reads (InOrder text) 0 (length t) (fragment_at f text d p t)
  fragment_reads zero text d p t o = here
  fragment_reads (suc f) text d p t o = map_reads (fragment p) (λ c s. (o, s)) (less 0 (omega arith) (children_reads f text (suc d) t))

  pub attributes_reads : (f : ℕ) (text : List ℕ) (d : ℕ) (t : List ℕ) → Reads (AttributesInOrder text) 1 (length t) (attributes_at f text d t)
  attributes_reads zero text d t = here
  attributes_reads (suc f) text d t =
      attributes_by_command text t _ _ _ _ refl
      (λ u h. behind t u h (value_reads f text d (drop u t)))
      (λ u h. behind t u h (properties_reads f text (drop u t)))
      (λ u h. behind t u h (attributes_reads f text d (drop u t)))

  pub value_reads : (f : ℕ) (text : List ℕ) (d : ℕ) (t : List ℕ) → Reads (ValueInOrder text) 1 (length t) (value_at f text d t)
  value_reads zero text d t = here
  value_reads (suc f) text d t =
      value_by_command text t d _ _ _ refl (λ p o. element_reads f text d p (drop 9 t) o) (λ p o. fragment_reads f text d p (drop 9 t) o)

  pub children_reads : (f : ℕ) (text : List ℕ) (d : ℕ) (t : List ℕ) → Reads (ChildrenInOrder text) 1 (length t) (children_at f text d t)
  children_reads zero text d t = here
  children_reads (suc f) text d t =
      children_by_command text t d _ _ _ _ refl
      (λ p o. element_reads f text d p (drop 9 t) o)
      (λ p o. fragment_reads f text d p (drop 9 t) o)
      (λ u h. behind t u h (children_reads f text d (drop u t)))

-- ---- the root

abbrev ScopedInOrder : List ℕ → Scoped → Type 0
ScopedInOrder text s = InOrder text s.node

abbrev RootInOrder : List ℕ → Root → Type 0
RootInOrder text r = InOrder text r.node

module _ (text t : List ℕ) where
  scopes_by_command : (found : Bool) (c : Result ScopeCommand CommandError) (whole bare : Place → Parsed Node) (next : ScopeKind → Parsed Scoped) → scope_command found t ≡ c
      → Inner text t whole → Inner text t bare
      → ((k : ScopeKind) → 2 ≤ length t → Reads (ScopedInOrder text) (2 + 1) (length t) (next k))
      → Reads (ScopedInOrder text) 1 (length t) (scopes_by text t c whole bare next)
  unfolding scopes_by
  scopes_by_command found (Err x) whole bare next e w b f = unread t x
  scopes_by_command found (Ok (scopes.Scope k)) whole bare next e w b f =
      map_reads (in_scope k) (λ s h. h) (less 1 (omega arith) (f k (scope_fits found t e)))
  scopes_by_command found (Ok (scopes.Element p)) whole bare next e w b f =
      map_reads unscoped (λ n h. h) (less 1 (omega arith) (opened_reads 0 p t (scope_fits found t e) (w p)))
  scopes_by_command found (Ok (scopes.Fragment p)) whole bare next e w b f =
      map_reads unscoped (λ n h. h) (less 1 (omega arith) (opened_reads 0 p t (scope_fits found t e) (b p)))

  root_by_command : (c : Result Heritage CommandError) (rest : Parsed Scoped) → heritage_command t ≡ c
      → (2 ≤ length t → Reads (ScopedInOrder text) (2 + 1) (length t) rest) → Reads (RootInOrder text) 1 (length t) (root_by t c rest)
  unfolding root_by
  root_by_command (Err x) rest e f = unread t x
  root_by_command (Ok h) rest e f = map_reads _ (λ s i. i) (less 1 (omega arith) (f (heritage_fits t e)))

pub scopes_reads : (f : ℕ) (text : List ℕ) (found : Bool) (t : List ℕ) → Reads (ScopedInOrder text) 1 (length t) (scopes_at f text found t)
unfolding scopes_at
scopes_reads zero text found t = here
scopes_reads (suc f) text found t =
    scopes_by_command text t found _ _ _ _ refl
    (λ p o. element_reads f text 0 p (drop 9 t) o)
    (λ p o. fragment_reads f text 0 p (drop 9 t) o)
    (λ k h. behind t 2 h (scopes_reads f text (found || is_function k) (drop 2 t)))

-- what is read before it is asked whether more follows
pub open_root_reads : (text t : List ℕ)
    → Reads (RootInOrder text) 1 (length t) (root_by t (heritage_command t) (from 2 (scopes_at (suc (length t)) text false (drop 2 t))))
open_root_reads text t = root_by_command text t _ _ refl (λ h. behind t 2 h (scopes_reads (suc (length t)) text false (drop 2 t)))

-- a root that was read is in order, and takes the whole tape
pub root_in_order : (text t : List ℕ) (r : Root) (u : ℕ) → read_root text t ≡ done r u → InOrder text r.node × (u ≡ length t)
unfolding read_root whole ◌then◌
root_in_order text t r u e = go _ (open_root_reads text t) e
  where
    last : (b : Bool) (s : Root) (v : ℕ) → ltb v (length t) ≡ b → v ≤ length t → InOrder text s.node
        → cond b (stop fault.Grammar v) (done s v) ≡ done r u → InOrder text r.node × (u ≡ length t)
    last true s v e h i q = let z : ◌≡◌ {A = ℕ} 0 1 = cc in absurd (omega arith)
    last false s v e h i q =
        let x : s ≡ r = cc in
        let y : v ≡ u = cc in
        (subst (RootInOrder text) x i, omega (arith, ltb-false v (length t) e))

    go : (p : Parsed Root) → Reads (RootInOrder text) 1 (length t) p → whole t p ≡ done r u → InOrder text r.node × (u ≡ length t)
    go p (reads {a = s} {u = v} i h k) e = last (ltb v (length t)) s v refl k i e
    go p (faults h) e = let z : ◌≡◌ {A = ℕ} 0 1 = cc in absurd (omega arith)
