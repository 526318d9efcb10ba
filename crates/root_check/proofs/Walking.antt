-- A tape walked command by command, by the codes alone, with a count of the elements and fragments that are open: whatever is read off the tape is
-- walked over in as many bytes.
--     Walk, Rest                 the walk, up to where nothing is open
--     value_walked               a value at the front is what the walk passes
--     walk_passed                what the code passes is the walk
--     value_skipped              what a contract says of how far it goes
--     Passed, passed_..          a loop's invariant and its turns
-- Assumes nothing.
use mathlib.Core.Path.{◌≡◌, refl, ap, ◌∙◌}
use mathlib.Core.Bool.{Bool, true, false, cond, ◌||◌}
use mathlib.Core.List.{List, ◌∷◌}
use Prim.Native.Nat.{ℕ, zero, suc, ◌+◌, ◌-◌, ◌≤◌, ◌<◌}
use native.Mathlib.Nat.{add-zero, zero-add, add_assoc}
use native.Mathlib.Numerals.{sub-one}
use native.Mathlib.Omega.{arith}
use Rattle.std.specs.Prelude.{Option, Some, None, Result, Ok, Err}
use lib.ListN.{length, get_or, drop, length-drop}
use lib.Seq.{drop-drop}
use Rattle.text.specs.declared.spans.Span.{Span}
use Rattle.text.specs.declared.spans.Bounds.{Bounds}
use Rattle.text.specs.declared.spans.Bounds.TheVariants.{Outside, Cuts, Empty, Good}
use Rattle.text.specs.Spans.{part_of, bounds_of}
use Rattle.references.specs.References.{has_reference}
use Rattle.tape.specs.declared.refusal.Fault.{Fault}
use Rattle.tape.specs.declared.refusal.Fault.TheVariants as fault
use Rattle.commands.specs.declared.root.Place.{Place}
use Rattle.commands.specs.declared.error.CommandError.{CommandError}
use Rattle.commands.specs.declared.root.NameCommand.{NameCommand}
use Rattle.commands.specs.declared.root.NameCommand.TheVariants as names
use Rattle.commands.specs.declared.root.AttributeCommand.{AttributeCommand}
use Rattle.commands.specs.declared.root.AttributeCommand.TheVariants as attributes
use Rattle.commands.specs.declared.root.PropertyCommand.{PropertyCommand}
use Rattle.commands.specs.declared.root.PropertyCommand.TheVariants as properties
use Rattle.commands.specs.declared.root.ValueCommand.{ValueCommand}
use Rattle.commands.specs.declared.root.ValueCommand.TheVariants as values
use Rattle.commands.specs.declared.root.ChildCommand.{ChildCommand}
use Rattle.commands.specs.declared.root.ChildCommand.TheVariants as children
use Rattle.commands.specs.Root.{name_command, member_command, attribute_command, property_command, value_command, child_command}
use Rattle.commands.specs.Sizes.{root_commands, size_in, command_size}
use Rattle.commands.proofs.Lengths.{name_fits, member_fits, attribute_fits, property_fits, value_fits, child_fits}
use lib.Dec.{eqb, leb, ltb}
use borrow.Author.Tests.{lt-ltb, le-ltb, eq-eqb, eqb-false, ne_eqb, ltb-false}
use Rattle.definitions.specs.Judging.{Parsed, done, stop, ◌then◌, map, from, spanned, named}
use Rattle.definitions.specs.Tree.{Property, Node, Attributes, Value, Children}
use Rattle.definitions.specs.Reading.{lettered, opened, members_by, name_by, properties_by, attributes_by, value_by, children_by, members_at}
use Rattle.definitions.specs.Reading.{name_at, properties_at, element_at, fragment_at, attributes_at, value_at, children_at}
use Rattle.root_check.specs.Skipping.{size_within, open_behind, passed_by, passed_in, value_passed}
use Rattle.root_check.proofs.Codes.{member_coded, name_coded, property_coded, attribute_coded, value_coded, child_coded}

-- ---- the walk

-- a command of s bytes stands at the front of t
pub record Stands (t : List ℕ) (s : ℕ) : Type 0 where
  pub size : size_within (get_or t 0 0) ≡ Some s
  pub some : 1 ≤ s
  pub fits : s ≤ length t

-- with n open at the front of t, w bytes lead to where nothing is open
pub data Walk : ℕ → List ℕ → ℕ → Type 0 where
  last : {n : ℕ} {t : List ℕ} (s : ℕ) → Stands t s → open_behind (get_or t 0 0) n ≡ 0 → Walk n t s
  more : {n : ℕ} {t : List ℕ} (s m w : ℕ) → Stands t s → open_behind (get_or t 0 0) n ≡ suc m → Walk (suc m) (drop s t) w → Walk n t (s + w)

-- the same, where nothing may be open already
unfoldable pub Rest : ℕ → List ℕ → ℕ → Type 0
Rest zero t w = w ≡ 0
Rest (suc n) t w = Walk (suc n) t w

passes : {n : ℕ} {t : List ℕ} (s m w : ℕ) → Stands t s → open_behind (get_or t 0 0) n ≡ m → Rest m (drop s t) w → Walk n t (s + w)
unfolding Rest
passes {n} {t} s zero w k e h =
    let z : s + w ≡ s = omega arith in
    rw z (last s k e)
passes s (suc m) w k e h = more s m w k e h

-- ---- readings that are walked over

-- what is read off t leads from n open to m open
data Leads {A : Type 0} (n m : ℕ) (t : List ℕ) : Parsed A → Type 0 where
  leads : {a : A} {u : ℕ} → ((w : ℕ) → Rest m (drop u t) w → Walk n t (u + w)) → Leads n m t (done a u)
  stops : {f : Fault} {p : ℕ} → Leads n m t (stop f p)

module _ {A B : Type 0} {n m : ℕ} {t : List ℕ} where
  map_leads : {p : Parsed A} (g : A → B) → Leads n m t p → Leads n m t (map g p)
  unfolding map ◌then◌
  map_leads g (leads h) = leads h
  map_leads g stops = stops

  -- one reading, and behind it another
  then_leads : {k : ℕ} {p : Parsed A} (g : A → ℕ → Parsed B) → Leads n (suc m) t p
      → ((a : A) (u : ℕ) → ((w : ℕ) → Walk (suc m) (drop u t) w → Walk n t (u + w)) → Leads n k t (g a u)) → Leads n k t (p then g)
  unfolding ◌then◌ Rest
  then_leads g (leads h) f = f _ _ h
  then_leads g stops f = stops

module _ {A : Type 0} {n m k : ℕ} {t : List ℕ} where
  -- what stands u bytes behind the front, where these bytes are walked over
  behind : {p : Parsed A} (u : ℕ) → ((w : ℕ) → Walk m (drop u t) w → Walk n t (u + w)) → Leads m k (drop u t) p → Leads n k t (from u p)
  unfolding from
  behind u h (leads {u = v} f) =
      leads {u = u + v} (λ w r. rw (add_assoc u v w) (h (v + w) (f w (rw (drop-drop v u t) r))))
  behind u h stops = stops

-- the command with the code b, of s bytes, by itself and before more
module _ (t : List ℕ) (b s : ℕ) {n m : ℕ} (code : get_or t 0 0 ≡ b) (size : size_within b ≡ Some s) (count : open_behind b n ≡ m) (some : 1 ≤ s) (fits : s ≤ length t) where
  over : (w : ℕ) → Rest m (drop s t) w → Walk n t (s + w)
  over w r =
      passes s m w (record { size = ap size_within code ∙ size; some = some; fits = fits }) (ap (λ (x : ℕ). open_behind x n) code ∙ count) r

  alone : {A : Type 0} {a : A} → Leads n m t (done a s)
  alone = leads {u = s} over

module _ {A : Type 0} {n m : ℕ} {t : List ℕ} {p : Parsed A} where
  named_leads : (b : Bounds) → Leads n m t p → Leads n m t (named b p)
  unfolding named
  named_leads Outside h = stops
  named_leads Cuts h = stops
  named_leads Empty h = stops
  named_leads Good h = h

  spanned_leads : (b : Bounds) → Leads n m t p → Leads n m t (spanned b p)
  unfolding spanned
  spanned_leads Outside h = stops
  spanned_leads Cuts h = stops
  spanned_leads Empty h = h
  spanned_leads Good h = h

  test_leads : (b : Bool) (f : Fault) → Leads n m t p → Leads n m t (cond b (stop f 0) p)
  test_leads true f h = stops
  test_leads false f h = h

module _ {A : Type 0} {n m : ℕ} {t : List ℕ} {p : Parsed A} where
  lettered_leads : (text : List ℕ) (s : Span) → Leads n m t p → Leads n m t (lettered text s p)
  unfolding lettered
  lettered_leads text s h = spanned_leads (bounds_of text s) (test_leads (has_reference (part_of text s)) fault.Reference h)

module _ {A : Type 0} {n m : ℕ} {t : List ℕ} where
  opened_leads : (d : ℕ) (at : Place) (p : Parsed A) → Leads n m t (from 9 p) → Leads n m t (opened d at p)
  unfolding opened
  opened_leads d at p h =
      test_leads (leb 64 d) fault.Depth (test_leads (eqb at.line 4294967295 || eqb at.column 4294967295) fault.Position h)

-- ---- names and properties: they keep what is open

-- what is read behind u bytes, for each u
abbrev Onward : {A : Type 0} → ℕ → ℕ → ℕ → List ℕ → (ℕ → Parsed A) → Type 0
Onward n m k t next = (u : ℕ) → ((w : ℕ) → Walk (suc m) (drop u t) w → Walk n t (u + w)) → Leads n k t (next u)

module _ (text t : List ℕ) (c : ℕ) where
  members_lead : (x : Result (Option Span) CommandError) (next : ℕ → Parsed (List Span)) → member_command t ≡ x → Onward (suc c) c (suc c) t next
      → Leads (suc c) (suc c) t (members_by text t x next)
  unfolding members_by Rest size_within command_size size_in root_commands open_behind
  members_lead (Ok None) next e f = leads {u = 0} (λ w r. rw (zero-add w) r)
  members_lead (Err x) next e f = stops
  members_lead (Ok (Some s)) next e f =
      named_leads _ (map_leads (s ∷◌) (f 5 (over t 0x25 5 (member_coded t e (omega arith)) refl refl (omega arith) (member_fits t e))))

  name_lead : (x : Result NameCommand CommandError) (next : ℕ → Parsed (List Span)) → name_command t ≡ x → Onward (suc c) c (suc c) t next
      → Leads (suc c) (suc c) t (name_by text t x next)
  unfolding name_by Rest size_within command_size size_in root_commands open_behind
  name_lead (Err x) next e f = stops
  name_lead (Ok (names.Plain s)) next e f = named_leads _ (alone t 0x20 5 (name_coded t e (omega arith)) refl refl (omega arith) (name_fits t e))
  name_lead (Ok (names.Identifier s)) next e f =
      named_leads _ (map_leads _ (f 5 (over t 0x21 5 (name_coded t e (omega arith)) refl refl (omega arith) (name_fits t e))))
  name_lead (Ok names.This) next e f = map_leads _ (f 1 (over t 0x22 1 (name_coded t e (omega arith)) refl refl (omega arith) (name_fits t e)))
  name_lead (Ok (names.Namespaced s r)) next e f =
      named_leads _ (alone t 0x23 9 (name_coded t e (omega arith)) refl refl (omega arith) (name_fits t e))

  properties_lead : (x : Result PropertyCommand CommandError) (next : ℕ → Parsed (List Property)) → property_command t ≡ x → Onward (suc c) c (suc c) t next
      → Leads (suc c) (suc c) t (properties_by text t x next)
  unfolding properties_by Rest size_within command_size size_in root_commands open_behind
  properties_lead (Err x) next e f = stops
  properties_lead (Ok properties.End) next e f = alone t 0x35 1 (property_coded t e (omega arith)) refl refl (omega arith) (property_fits t e)
  properties_lead (Ok (properties.Property y)) next e f =
      map_leads _ (f 3 (over t 0x34 3 (property_coded t e (omega arith)) refl refl (omega arith) (property_fits t e)))
  properties_lead (Ok (properties.Named y s)) next e f =
      spanned_leads _ (map_leads _ (f 7 (over t 0x36 7 (property_coded t e (omega arith)) refl refl (omega arith) (property_fits t e))))

members_walk : (f : ℕ) (text t : List ℕ) (c : ℕ) → Leads (suc c) (suc c) t (members_at f text t)
unfolding members_at
members_walk zero text t c = stops
members_walk (suc f) text t c = members_lead text t c _ _ refl (λ u h. behind u h (members_walk f text (drop u t) c))

name_walk : (f : ℕ) (text t : List ℕ) (c : ℕ) → Leads (suc c) (suc c) t (name_at f text t)
unfolding name_at
name_walk f text t c = name_lead text t c _ _ refl (λ u h. behind u h (members_walk f text (drop u t) c))

properties_walk : (f : ℕ) (text t : List ℕ) (c : ℕ) → Leads (suc c) (suc c) t (properties_at f text t)
unfolding properties_at
properties_walk zero text t c = stops
properties_walk (suc f) text t c = properties_lead text t c _ _ refl (λ u h. behind u h (properties_walk f text (drop u t) c))

-- ---- elements and fragments

module _ (text t : List ℕ) where
  attributes_lead : (c : ℕ) (x : Result AttributeCommand CommandError) (value : ℕ → Parsed Value) (props : ℕ → Parsed (List Property)) (next : ℕ → Parsed Attributes)
      → attribute_command t ≡ x
      → Onward (suc c) c (suc c) t value → Onward (suc c) c (suc c) t props → Onward (suc c) c (suc c) t next
      → Leads (suc c) (suc c) t (attributes_by text t x value props next)
  unfolding attributes_by Rest size_within command_size size_in root_commands open_behind
  attributes_lead c (Err x) value props next e v p f = stops
  attributes_lead c (Ok attributes.End) value props next e v p f = alone t 0x1e 1 (attribute_coded t e (omega arith)) refl refl (omega arith) (attribute_fits t e)
  attributes_lead c (Ok (attributes.Plain s)) value props next e v p f =
      named_leads _
      (then_leads _ (v 5 (over t 0x30 5 (attribute_coded t e (omega arith)) refl refl (omega arith) (attribute_fits t e))) (λ a u h. map_leads _ (f u h)))
  attributes_lead c (Ok (attributes.Namespaced s r)) value props next e v p f =
      named_leads _
      (then_leads _ (v 9 (over t 0x31 9 (attribute_coded t e (omega arith)) refl refl (omega arith) (attribute_fits t e))) (λ a u h. map_leads _ (f u h)))
  attributes_lead c (Ok (attributes.Spread y)) value props next e v p f =
      map_leads _ (f 3 (over t 0x32 3 (attribute_coded t e (omega arith)) refl refl (omega arith) (attribute_fits t e)))
  attributes_lead c (Ok (attributes.Literal y)) value props next e v p f =
      then_leads _ (p 3 (over t 0x33 3 (attribute_coded t e (omega arith)) refl refl (omega arith) (attribute_fits t e))) (λ a u h. map_leads _ (f u h))

  -- what is open is as before behind the rest of an element or a fragment that stands at the front of t
  abbrev Closed : ℕ → (Place → Parsed Node) → Type 0
  Closed n node = (p : Place) → Leads (suc n) n (drop 9 t) (node p)

  value_lead : (n d : ℕ) (x : Result ValueCommand CommandError) (whole bare : Place → Parsed Node) → value_command t ≡ x → Closed n whole → Closed n bare
      → Leads n n t (value_by text d t x whole bare)
  unfolding value_by Rest size_within command_size size_in root_commands open_behind
  value_lead n d (Err x) whole bare e w b = stops
  value_lead n d (Ok values.Absent) whole bare e w b = alone t 0x40 1 (value_coded t e (omega arith)) refl refl (omega arith) (value_fits t e)
  value_lead n d (Ok (values.Text s)) whole bare e w b =
      lettered_leads text s (alone t 0x41 5 (value_coded t e (omega arith)) refl refl (omega arith) (value_fits t e))
  value_lead n d (Ok (values.Expression y)) whole bare e w b = alone t 0x42 3 (value_coded t e (omega arith)) refl refl (omega arith) (value_fits t e)
  value_lead n d (Ok values.Empty) whole bare e w b = alone t 0x43 1 (value_coded t e (omega arith)) refl refl (omega arith) (value_fits t e)
  value_lead n d (Ok (values.Element p)) whole bare e w b =
      map_leads _ (opened_leads d p _ (behind 9 (over t 0x10 9 (value_coded t e (omega arith)) refl refl (omega arith) (value_fits t e)) (w p)))
  value_lead n d (Ok (values.Fragment p)) whole bare e w b =
      map_leads _ (opened_leads d p _ (behind 9 (over t 0x11 9 (value_coded t e (omega arith)) refl refl (omega arith) (value_fits t e)) (b p)))

  children_lead : (c d : ℕ) (x : Result ChildCommand CommandError) (whole bare : Place → Parsed Node) (next : ℕ → Parsed Children) → child_command t ≡ x
      → Closed (suc c) whole → Closed (suc c) bare → Onward (suc c) c c t next
      → Leads (suc c) c t (children_by text d t x whole bare next)
  unfolding children_by Rest size_within command_size size_in root_commands open_behind
  children_lead c d (Err x) whole bare next e w b f = stops
  children_lead c d (Ok children.End) whole bare next e w b f = alone t 0x1f 1 {n = suc c} (child_coded t e (omega arith)) refl (sub-one (suc c)) (omega arith) (child_fits t e)
  children_lead c d (Ok (children.Text s)) whole bare next e w b f =
      lettered_leads text s (map_leads _ (f 5 (over t 0x50 5 (child_coded t e (omega arith)) refl refl (omega arith) (child_fits t e))))
  children_lead c d (Ok (children.Expression y)) whole bare next e w b f =
      map_leads _ (f 3 (over t 0x42 3 (child_coded t e (omega arith)) refl refl (omega arith) (child_fits t e)))
  children_lead c d (Ok children.Empty) whole bare next e w b f =
      map_leads _ (f 1 (over t 0x43 1 (child_coded t e (omega arith)) refl refl (omega arith) (child_fits t e)))
  children_lead c d (Ok (children.Spread y)) whole bare next e w b f =
      map_leads _ (f 3 (over t 0x51 3 (child_coded t e (omega arith)) refl refl (omega arith) (child_fits t e)))
  children_lead c d (Ok (children.Element p)) whole bare next e w b f =
      then_leads _ (opened_leads d p _ (behind 9 (over t 0x10 9 (child_coded t e (omega arith)) refl refl (omega arith) (child_fits t e)) (w p)))
      (λ a u h. map_leads _ (f u h))
  children_lead c d (Ok (children.Fragment p)) whole bare next e w b f =
      then_leads _ (opened_leads d p _ (behind 9 (over t 0x11 9 (child_coded t e (omega arith)) refl refl (omega arith) (child_fits t e)) (b p)))
      (λ a u h. map_leads _ (f u h))

mutual
  unfolding element_at fragment_at attributes_at value_at children_at

  element_walk : (f : ℕ) (text : List ℕ) (d : ℕ) (p : Place) (t : List ℕ) (n : ℕ) → Leads (suc n) n t (element_at f text d p t)
  element_walk zero text d p t n = stops
  element_walk (suc f) text d p t n =
      then_leads _ (name_walk f text t n)
      (λ x u h. then_leads _ (behind u h (attributes_walk f text (suc d) (drop u t) n))
      (λ a v i. map_leads _ (behind v i (children_walk f text (suc d) (drop v t) n))))

  fragment_walk : (f : ℕ) (text : List ℕ) (d : ℕ) (p : Place) (t : List ℕ) (n : ℕ) → Leads (suc n) n t (fragment_at f text d p t)
  fragment_walk zero text d p t n = stops
  fragment_walk (suc f) text d p t n = map_leads _ (children_walk f text (suc d) t n)

  attributes_walk : (f : ℕ) (text : List ℕ) (d : ℕ) (t : List ℕ) (c : ℕ) → Leads (suc c) (suc c) t (attributes_at f text d t)
  attributes_walk zero text d t c = stops
  attributes_walk (suc f) text d t c =
      attributes_lead text t c _ _ _ _ refl
      (λ u h. behind u h (value_walk f text d (drop u t) (suc c)))
      (λ u h. behind u h (properties_walk f text (drop u t) c))
      (λ u h. behind u h (attributes_walk f text d (drop u t) c))

  value_walk : (f : ℕ) (text : List ℕ) (d : ℕ) (t : List ℕ) (n : ℕ) → Leads n n t (value_at f text d t)
  value_walk zero text d t n = stops
  value_walk (suc f) text d t n =
      value_lead text t n d _ _ _ refl (λ p. element_walk f text d p (drop 9 t) n) (λ p. fragment_walk f text d p (drop 9 t) n)

  children_walk : (f : ℕ) (text : List ℕ) (d : ℕ) (t : List ℕ) (c : ℕ) → Leads (suc c) c t (children_at f text d t)
  children_walk zero text d t c = stops
  children_walk (suc f) text d t c =
      children_lead text t c d _ _ _ _ refl
      (λ p. element_walk f text d p (drop 9 t) (suc c))
      (λ p. fragment_walk f text d p (drop 9 t) (suc c))
      (λ u h. behind u h (children_walk f text d (drop u t) c))

pub value_walked : (f : ℕ) (text : List ℕ) (d : ℕ) (t : List ℕ) (v : Value) (u : ℕ) → value_at f text d t ≡ done v u → Walk 0 t u
unfolding Rest
value_walked f text d t v u e = go (value_at f text d t) (value_walk f text d t 0) e
  where
    go : (p : Parsed Value) → Leads 0 0 t p → p ≡ done v u → Walk 0 t u
    go p (leads {a = x} {u = y} h) e = let z : y ≡ u = cc in rw (← z) (rw (add-zero y) at (h 0 refl))
    go p stops e = let z : ◌≡◌ {A = ℕ} 0 1 = cc in absurd (omega arith)

-- ---- how far the code goes

-- the command in front is whole
passed_front : (f n : ℕ) {m s : ℕ} (t : List ℕ) → size_within (get_or t 0 0) ≡ Some s → s ≤ length t → open_behind (get_or t 0 0) n ≡ m
    → passed_in (suc f) n t ≡ s + cond (eqb m 0) 0 (passed_in f m (drop s t))
unfolding passed_in passed_by
passed_front f n {s = s} t k h e = rw (k, e, le-ltb (length t) s h) refl

walk_passed : {n w : ℕ} {t : List ℕ} (f : ℕ) → Walk n t w → length t ≤ f → passed_in f n t ≡ w
walk_passed zero (last s k e) g = absurd (omega (arith, k.some, k.fits))
walk_passed zero (more s m w k e h) g = absurd (omega (arith, k.some, k.fits))
walk_passed {n = n} {t = t} (suc f) (last s k e) g = passed_front f n t k.size k.fits e ∙ add-zero s
walk_passed {n = n} {t = t} (suc f) (more s m w k e h) g =
    passed_front f n t k.size k.fits e
    ∙ rw (ne_eqb (suc m) 0 (λ z. omega arith)) (ap (λ (v : ℕ). s + v) (walk_passed {n = suc m} f h (omega (arith, k.some, length-drop s t))))

passed_within : (f n : ℕ) (t : List ℕ) → passed_in f n t ≤ length t
unfolding passed_in passed_by
passed_within zero n t = omega arith
passed_within (suc f) n t = go (size_within (get_or t 0 0)) (eqb m 0) (λ s. passed_within f m (drop s t))
  where
    m : ℕ
    m = open_behind (get_or t 0 0) n

    fits : (s : ℕ) (b : Bool) → ltb (length t) s ≡ b → (c : Bool) {v : ℕ} → v ≤ length (drop s t) → cond b 0 (s + cond c 0 v) ≤ length t
    fits s true e c h = omega arith
    fits s false e true h = omega (arith, ltb-false (length t) s e)
    fits s false e false h = omega (arith, ltb-false (length t) s e, length-drop s t)

    go : (size : Option ℕ) (c : Bool) → ((s : ℕ) → passed_in f m (drop s t) ≤ length (drop s t))
        → passed_by size m t (λ s. passed_in f m (drop s t)) ≤ length t
    go None c h = omega arith
    go (Some s) c h = fits s (ltb (length t) s) refl (eqb m 0) (h s)

pub value_skipped : (tape : List ℕ) {r : ℕ} → r ≡ value_passed tape
    → (r ≤ length tape)
    × (((f : ℕ) (text : List ℕ) (d : ℕ) (v : Value) (u : ℕ) → length tape < f → value_at f text d tape ≡ done v u → r ≡ u)
    × (r ≡ value_passed tape))
value_skipped tape e = (
  omega (arith, passed_within (length tape) 0 tape),
  (λ f text d v u h g. e ∙ walk_passed (length tape) (value_walked f text d tape v u g) (omega arith), e),
)

-- a command takes a byte at least
pub size_some : (code : ℕ) {s : ℕ} → size_within code ≡ Some s → 1 ≤ s
unfolding size_within
size_some code {s} e = go (ltb code 0x10) (eqb (command_size code) 0) refl e
  where
    go : (a b : Bool) → eqb (command_size code) 0 ≡ b → cond (a || b) None (Some (command_size code)) ≡ Some s → 1 ≤ s
    go true b h e = let z : ◌≡◌ {A = ℕ} 0 1 = cc in absurd (omega arith)
    go false true h e = let z : ◌≡◌ {A = ℕ} 0 1 = cc in absurd (omega arith)
    go false false h e = let z : command_size code ≡ s = cc in omega (arith, eqb-false (command_size code) 0 h)

-- ---- a loop over the tape

-- `rest` is left, with n open before it: what is passed of the tape is what stands before the rest, and what is passed of the rest
pub record Passed (tape : List ℕ) (n : ℕ) (rest : List ℕ) : Type 0 where
  pub turns : ℕ
  pub enough : length rest ≤ turns
  pub shorter : length rest ≤ length tape
  pub few : n ≤ length tape - length rest
  pub same : value_passed tape ≡ (length tape - length rest) + passed_in turns n rest

pub passed_none : (tape : List ℕ) → Passed tape 0 tape
passed_none tape = record {
  turns = length tape;
  enough = omega arith;
  shorter = omega arith;
  few = omega arith;
  same = omega arith;
}

pub open_behind_le : (code n : ℕ) → open_behind code n ≤ suc n
unfolding open_behind
open_behind_le code n = go (eqb code 0x10 || eqb code 0x11) (eqb code 0x1f)
  where
    go : (a b : Bool) → cond a (suc n) (cond b (n - 1) n) ≤ suc n
    go true b = omega arith
    go false true = omega arith
    go false false = omega arith

module _ {tape : List ℕ} {n : ℕ} {rest : List ℕ} (P : Passed tape n rest) where
  -- no whole command stands there
  stops_here : ((g : ℕ) → passed_in (suc g) n rest ≡ 0) → length tape - length rest ≡ value_passed tape
  unfolding passed_in
  stops_here h = go P.turns P.same
    where
      go : (g : ℕ) → value_passed tape ≡ (length tape - length rest) + passed_in g n rest → length tape - length rest ≡ value_passed tape
      go zero e = omega (arith, e)
      go (suc g) e = omega (arith, e, h g)

  pub passed_no_command : size_within (get_or rest 0 0) ≡ None → length tape - length rest ≡ value_passed tape
  unfolding passed_in passed_by
  passed_no_command z = stops_here (λ g. rw z)

  module _ {s : ℕ} (size : size_within (get_or rest 0 0) ≡ Some s) where
    pub passed_cut : length rest < s → length tape - length rest ≡ value_passed tape
    unfolding passed_in passed_by
    passed_cut h = stops_here (λ g. rw (size, lt-ltb (length rest) s h))

    module _ (some : 1 ≤ s) (fits : s ≤ length rest) {m : ℕ} (opens : open_behind (get_or rest 0 0) n ≡ m) where
      -- the turns that are left, and what is passed in them
      onward : (g : ℕ) × (length rest ≤ s + g) × (value_passed tape ≡ (length tape - length rest) + (s + cond (eqb m 0) 0 (passed_in g m (drop s rest))))
      onward = go P.turns P.enough P.same
        where
          go : (g : ℕ) → length rest ≤ g → value_passed tape ≡ (length tape - length rest) + passed_in g n rest
              → (g : ℕ) × (length rest ≤ s + g) × (value_passed tape ≡ (length tape - length rest) + (s + cond (eqb m 0) 0 (passed_in g m (drop s rest))))
          go zero h e = absurd (omega arith)
          go (suc g) h e = (g, omega arith, e ∙ ap (λ (w : ℕ). (length tape - length rest) + w) (passed_front g n rest size fits opens))

      pub passed_last : m ≡ 0 → length tape - length (drop s rest) ≡ value_passed tape
      passed_last z = omega (arith, rw (eq-eqb m 0 z) at onward.2, length-drop s rest, P.shorter)

      pub passed_more : (m ≡ 0 → ⊥) → Passed tape m (drop s rest)
      passed_more z = record {
        turns = onward.0;
        enough = omega (arith, onward.1, length-drop s rest);
        shorter = omega (arith, length-drop s rest, P.shorter);
        few = omega (arith, opens, open_behind_le (get_or rest 0 0) n, length-drop s rest, P.few, P.shorter);
        same = omega (arith, rw (ne_eqb m 0 z) at onward.2, length-drop s rest, P.shorter);
      }

-- past the end nothing is passed
pub passed_end : {tape : List ℕ} {n : ℕ} {rest : List ℕ} → Passed tape n rest → length rest ≡ 0 → length tape - length rest ≡ value_passed tape
passed_end {n = n} {rest = rest} P h = omega (arith, P.same, passed_within P.turns n rest)
