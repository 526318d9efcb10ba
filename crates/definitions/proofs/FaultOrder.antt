-- Of all that is wrong with one command the first in the order is told (specs/Faults): for each of the ways in which a command's operands are judged.
--     span_told, name_told, names_told     spanned, named, and named of the worse of two bounds
--     text_told, node_told                 lettered, opened
-- Assumes nothing.
use Prim.Native.Nat.{ℕ, ◌+◌}
use mathlib.Core.Path.{◌≡◌, refl}
use mathlib.Core.Bool.{Bool, true, false, cond, ◌||◌}
use mathlib.Core.List.{List}
use lib.ListN.{length}
use lib.Dec.{eqb, ltb}
use Rattle.text.specs.declared.spans.Span.{Span}
use Rattle.text.specs.declared.spans.Bounds.{Bounds}
use Rattle.text.specs.declared.spans.Bounds.TheVariants.{Outside, Cuts, Empty, Good}
use Rattle.text.specs.Spans.{part_of, cuts_at, bounds_of}
use Rattle.references.specs.References.{has_reference}
use Rattle.tape.specs.declared.refusal.Fault.TheVariants as fault
use Rattle.tape.specs.Refusals.{fault_number}
use Rattle.commands.specs.declared.root.Place.{Place}
use Rattle.definitions.specs.Judging.{Parsed, stop, from, spanned, named, worse}
use Rattle.definitions.specs.Reading.{lettered, opened}
use Rattle.definitions.specs.Faults.{told, told_in, span_has, name_has, names_have, text_has, node_has}

-- whether a span ends beyond the text, whether it cuts a character
abbrev beyond : List ℕ → Span → Bool
beyond text s = ltb (length text) (s.start + s.len)

abbrev cutting : List ℕ → Span → Bool
cutting text s = cuts_at text s.start || cuts_at text (s.start + s.len)

-- bounds by the three causes
abbrev bounds_by : Bool → Bool → Bool → Bounds
bounds_by o c e = cond o Outside (cond c Cuts (cond e Empty Good))

module _ {A : Type 0} (text : List ℕ) where
  pub span_told : (s : Span) (p : Parsed A) → spanned (bounds_of text s) p ≡ told (span_has text s) p
  unfolding bounds_of spanned told_in span_has fault_number
  span_told s p = go (beyond text s) (cutting text s) (eqb s.len 0)
    where
      go : (o c e : Bool) → spanned (bounds_by o c e) p ≡ cond o (stop fault.Outside 0) (cond c (stop fault.Cuts 0) p)
      go true c e = refl
      go false true e = refl
      go false false true = refl
      go false false false = refl

  pub name_told : (s : Span) (p : Parsed A) → named (bounds_of text s) p ≡ told (name_has text s) p
  unfolding bounds_of named told_in span_has name_has fault_number
  name_told s p = go (beyond text s) (cutting text s) (eqb s.len 0)
    where
      go :
          (o c e : Bool)
          → named (bounds_by o c e) p
          ≡ cond o (stop fault.Outside 0) (cond c (stop fault.Cuts 0) (cond e (stop fault.EmptyName 0) p))
      go true c e = refl
      go false true e = refl
      go false false true = refl
      go false false false = refl

  -- the worse of two bounds is the one whose number comes first
  pub names_told : (s r : Span) (p : Parsed A) → named (worse (bounds_of text s) (bounds_of text r)) p ≡ told (names_have text s r) p
  unfolding bounds_of named worse told_in span_has name_has names_have fault_number
  names_told s r p = go (beyond text s) (cutting text s) (eqb s.len 0) (beyond text r) (cutting text r) (eqb r.len 0)
    where
      go :
          (o c e o' c' e' : Bool)
          → named (worse (bounds_by o c e) (bounds_by o' c' e')) p
          ≡ cond (o || o') (stop fault.Outside 0) (cond (c || c') (stop fault.Cuts 0) (cond (e || e') (stop fault.EmptyName 0) p))
      go true c e o' c' e' = refl
      go false true e true c' e' = refl
      go false true e false true e' = refl
      go false true e false false true = refl
      go false true e false false false = refl
      go false false true true c' e' = refl
      go false false true false true e' = refl
      go false false true false false true = refl
      go false false true false false false = refl
      go false false false true c' e' = refl
      go false false false false true e' = refl
      go false false false false false true = refl
      go false false false false false false = refl

  pub text_told : (s : Span) (p : Parsed A) → lettered text s p ≡ told (text_has text s) p
  unfolding bounds_of spanned lettered told_in span_has text_has fault_number
  text_told s p = go (beyond text s) (cutting text s) (eqb s.len 0) (has_reference (part_of text s))
    where
      go :
          (o c e a : Bool)
          → spanned (bounds_by o c e) (cond a (stop fault.Reference 0) p)
          ≡ cond o (stop fault.Outside 0) (cond c (stop fault.Cuts 0) (cond a (stop fault.Reference 0) p))
      go true c e a = refl
      go false true e a = refl
      go false false true a = refl
      go false false false a = refl

pub node_told : {A : Type 0} (d : ℕ) (p : Place) (body : Parsed A) → opened d p body ≡ told (node_has d p) (from 9 body)
unfolding opened told_in node_has fault_number
node_told d p body = refl
