-- Steps that the proofs of the code share.
--     weighed                 the byte of a truth value
--     records_next            a walk through the records of an array, at element i
--     packed_length           how many bytes a state has
--     packed_laid             what a target with room for them holds after
-- Assumes nothing.
use mathlib.Core.Path.{◌≡◌, refl, ◌∙◌}
use mathlib.Core.Bool.{Bool, true, false}
use mir.Val.{bool_byte}
use mathlib.Core.List.{List, [], ◌∷◌, ◌++◌, append-nil, append_assoc}
use Prim.Native.Nat.{ℕ, ◌+◌, ◌*◌, ◌≤◌, ◌<◌}
use native.Mathlib.Omega.{arith}
use borrow.Author.Tests.{le-ltb}
use native.Mathlib.Numerals.{add-one}
use lib.ListN.{length, take, get_or, length-append}
use lib.Seq.{take-suc}
use Rattle.definitions.specs.declared.records.Record.{Record}
use Rattle.definitions.specs.declared.records.Import.TheVariants.{Named}
use Rattle.definitions.specs.declared.options.Settings.{Settings}
use Rattle.definitions.specs.declared.state.State.{State}
use Rattle.definitions.specs.Entries.{laid}
use Rattle.tape.specs.Numbers.{u64_bytes}
use Rattle.tape.specs.Targets.{Wrote}
use Rattle.tape.proofs.Targets.{sets_room}
use Rattle.packing.specs.Packed.{weight, record_bytes, records_bytes, optional_bytes, options_bytes, form_bytes, settings_bytes, packed, packed_target}

pub weighed : (b : Bool) {r : ℕ} → r ≡ bool_byte b → r ≡ weight b
unfolding weight
weighed true e = e
weighed false e = e

-- what an element of the array is past its end
abbrev pub nothing : Record
nothing = record { import = Named 0 0; binding = 0 }

records_append : (rs qs : List Record) → records_bytes (rs ++ qs) ≡ records_bytes rs ++ records_bytes qs
unfolding records_bytes
records_append [] qs = refl
records_append (r ∷ rs) qs = rw (records_append rs qs, append_assoc)

pub records_next : (a : List Record) (i : ℕ) → i < length a → records_bytes (take i a) ++ record_bytes (get_or a i nothing) ≡ records_bytes (take (i + 1) a)
unfolding records_bytes
records_next a i h = rw (add-one, take-suc a i nothing h, records_append (take i a) (get_or a i nothing ∷ []), append-nil)

records_length : (rs : List Record) → length (records_bytes rs) ≡ 4 * length rs
unfolding records_bytes record_bytes
records_length [] = refl
records_length (r ∷ rs) = omega (arith, records_length rs)

pub settings_length : (s : Settings) → length (settings_bytes s) ≡ 46
unfolding settings_bytes options_bytes optional_bytes form_bytes
settings_length s = refl

pub packed_length : (s : State) → length s.records ≡ 8 → length (packed s) ≡ 102
unfolding packed
packed_length s e =
    let a = settings_bytes s.settings in
    let b = records_bytes s.records in
    rw (
      length-append (a ++ b ++ u64_bytes s.count ++ u64_bytes s.calls) (u64_bytes s.notices),
      length-append (a ++ b ++ u64_bytes s.count) (u64_bytes s.calls),
      length-append (a ++ b) (u64_bytes s.count),
      length-append a b,
      settings_length s.settings,
      records_length s.records,
      e,
    )

-- a target with room for a state holds it after
pub packed_laid : (s : State) (o : List ℕ) {o' : List ℕ} {r : ℕ} → length s.records ≡ 8 → 102 ≤ length o → Wrote o o' 0 r (packed s) → o' ≡ packed_target s o
unfolding packed_target laid
packed_laid s o e h w = rw (le-ltb (length o) 102 h) (w.holds ∙ sets_room o 0 (packed s) (omega (arith, packed_length s e)))
