-- What writing a record tape answers and leaves in the target (`judge_tape` of definitions, Entries), by the code's tests.
--     Comes                       an answer and a target that a judgement comes to
--     crowded, roomy              refusal 10, and a target with room
--     fitted_comes, tape_comes    what was measured, and then written where it fits
-- Assumes nothing.
use Rattle.std.specs.Prelude.{Err, Ok, Result}
use Rattle.tape.specs.declared.refusal.Refusal.{Refusal}
use mathlib.Core.Path.{◌≡◌, refl, sym, ap, ◌∙◌}
use mathlib.Core.Bool.{Bool, true, false, cond}
use mathlib.Core.List.{List, [], ◌∷◌, ◌++◌}
use Prim.Native.Nat.{ℕ, ◌+◌, ◌*◌, ◌^◌, ◌≤◌, ◌<◌}
use native.Mathlib.Omega.{arith}
use lib.ListN.{length, drop, length-append}
use lib.Dec.{ltb}
use Rattle.std.proofs.Common.{zero-add}
use borrow.Author.Tests.{lt-ltb, le-ltb}
use Rattle.tape.specs.declared.refusal.Refusal.TheVariants.{Space}
use Rattle.tape.specs.Targets.{Fitted}
use Rattle.definitions.specs.declared.options.Mode.{Mode}
use Rattle.definitions.specs.declared.records.Record.{Record}
use Rattle.definitions.specs.Judging.{Judged, accepted, refuse}
use Rattle.definitions.specs.Records.{groups_from, entries_in, group_tape, place_in, file_name_tape, record_tape}
use Rattle.definitions.specs.Entries.{laid, judge_tape, records_answer, records_target}
use Rattle.records.specs.declared.groups.Groups.{Groups}
use Rattle.records.specs.declared.groups.Groups.TheVariants.{Empty, One, Two}
use Rattle.records.specs.Grouping.{sources_of}
use Rattle.records.specs.Tape.{tape_of}
use Rattle.records.proofs.Tape.{entries_length, file_names_length}

abbrev pub Comes : Judged (List ℕ) → Result ℕ Refusal → List ℕ → List ℕ → Type 0
Comes j w before after = (w ≡ records_answer j) × (after ≡ records_target before j)

-- ---- the tape's length

groups_length : (g : Groups) (rs : List Record) → length (group_tape rs (sources_of g)) ≤ 6 * length rs + 4
unfolding sources_of group_tape
groups_length Empty rs = omega arith
groups_length (One s) rs = omega (arith, length-append (entries_in s rs) [], entries_length s rs)
groups_length (Two s t) rs =
    omega (arith, length-append (entries_in s rs) (0xb0 ∷ t ∷ entries_in t rs ++ []), length-append (entries_in t rs) [], entries_length s rs, entries_length t rs)

tape_length : (m : Mode) (g : Groups) (rs : List Record) → length (tape_of m g rs) ≤ 9 * length rs + 4
unfolding tape_of
tape_length m g rs =
    omega (
      arith,
      length-append (group_tape rs (sources_of g)) (file_name_tape (place_in m) rs),
      groups_length g rs,
      file_names_length (place_in m) rs,
    )

-- ---- the two runs

module _ (m : Mode) (g : Groups) (rs : List Record) (e : sources_of g ≡ groups_from [] rs) where
  tape_is : tape_of m g rs ≡ record_tape m rs
  unfolding tape_of record_tape
  tape_is = rw e

  tape_short : length rs ≤ 8 → length (tape_of m g rs) < 2 ^ 63
  tape_short h = omega (arith, tape_length m g rs)

-- ---- by the code's tests

pub crowded : (t o : List ℕ) → length o < length t → Comes (judge_tape t (length o)) (Err (Space (length t))) o o
unfolding refuse records_answer records_target
crowded t o h = rw (lt-ltb (length o) (length t) h) (refl, refl)

pub roomy : (t o : List ℕ) → length t ≤ length o → Comes (judge_tape t (length o)) (Ok (length t)) o (laid 0 t o)
unfolding refuse records_answer records_target
roomy t o h = rw (le-ltb (length o) (length t) h) (refl, refl)

-- what was measured, and then written where it fits
pub fitted_comes : (t o : List ℕ) {r : Result ℕ Refusal} {o' : List ℕ} → Fitted t o r o' → Comes (judge_tape t (length o)) r o o'
unfolding refuse records_answer records_target laid
fitted_comes t o {r} {o'} w = go (ltb (length o) (length t)) w.value (w.holds ∙ ap (λ (n : ℕ). cond (ltb (length o) (length t)) o (t ++ drop n o)) (sym (zero-add (length t))))
  where
    go : (b : Bool) → r ≡ cond b (Err (Space (length t))) (Ok (length t)) → o' ≡ cond b o (t ++ drop (0 + length t) o)
        → Comes (refuse b (Space (length t)) (accepted t)) r o o'
    go true p q = (p, q)
    go false p q = (p, q)

module _ (m : Mode) (g : Groups) (rs : List Record) (e : sources_of g ≡ groups_from [] rs) where
  pub tape_comes : (o : List ℕ) {r : Result ℕ Refusal} {o' : List ℕ} → length rs ≤ 8
      → ((bs : List ℕ) → length bs < 2 ^ 63 → bs ≡ tape_of m g rs → Fitted bs o r o') → Comes (judge_tape (record_tape m rs) (length o)) r o o'
  tape_comes o h f = rw (← tape_is m g rs e) (fitted_comes (tape_of m g rs) o (f (tape_of m g rs) (tape_short m g rs e h) refl))
