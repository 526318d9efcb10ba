-- A list of roots on one tape: roots end to end, each after its length as u16, little-endian. A list cut short ends with the last whole root.
use Rattle.std.specs.Prelude.{ℕ, zero, suc, ◌+◌, ◌*◌, ◌≤◌, ◌≡◌, cond, not, ◌||◌, List, [], ◌∷◌, length, take, drop, eqb, ltb, Err, None, Ok, Option, Result, Some, ⊤}
use Rattle.std.proofs.Common.{Bor}
use Rattle.tape.specs.declared.refusal.Refusal.{Refusal}
use Rattle.tape.specs.declared.refusal.Fault.TheVariants as fault
use Rattle.tape.specs.declared.refusal.Refusal.TheVariants as refusal
use Rattle.definitions.specs.Judging.{Judged, accepted, refused, too_long, judge_state}
use Rattle.definitions.specs.States.{sound, overfilled}
use Rattle.definitions.specs.Series.{World, outcome_in, next}
use Rattle.lowering.specs.declared.series.Listed.{Listed}

-- a root of n bytes, where l follows its length, and the roots behind it
abbrev root_then : ℕ → List ℕ → List (List ℕ) → List (List ℕ)
root_then n l behind = cond (ltb (length l) n) [] (take n l ∷ behind)

-- at most so many roots
unfoldable pub roots_from : ℕ → List ℕ → List (List ℕ)
roots_from zero l = []
roots_from (suc most) [] = []
roots_from (suc most) (a ∷ []) = []
roots_from (suc most) (a ∷ b ∷ l) = root_then (a + b * 256) l (roots_from most (drop (a + b * 256) l))

-- the roots of a list
unfoldable pub roots_in : List ℕ → List (List ℕ)
roots_in l = roots_from (length l) l

-- ---- in turn, up to the first root that is refused

-- what a list comes to: an answer, what the accepted roots before it left, and how many they are
pub record Run : Type 0 where
  pub answer : Result ⊤ Refusal
  pub world : World
  pub taken : ℕ

-- by a root's own answer: it and the roots behind it, or nothing of them
unfoldable pub run_by : Result ⊤ Refusal → World → Run → Run
run_by (Ok tt) w behind = record { answer = behind.answer; world = behind.world; taken = suc behind.taken }
run_by (Err r) w behind = record { answer = Err r; world = w; taken = 0 }

-- roots in a world, where this is the answer behind the last
unfoldable pub run_of : List ℕ → World → Result ⊤ Refusal → List (List ℕ) → Run
run_of text w end [] = record { answer = end; world = w; taken = 0 }
run_of text w end (t ∷ ts) = run_by (outcome_in text w t).stepped.answer w (run_of text (next text w t) end ts)

-- the bytes of roots on a list, each behind its length
unfoldable pub list_bytes : List (List ℕ) → ℕ
list_bytes [] = 0
list_bytes (t ∷ ts) = 2 + length t + list_bytes ts

-- document 02, point 11: "a list cut short gets 3 and its length after its whole roots"
unfoldable pub ending : ℕ → ℕ → Result ⊤ Refusal
ending size whole = cond (eqb whole size) (Ok tt) (Err (refusal.Tape fault.Grammar size))

-- a list over a text and a state that are in order
unfoldable pub run_tested : List ℕ → World → List ℕ → Run
run_tested text w l = run_of text w (ending (length l) (list_bytes (roots_in l))) (roots_in l)

-- a list judges its text and its state as a root does, and before its roots: 1, 2, 12
unfoldable pub judge_list : List ℕ → World → List ℕ → Judged Run
judge_list text w l =
    judge_state (too_long text) text (not (sound text w.state) || overfilled w.state (length w.calls) (length w.notices)) (accepted (run_tested text w l))

unfoldable pub judged_run : World → Judged Run → Run
judged_run w (accepted r) = r
judged_run w (refused x) = record { answer = Err x; world = w; taken = 0 }

-- a list in a world
unfoldable pub run : List ℕ → World → List ℕ → Run
run text w l = judged_run w (judge_list text w l)

-- what the code hands back, as a run
abbrev pub ran : Listed → List ℕ → List ℕ → Run
ran r calls notices = record { answer = r.answer; world = record { state = r.state; calls = calls; notices = notices }; taken = r.taken }

-- ---- step by step

-- a root and what follows it, as the code hands them on
abbrev pub Ahead : Type 0
Ahead = Bor (List ℕ) × Bor (List ℕ)

-- at most so many roots and one, by what is ahead
unfoldable pub roots_by : ℕ → Option Ahead → List (List ℕ)
roots_by most (Some r) = r.0.now ∷ roots_from most r.1.now
roots_by most None = []

-- a root that is ahead stands on the list, behind its length
abbrev pub Stands : List ℕ → Option Ahead → Type 0
Stands l (Some r) = (2 + length r.0.now + length r.1.now ≡ length l) × (length r.0.now ≤ 65535)
Stands l None = Unit {0}
