-- The entries over bytes and numbers: what each answers, and what its targets hold after. A refusal is answered by its number, with its figure
-- beside it; 0 is no refusal.
use Rattle.std.specs.Prelude.{ℕ, cond, List, length, replicate, eqb, ltb, unwrap_or, is_ok, Err, Ok, Result, ⊤}
use Rattle.tape.specs.declared.refusal.Refusal.{Refusal}
use Rattle.tape.specs.declared.refusal.Refusal.TheVariants as refusal
use Rattle.tape.specs.Refusals.{number_of, figure_of}
use Rattle.definitions.specs.declared.state.State.{State}
use Rattle.definitions.specs.Judging.{Judged}
use Rattle.definitions.specs.Entries.{OpeningOutcome, Outcome, opened, root_outcome, judge_records, records_answer, records_target}
use Rattle.definitions.specs.Series.{World}
use Rattle.lowering.specs.RootLists.{Run, run}
use Rattle.packing.specs.Packed.{packed_target, unpacked, no_state}
use Rattle.resolved.specs.Resolved.{judge_source, judge_settings}

-- the state that bytes are; bytes that are no state's stand for one that every entry refuses as forged
abbrev pub state_from : List ℕ → State
state_from bytes = unwrap_or (unpacked bytes) no_state

unfoldable pub number_by : {A : Type 0} → Result A Refusal → ℕ
number_by (Ok x) = 0
number_by (Err r) = number_of r

-- the figure, where an accepted entry has this one
unfoldable pub figure_by : ℕ → Result ⊤ Refusal → ℕ
figure_by n (Ok tt) = n
figure_by n (Err r) = figure_of r

-- the bytes of a state's target: only an accepted entry changes them
unfoldable pub state_after : Result ⊤ Refusal → State → List ℕ → List ℕ
state_after a s bytes = cond (is_ok a) (packed_target s bytes) bytes

-- ---- opening

-- 10: the state's target has no room for it
unfoldable pub without_room : Result ⊤ Refusal → Result ⊤ Refusal
without_room (Ok tt) = Err (refusal.Space 102)
without_room (Err r) = Err r

-- a notice target with room for the notices of any opening: two, of five bytes
abbrev pub spare : List ℕ
spare = replicate 10 0

-- 10 comes before 11, so that where the state has no room the notices are not judged, and not written
abbrev pub open_over : List ℕ → List ℕ → ℕ → List ℕ → OpeningOutcome
open_over text job room notices =
    cond (ltb room 102)
    (record { stepped = record { answer = without_room (opened text job spare).stepped.answer; state = (opened text job spare).stepped.state }; notices = notices })
    (opened text job notices)

-- ---- a root

abbrev pub root_over : List ℕ → List ℕ → List ℕ → List ℕ → List ℕ → Outcome
root_over text state tape calls notices = root_outcome text (state_from state) tape calls notices

-- ---- a list of roots

abbrev pub run_over : List ℕ → List ℕ → List ℕ → List ℕ → List ℕ → Run
run_over text state roots calls notices = run text (record { state = state_from state; calls = calls; notices = notices }) roots

-- the bytes of a state's target behind so many accepted roots: where there is none, they stay
unfoldable pub kept_state : ℕ → State → List ℕ → List ℕ
kept_state taken s bytes = cond (eqb taken 0) bytes (packed_target s bytes)

-- ---- writing records

abbrev pub records_over : List ℕ → List ℕ → ℕ → Judged (List ℕ)
records_over text state room = judge_records text (state_from state) room

unfoldable pub records_figure : Result ℕ Refusal → ℕ
records_figure (Ok n) = n
records_figure (Err r) = figure_of r

-- ---- the settings after the comments, and the text of a source

abbrev pub settings_over : List ℕ → List ℕ → ℕ → Judged (List ℕ)
settings_over text state room = judge_settings text (state_from state) room

abbrev pub source_over : List ℕ → List ℕ → ℕ → ℕ → Judged (List ℕ)
source_over text state n room = judge_source text (state_from state) n room

-- ---- a whole job

-- how far a job came (0 its opening, 1 its roots, 2 its records), the number and the figure there, how many roots were lowered, what they left, and the
-- record target after
pub record JobRun : Type 0 where
  pub stage : ℕ
  pub number : ℕ
  pub figure : ℕ
  pub taken : ℕ
  pub world : World
  pub records : List ℕ

abbrev pub stopped : ℕ → Refusal → ℕ → World → List ℕ → JobRun
stopped stage x taken w records = record { stage = stage; number = number_of x; figure = figure_of x; taken = taken; world = w; records = records }

-- the records behind the roots
unfoldable pub job_records : List ℕ → ℕ → World → List ℕ → JobRun
job_records text taken w records =
    record {
      stage = 2;
      number = number_by (records_answer (judge_records text w.state (length records)));
      figure = records_figure (records_answer (judge_records text w.state (length records)));
      taken = taken;
      world = w;
      records = records_target records (judge_records text w.state (length records));
    }

-- by what the list of roots comes to
unfoldable pub job_roots : List ℕ → Result ⊤ Refusal → ℕ → World → List ℕ → JobRun
job_roots text (Ok tt) taken w records = job_records text taken w records
job_roots text (Err x) taken w records = stopped 1 x taken w records

-- by what the opening comes to
unfoldable pub job_by : List ℕ → Result ⊤ Refusal → World → List ℕ → List ℕ → JobRun
job_by text (Ok tt) w roots records = job_roots text (run text w roots).answer (run text w roots).taken (run text w roots).world records
job_by text (Err x) w roots records = stopped 0 x 0 w records

-- opening, then the roots, then the records, each with its own refusals
abbrev pub job_over : List ℕ → List ℕ → List ℕ → List ℕ → List ℕ → List ℕ → JobRun
job_over text job roots calls notices records =
    job_by text (opened text job notices).stepped.answer
    (record { state = (opened text job notices).stepped.state; calls = calls; notices = (opened text job notices).notices }) roots records
