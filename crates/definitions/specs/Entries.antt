-- docs/TAPES.md, "Refusals": what each entry answers, the state that it returns and what every target holds after, refused or not.
use Rattle.std.specs.Prelude.{ℕ, suc, ◌+◌, ◌-◌, not, ◌||◌, List, [], ◌∷◌, ◌++◌, length, take, drop, replicate, ltb, Err, None, Ok, Result}
use Rattle.tape.specs.declared.refusal.Refusal.{Refusal}
use Rattle.tape.specs.declared.refusal.Refusal.TheVariants as refusal
use Rattle.definitions.specs.declared.options.Settings.{Settings}
use Rattle.definitions.specs.declared.records.Import.{Import}
use Rattle.definitions.specs.declared.records.Import.TheVariants.{FileName}
use Rattle.definitions.specs.declared.records.Record.{Record}
use Rattle.definitions.specs.declared.state.State.{State}
use Rattle.definitions.specs.declared.state.Stepped.{Stepped}
use Rattle.definitions.specs.Judging.{Judged, accepted, refused, refuse, too_long, read, judge_state}
use Rattle.definitions.specs.Options.{flags_of}
use Rattle.definitions.specs.Opening.{opening_bytes, judge_opening, settings_of}
use Rattle.definitions.specs.Tree.{Root}
use Rattle.definitions.specs.Reading.{read_root}
use Rattle.definitions.specs.Calls.{call_bytes, notice_bytes}
use Rattle.definitions.specs.Store.{bound_after, numbered_all}
use Rattle.definitions.specs.Lowering.{lower_root, commands_of, notices_of}
use Rattle.definitions.specs.Records.{record_tape}
use Rattle.definitions.specs.States.{live, imports, sound, overfilled}

-- bytes laid into a target from a place on
unfoldable pub laid : ℕ → List ℕ → List ℕ → List ℕ
laid at bs target = take at target ++ bs ++ drop (at + length bs) target

-- ---- opening

abbrev pub no_record : Record
no_record = record { import = FileName; binding = 0 }

-- a state with no records, no calls, and the opening's notices
abbrev pub open_state : List ℕ → Settings → State
open_state text s = record { settings = s; records = replicate 8 no_record; count = 0; calls = 0; notices = length (opening_bytes text s) }

-- what a refused opening returns: a state that every entry refuses as forged, since it has over 8 records
abbrev pub no_job : State
no_job =
    record {
      settings =
          settings_of [] (record { flags = flags_of 0; pragma = None; pragma_frag = None; import_source = None; ts_pragma = None; ts_pragma_frag = None });
      records = replicate 8 no_record;
      count = 9;
      calls = 0;
      notices = 0;
    }

-- an answer, the state after, and the notice target after
pub record OpeningOutcome : Type 0 where
  pub stepped : Stepped
  pub notices : List ℕ

-- an accepted opening writes from the target's start; a refused one leaves it as it was
unfoldable pub opened_by : List ℕ → List ℕ → Judged Settings → OpeningOutcome
opened_by text notices (accepted s) =
    record { stepped = record { answer = Ok tt; state = open_state text s }; notices = laid 0 (opening_bytes text s) notices }
opened_by text notices (refused r) = record { stepped = record { answer = Err r; state = no_job }; notices = notices }

-- opening a job over a notice target
unfoldable pub opened : List ℕ → List ℕ → List ℕ → OpeningOutcome
opened text tape notices = opened_by text notices (judge_opening text tape (length notices))

-- ---- a root

-- what an accepted root adds: the bytes of its calls and its notices, and what is bound after it
pub record Lowered : Type 0 where
  pub calls : List ℕ
  pub notices : List ℕ
  pub bound : List Import

-- "each root's calls in turn, bindings kept from root to root and new ones counted on": js is what is bound before
unfoldable pub lowered_after : List ℕ → Settings → List Import → Root → Lowered
lowered_after text s js r =
    record {
      calls = call_bytes (numbered_all js (commands_of (lower_root text s r)));
      notices = notice_bytes (notices_of (lower_root text s r));
      bound = bound_after js (commands_of (lower_root text s r));
    }

-- "then 9, 10, 11": there is a number for each binding and room for each byte
unfoldable pub fitted : State → ℕ → ℕ → Lowered → Judged Lowered
fitted s call_room notice_room l =
    refuse (ltb 8 (length l.bound)) refusal.Bindings
    (refuse (ltb (call_room - s.calls) (length l.calls)) (refusal.Space (length l.calls))
    (refuse (ltb (notice_room - s.notices) (length l.notices)) (refusal.NoticeSpace (length l.notices))
    (accepted l)))

-- "Root: 1, 2, 12, then 3, 4, 6, 7, 8 at the earliest command, in that order within one, then 9, 10, 11", with 13 "directly after 4" and 14 "directly after 13".
unfoldable pub judge_root : List ℕ → State → List ℕ → ℕ → ℕ → Judged Lowered
judge_root text s tape call_room notice_room =
    judge_state (too_long text || too_long tape) text (not (sound text s) || overfilled s call_room notice_room)
    (read (read_root text tape) (λ r. fitted s call_room notice_room (lowered_after text s.settings (imports (live s)) r)))

-- things as records, numbered from k
unfoldable pub records_from : ℕ → List Import → List Record
records_from k [] = []
records_from k (i ∷ is) = record { import = i; binding = k } ∷ records_from (suc k) is

-- the state after an accepted root; the places of the record array that hold nothing stay as they are
unfoldable pub moved : State → Lowered → State
moved s l =
    record {
      settings = s.settings;
      records = records_from 0 l.bound ++ drop (length l.bound) s.records;
      count = length l.bound;
      calls = s.calls + length l.calls;
      notices = s.notices + length l.notices;
    }

-- an answer, the state after, and both targets after
pub record Outcome : Type 0 where
  pub stepped : Stepped
  pub calls : List ℕ
  pub notices : List ℕ

-- "\"Left: all\" means every target and the state keep their contents."
unfoldable pub outcome_by : State → List ℕ → List ℕ → Judged Lowered → Outcome
outcome_by s calls notices (accepted l) =
    record {
      stepped = record { answer = Ok tt; state = moved s l };
      calls = laid s.calls l.calls calls;
      notices = laid s.notices l.notices notices;
    }
outcome_by s calls notices (refused r) =
    record { stepped = record { answer = Err r; state = s }; calls = calls; notices = notices }

-- lowering a root over the two targets
unfoldable pub root_outcome : List ℕ → State → List ℕ → List ℕ → List ℕ → Outcome
root_outcome text s tape calls notices = outcome_by s calls notices (judge_root text s tape (length calls) (length notices))

-- ---- writing records

-- a tape that is written where there is room for it
abbrev pub judge_tape : List ℕ → ℕ → Judged (List ℕ)
judge_tape t room = refuse (ltb room (length t)) (refusal.Space (length t)) (accepted t)

-- what is written from a text and a state: 1, 2, 12, before it
unfoldable pub judge_writing : List ℕ → State → Judged (List ℕ) → Judged (List ℕ)
judge_writing text s rest = judge_state (too_long text) text (not (sound text s)) rest

-- "Writing records: 1, 2, 12, 10."
unfoldable pub judge_records : List ℕ → State → ℕ → Judged (List ℕ)
judge_records text s room = judge_writing text s (judge_tape (record_tape s.settings.mode (live s)) room)

unfoldable pub records_answer : Judged (List ℕ) → Result ℕ Refusal
records_answer (accepted t) = Ok (length t)
records_answer (refused r) = Err r

unfoldable pub records_target : List ℕ → Judged (List ℕ) → List ℕ
records_target target (accepted t) = laid 0 t target
records_target target (refused r) = target
