-- The steps of lowering a root: what is known before each, and what is left to judge.
use Rattle.std.specs.Prelude.{◌≡◌, true, List, ℕ, ◌≤◌, length, Err, None, Ok, Result, ⊤}
use Rattle.tape.specs.declared.refusal.Refusal.{Refusal}
use Rattle.text.specs.Utf8.{first_ill}
use Rattle.definitions.specs.declared.state.State.{State}
use Rattle.definitions.specs.declared.state.Stepped.{Stepped}
use Rattle.definitions.specs.Judging.{Judged, accepted, refused, read}
use Rattle.definitions.specs.Reading.{read_root}
use Rattle.definitions.specs.States.{live, imports, sound}
use Rattle.definitions.specs.Entries.{Lowered, lowered_after, fitted, Outcome, outcome_by}
use Rattle.root_check.specs.Checking.{checked}

-- text and tape are short, and the text is UTF-8
pub record Text (text tape : List ℕ) : Type 0 where
  pub short : length text ≤ 65535
  pub tape_short : length tape ≤ 65535
  pub formed : first_ill text ≡ None

-- the text is in order and the state is not forged, over targets of these lengths
pub record Going (text : List ℕ) (s : State) (call_room notice_room : ℕ) : Type 0 where
  pub short : length text ≤ 65535
  pub formed : first_ill text ≡ None
  pub bore : sound text s ≡ true
  pub calls_within : s.calls ≤ call_room
  pub notices_within : s.notices ≤ notice_room

-- and the state is not forged, over targets of these lengths
pub record Unforged (text : List ℕ) (s : State) (tape : List ℕ) (call_room notice_room : ℕ) : Type 0 where
  pub spelled : Text text tape
  pub bore : sound text s ≡ true
  pub calls_within : s.calls ≤ call_room
  pub notices_within : s.notices ≤ notice_room

-- and the tape reads as a root
pub record Ready (text : List ℕ) (s : State) (tape : List ℕ) (call_room notice_room : ℕ) : Type 0 where
  pub unforged : Unforged text s tape call_room notice_room
  pub reads : checked (read_root text tape) ≡ Ok tt

-- what is left to judge where the state is not forged: the root's own faults, and whether its output fits
unfoldable pub judge_tape : List ℕ → State → List ℕ → ℕ → ℕ → Judged Lowered
judge_tape text s tape call_room notice_room =
    read (read_root text tape) (λ r. fitted s call_room notice_room (lowered_after text s.settings (imports (live s)) r))

-- answer, state and targets by that
unfoldable pub tape_outcome : List ℕ → State → List ℕ → List ℕ → List ℕ → Outcome
tape_outcome text s tape calls notices = outcome_by s calls notices (judge_tape text s tape (length calls) (length notices))

unfoldable pub answer_of : Judged Lowered → Result ⊤ Refusal
answer_of (accepted l) = Ok tt
answer_of (refused r) = Err r

-- a root's answer, with the state behind it: a refused root leaves it as it is
unfoldable pub stepped : State → Result State Refusal → Stepped
stepped s (Ok t) = record { answer = Ok tt; state = t }
stepped s (Err r) = record { answer = Err r; state = s }

-- the answer with the state, and both targets after, are those of an outcome
pub record Comes (o : Outcome) (t : Stepped) (calls notices : List ℕ) : Type 0 where
  pub answered : t ≡ o.stepped
  pub called : calls ≡ o.calls
  pub noticed : notices ≡ o.notices
