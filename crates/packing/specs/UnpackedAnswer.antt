-- What reading a job's state gives as a test and a state in one, for callers that must have a state.
use Rattle.std.specs.Prelude.{Bool, true, false, None, Option, Some}
use Rattle.definitions.specs.declared.state.State.{State}
use Rattle.packing.specs.Packed.{no_state}

-- whether bytes are a state's, and that state, or else the one that every entry refuses
pub record Unpacked : Type 0 where
  pub good : Bool
  pub state : State

unfoldable pub unpacked_answer : Option State → Unpacked
unpacked_answer (Some s) = record { good = true; state = s }
unpacked_answer None = record { good = false; state = no_state }
