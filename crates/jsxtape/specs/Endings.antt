-- What the code's answer and targets say that is to be printed.
use Rattle.std.specs.Prelude.{◌≡◌, ℕ, ◌≤◌, length, take, Err, Ok, Result}
use Rattle.tape.specs.declared.refusal.Refusal.{Refusal}
use Rattle.definitions.specs.Program.{Printed, printed, printed_refusal, room}
use Rattle.jsxtape.specs.declared.job.Targets.{Targets}
use Rattle.jsxtape.specs.declared.job.Written.{Written}

-- the front of each target, or the refusal
unfoldable pub shown : Result Written Refusal → Targets → Printed
shown (Ok w) t = printed (take w.calls t.calls) (take w.notices t.notices) (take w.records t.records)
shown (Err r) t = printed_refusal r

-- no count is over k; a refusal has none
unfoldable pub most : Result Written Refusal → ℕ → Type 0
most (Ok w) k = (w.calls ≤ k) × (w.notices ≤ k) × (w.records ≤ k)
most (Err r) k = 0 ≤ k

-- this is printed, and it lies within the targets
pub record Ends (p : Printed) (e : Result Written Refusal) (t : Targets) : Type 0 where
  pub shows : shown e t ≡ p
  pub within : most e room
