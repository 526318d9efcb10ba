use Rattle.std.proofs.Common.{Ok, ap, ◌∙◌}
use Rattle.text.proofs.Lists.{told}
use Rattle.parts.proofs.Fronts.{absent_value, there_value}
use Rattle.parts.proofs.Inversions.{value_error}
use Rattle.parts.proofs.jsx_impl.has_value.Goals as goal
use Rattle.parts.proofs.jsx_impl.has_value.Goals.{in-Absent, in_default}

pub returns-after-matches : goal.returns-after-matches
returns-after-matches c = λ f text d v u e.
    let read = told c.value_command_at.ensures c.in-Ok.is in
    elim c.match-matches.branch [
      | in-Absent w ↦ rw w.matches-is (absent_value f text _ d v u e (read ∙ ap Ok w.in-Absent.is))
      | in_default w ↦ rw w.matches-is (there_value f text _ d v u e _ read w.in_default.not-Absent)
    ]

pub returns-in-Err : goal.returns-in-Err
returns-in-Err c = λ f text d v u e. absurd (value_error text _ d f (told c.value_command_at.ensures c.in-Err.is) e)
