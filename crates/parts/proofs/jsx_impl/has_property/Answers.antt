use Rattle.std.proofs.Common.{Ok, ap, ◌∙◌}
use Rattle.text.proofs.Lists.{told}
use Rattle.parts.proofs.Fronts.{end_property, some_property, error_property}
use Rattle.parts.proofs.jsx_impl.has_property.Goals as goal
use Rattle.parts.proofs.jsx_impl.has_property.Goals.{in-End, in_default}

pub returns-after-matches : goal.returns-after-matches
returns-after-matches c = λ f text k x ps u e.
    let read = told c.property_command_at.ensures c.in-Ok.is in
    elim c.match-matches.branch [
      | in-End w ↦ rw w.matches-is (end_property f text _ k x ps u e (read ∙ ap Ok w.in-End.is))
      | in_default w ↦ rw w.matches-is (some_property f text _ k x ps u e _ read w.in_default.not-End)
    ]

pub returns-in-Err : goal.returns-in-Err
returns-in-Err c = λ f text k x ps u e. absurd (error_property f text _ k x ps u e (told c.property_command_at.ensures c.in-Err.is))
