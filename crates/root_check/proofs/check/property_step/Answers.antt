use Rattle.definitions.proofs.Legible.{command_read, command_unread}
use Rattle.root_check.proofs.Firsts.{properties_property, properties_named, properties_end, properties_unread}
use Rattle.std.specs.Prelude.{Err}
use Rattle.std.proofs.Common.{rules}
use mathlib.Core.Path.{◌≡◌}
use Rattle.root_check.proofs.check.property_step.Goals as goal

pub returns-in_err-command : goal.returns-in_err-command
returns-in_err-command c =
    let k = command_unread _ c.property_command_at.ensures c.legible.ensures c.in_err-command.was in
    let e : c.from_residual.result ≡ Err c.in_err-command.field-0.0 = search rules in
    rw (e, k.2) (properties_unread _ _ k.1)

pub returns-in-Property : goal.returns-in-Property
returns-in-Property c =
    properties_property _ _ _ (command_read _ c.property_command_at.ensures c.legible.ensures c.in_ok-command.was c.in-Property.is)

pub returns-in-Named : goal.returns-in-Named
returns-in-Named c =
    properties_named _ _ _ _ (command_read _ c.property_command_at.ensures c.legible.ensures c.in_ok-command.was c.in-Named.is) c.check_span.ensures c.onward.ensures

pub returns-in-End : goal.returns-in-End
returns-in-End c = properties_end _ _ (command_read _ c.property_command_at.ensures c.legible.ensures c.in_ok-command.was c.in-End.is)
