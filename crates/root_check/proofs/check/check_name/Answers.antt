use Rattle.definitions.proofs.Legible.{command_read, command_unread}
use Rattle.root_check.proofs.Commands.{name_plain, name_namespaced, identifier_refused, identifier_behind, name_this, name_unread}
use Rattle.root_check.proofs.Firsts.{named_within}
use Rattle.root_check.proofs.Behind.{within_good}
use Rattle.commands.proofs.Lengths.{name_fits}
use Rattle.std.specs.Prelude.{Err}
use Rattle.std.proofs.Common.{rules}
use mathlib.Core.Path.{◌≡◌}
use native.Mathlib.Omega.{arith}
use Rattle.root_check.proofs.check.check_name.Goals as goal

pub returns-in_err-command : goal.returns-in_err-command
returns-in_err-command c =
    let k = command_unread _ c.name_command_at.ensures c.legible.ensures c.in_err-command.was in
    let e : c.from_residual.result ≡ Err c.in_err-command.field-0.0 = search rules in
    rw (e, k.2) (name_unread _ _ k.1)

pub returns-in_err-n-in-Identifier : goal.returns-in_err-n-in-Identifier
returns-in_err-n-in-Identifier c =
    let e : c.from_residual-in_err-n-in-Identifier.result ≡ Err c.in_err-n-in-Identifier.field-0.0 = search rules in
    rw e (identifier_refused _ _ (command_read _ c.name_command_at.ensures c.legible.ensures c.in_ok-command.was c.in-Identifier.is) c.check_label-in-Identifier.ensures c.in_err-n-in-Identifier.was)

pub members_behind-requires : goal.members_behind-requires
members_behind-requires c =
    within_good c.in_ok-n-in-Identifier.was
    (named_within 5 _ (omega arith) (name_fits _ (command_read _ c.name_command_at.ensures c.legible.ensures c.in_ok-command.was c.in-Identifier.is)) _ c.check_label-in-Identifier.ensures)

pub members_behind-requires-in-This : goal.members_behind-requires-in-This
members_behind-requires-in-This c =
    (omega arith, name_fits _ (command_read _ c.name_command_at.ensures c.legible.ensures c.in_ok-command.was c.in-This.is))

pub returns-in-Plain : goal.returns-in-Plain
returns-in-Plain c =
    name_plain _ _ _ (command_read _ c.name_command_at.ensures c.legible.ensures c.in_ok-command.was c.in-Plain.is) c.check_label.ensures

pub returns-in_ok-n-in-Identifier : goal.returns-in_ok-n-in-Identifier
returns-in_ok-n-in-Identifier c =
    identifier_behind _ _ (command_read _ c.name_command_at.ensures c.legible.ensures c.in_ok-command.was c.in-Identifier.is) c.check_label-in-Identifier.ensures
    c.in_ok-n-in-Identifier.was c.members_behind.ensures

pub returns-in-This : goal.returns-in-This
returns-in-This c = name_this _ _ (command_read _ c.name_command_at.ensures c.legible.ensures c.in_ok-command.was c.in-This.is) c.members_behind-in-This.ensures

pub returns-in-Namespaced : goal.returns-in-Namespaced
returns-in-Namespaced c =
    name_namespaced _ _ _ _ (command_read _ c.name_command_at.ensures c.legible.ensures c.in_ok-command.was c.in-Namespaced.is) c.check_labels.ensures
