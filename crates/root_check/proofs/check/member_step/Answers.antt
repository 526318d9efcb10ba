use Rattle.definitions.proofs.Legible.{command_read, command_unread}
use Rattle.root_check.proofs.Firsts.{members_member, members_other, members_unread}
use Rattle.std.specs.Prelude.{Err}
use Rattle.std.proofs.Common.{rules}
use mathlib.Core.Path.{◌≡◌}
use Rattle.root_check.proofs.check.member_step.Goals as goal

pub returns-in_err-member : goal.returns-in_err-member
returns-in_err-member c =
    let k = command_unread _ c.member_command_at.ensures c.legible.ensures c.in_err-member.was in
    let e : c.from_residual.result ≡ Err c.in_err-member.field-0.0 = search rules in
    rw (e, k.2) (members_unread _ _ k.1)

pub returns-in-Some : goal.returns-in-Some
returns-in-Some c =
    members_member _ _ c.in-Some.s (command_read _ c.member_command_at.ensures c.legible.ensures c.in_ok-member.was c.in-Some.is) c.check_label.ensures c.onward.ensures

pub returns-in-None : goal.returns-in-None
returns-in-None c = members_other _ _ (command_read _ c.member_command_at.ensures c.legible.ensures c.in_ok-member.was c.in-None.is)
