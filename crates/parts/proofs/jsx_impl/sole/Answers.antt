use Rattle.std.proofs.Common.{Ok, length, ap, ◌∙◌, arith}
use Rattle.text.proofs.Lists.{told, tail_part}
use lib.ListN.{length-drop}
use Rattle.commands.proofs.Lengths.{attribute_fits}
use Rattle.parts.proofs.Spreading.{alone_end, alone_other, alone_error}
use Rattle.parts.proofs.jsx_impl.sole.Goals as goal

pub returns-in_default : goal.returns-in_default
returns-in_default c = alone_error c.args.tape.now _ _ c.args.n (tail_part c.args.tape.now c.args.n) (told c.attribute_command_at.ensures c.in_default.is)

pub returns-in-End : goal.returns-in-End
returns-in-End c =
    let t = c.args.tape.now in
    let n = c.args.n in
    let rest = tail_part t n in
    let q = told c.attribute_command_at.ensures (c.in-Ok.is ∙ ap Ok c.in-End.is) in
    alone_end t _ _ n rest q (omega (arith, attribute_fits _ q, ap length rest, length-drop n t))

pub returns-in_default-command : goal.returns-in_default-command
returns-in_default-command c =
    alone_other c.args.tape.now _ _ c.args.n (tail_part c.args.tape.now c.args.n) _ (told c.attribute_command_at.ensures c.in-Ok.is) c.in_default-command.not-End
