use Rattle.std.specs.Prelude.{Some, Ok}
use Rattle.std.proofs.Common.{◌≡◌, drop, arith, ap, ◌∙◌}
use Rattle.commands.specs.Opening.{option_command}
use Rattle.text.proofs.Lists.{told, tail_part}
use Rattle.settings.specs.Tapes.{next_by, judged_by}
use Rattle.settings.proofs.Commands.{at_the_end, command_inside, onward}
use Rattle.settings.proofs.opening.read_options.Goals as goal
use Rattle.settings.proofs.opening.read_options.Goals.{After-next_command, In-Ok-Some}

-- the command that stands there
command : (c : After-next_command) → c.next_command.result
    ≡ next_by c.args.text.now (drop c.loop-next.front c.args.tape.now) c.loop-next.options (option_command c.loop-next.last (drop c.loop-next.front c.args.tape.now))
command c = rw (tail_part c.args.tape.now c.loop-next.front) at c.next_command.ensures

more : (c : In-Ok-Some) → c.next_command.result ≡ Ok (Some (c.in-Ok-Some.next, c.in-Ok-Some.behind))
more c = c.in-Ok-Some.is ∙ ap Ok c.in-Ok-Some.field-0-is

pub returns-in-Ok-None : goal.returns-in-Ok-None
unfolding judged_by
returns-in-Ok-None c =
    let at = goal.at.returns-in-Ok-None c in
    at_the_end _ _ _ _ _ _ c.loop-next.invariant.inside c.loop-next.invariant.reads (told (command at.After-next_command) (c.in-Ok-None.is ∙ ap Ok c.in-Ok-None.field-0-is))

pub loop-next-smaller : goal.loop-next-smaller
loop-next-smaller c =
    let at = goal.at.loop-next-smaller c in
    omega (arith, command_inside c.args.text.now c.args.tape.now _ _ _ _ c.loop-next.invariant.inside c.loop-next.invariant.reads _ (told (command at.After-next_command) (more at.In-Ok-Some)))

pub loop-next-preserved : goal.loop-next-preserved
loop-next-preserved c =
    let at = goal.at.loop-next-preserved c in
    let e = told (command at.After-next_command) (more at.In-Ok-Some) in
    record {
      inside = command_inside c.args.text.now c.args.tape.now _ _ _ _ c.loop-next.invariant.inside c.loop-next.invariant.reads _ e;
      reads = onward _ _ _ _ _ _ c.loop-next.invariant.inside c.loop-next.invariant.reads _ e;
    }
