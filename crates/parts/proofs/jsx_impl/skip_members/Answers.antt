use Rattle.std.proofs.Common.{◌≡◌, Ok, ap, ◌∙◌, arith}
use Rattle.text.proofs.Lists.{told, tail_part}
use Rattle.std.proofs.Common.{Some, length, ◌≤◌}
use lib.ListN.{length-drop}
use Rattle.commands.specs.Root.{member_command}
use Rattle.commands.proofs.Lengths.{member_fits}
use Rattle.parts.proofs.Fronts.{members_start, members_goes, members_over, members_never}
use Rattle.parts.proofs.jsx_impl.skip_members.Goals as goal
use Rattle.parts.proofs.jsx_impl.skip_members.Goals.{In-Ok-Some}

seen : (c : In-Ok-Some) → member_command c.loop-rest.rest.now ≡ Ok (Some c.in-Ok-Some.field-0-0)
seen c = told c.member_command_at.ensures (c.in-Ok-Some.is ∙ ap Ok c.in-Ok-Some.field-0-is)

fits : (c : In-Ok-Some) → 5 ≤ length c.loop-rest.rest.now
fits c = member_fits c.loop-rest.rest.now (seen c)

pub loop-rest-init : goal.loop-rest-init
loop-rest-init c = (omega arith, λ f text ms u e. members_start text c.args.tape.now f ms u e)

pub slice_bounds-rest-count : goal.slice_bounds-rest-count
slice_bounds-rest-count c = fits (goal.at.slice_bounds-rest-count c).In-Ok-Some

pub slice_bounds-rest-start : goal.slice_bounds-rest-start
slice_bounds-rest-start c = omega (arith, fits (goal.at.slice_bounds-rest-start c).In-Ok-Some)

pub loop-rest-smaller : goal.loop-rest-smaller
loop-rest-smaller c = omega (arith, fits (goal.at.loop-rest-smaller c).In-Ok-Some, ap length (tail_part c.loop-rest.rest.now 5), length-drop 5 c.loop-rest.rest.now)

pub loop-rest-preserved : goal.loop-rest-preserved
loop-rest-preserved c =
    let k = (goal.at.loop-rest-preserved c).In-Ok-Some in (
      omega (arith, c.loop-rest.invariant.0, ap length (tail_part c.loop-rest.rest.now 5), length-drop 5 c.loop-rest.rest.now),
      λ f text ms u e. members_goes (c.loop-rest.invariant.1 f text ms u e) (seen k) (fits k) (tail_part c.loop-rest.rest.now 5),
    )

pub returns-in-Ok-None-clause-read : goal.returns-in-Ok-None-clause-read
returns-in-Ok-None-clause-read c =
    λ f text ms u e. omega (arith, members_over (c.loop-rest.invariant.1 f text ms u e) (told c.member_command_at.ensures (c.in-Ok-None.is ∙ ap Ok c.in-Ok-None.field-0-is)), c.loop-rest.invariant.0)

pub returns-in-Err-clause-read : goal.returns-in-Err-clause-read
returns-in-Err-clause-read c =
    λ f text ms u e. absurd (members_never (c.loop-rest.invariant.1 f text ms u e) (told c.member_command_at.ensures c.in-Err.is))
