use Rattle.std.proofs.Common.{◌≡◌, ◌≤◌, ◌∙◌, Ok, Some, None, length, refl, arith}
use Rattle.commands.specs.Root.{member_command}
use Rattle.commands.proofs.Lengths.{member_fits}
use Rattle.definitions.specs.Calls.{span_code}
use Rattle.text.proofs.Lists.{told, tail_part}
use Rattle.pen.proofs.Emitting.{lent_none, lent_then}
use Rattle.emit.proofs.Readings.{part_smaller}
use Rattle.emit.proofs.Members.{members_begin, members_more, members_end, members_error}
use Rattle.emit.proofs.jsx_impl.transform_jsx_member_expression.Goals as goal
use Rattle.emit.proofs.jsx_impl.transform_jsx_member_expression.Goals.{In-Ok-Some}

seen : (c : In-Ok-Some) → member_command c.loop-name.rest.now ≡ Ok (Some c.in-Ok-Some.name)
seen c = told c.member_command_at.ensures (let e : c.member_command_at.result ≡ Ok (Some c.in-Ok-Some.name) = cc in e)

fits : (c : In-Ok-Some) → 5 ≤ length c.loop-name.rest.now
fits c = member_fits c.loop-name.rest.now (seen c)

pub loop-name-init : goal.loop-name-init
loop-name-init c = (lent_none, refl, λ text f ms u h e. members_begin (record { calls = omega arith; notices = omega arith }) h e)

pub slice_bounds-rest-count : goal.slice_bounds-rest-count
slice_bounds-rest-count c = fits (goal.at.slice_bounds-rest-count c).In-Ok-Some

pub slice_bounds-rest-start : goal.slice_bounds-rest-start
slice_bounds-rest-start c = omega (arith, fits (goal.at.slice_bounds-rest-start c).In-Ok-Some)

pub loop-name-smaller : goal.loop-name-smaller
loop-name-smaller c = part_smaller c.loop-name.rest.now 5 (omega arith) (fits (goal.at.loop-name-smaller c).In-Ok-Some)

pub loop-name-preserved : goal.loop-name-preserved
unfolding span_code
loop-name-preserved c = (
  lent_then c.loop-name.invariant.0 c.put_spanned.ensures.written.0,
  c.put_spanned.ensures.notices_stay ∙ c.loop-name.invariant.1,
  λ text f ms u h e. members_more (c.loop-name.invariant.2 text f ms u h e) (seen (goal.at.loop-name-preserved c).In-Ok-Some) (tail_part c.loop-name.rest.now 5)
      c.put_spanned.ensures.written,
)

pub returns-in-Ok-None-clause-written : goal.returns-in-Ok-None-clause-written
returns-in-Ok-None-clause-written c =
    let e : c.member_command_at.result ≡ Ok None = cc in
    λ text f ms u h d. members_end (c.loop-name.invariant.2 text f ms u h d) (told c.member_command_at.ensures e)

pub returns-in-Err-clause-written : goal.returns-in-Err-clause-written
returns-in-Err-clause-written c = λ text f ms u h e. members_error (c.loop-name.invariant.2 text f ms u h e) (told c.member_command_at.ensures c.in-Err.is)
