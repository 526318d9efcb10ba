-- `text::utf8::first_ill_formed` meets its contract. The loop's invariant: the walk has come to what is left. Assumes nothing.
use Rattle.std.proofs.Common.{◌∙◌, ◌<◌, ◌≤◌, ℕ, ◌-◌, List, sym, length, take, drop, arith, length-take, length-drop}
use Rattle.text.proofs.Lists.{told}
use Rattle.text.proofs.Walking.{Left, left_start, left_plain, left_run, left_stop, left_step}
use Rattle.text.proofs.utf8.first_ill_formed.Goals as goal
use Rattle.text.proofs.utf8.first_ill_formed.Goals.{In_ok-at, In-Some}

pub loop-at-init : goal.loop-at-init
loop-at-init c = left_start _

pub returns-in_err-at : goal.returns-in_err-at
returns-in_err-at c = c.from_residual.ensures ∙ sym (left_plain _ _ c.loop-at.invariant (told c.find_over_ascii.ensures c.in_err-at.was))

-- what is left from the next byte over 7F on
abbrev high : In_ok-at → List ℕ
high c = take (length c.loop-at.rest.now - c.in_ok-at.at) (drop c.in_ok-at.at c.loop-at.rest.now)

ran : (c : In_ok-at) → (c.in_ok-at.at < length c.loop-at.rest.now) × Left c.args.s.now (high c)
ran c = left_run _ _ c.loop-at.invariant _ (told c.find_over_ascii.ensures c.in_ok-at.was)

some : (c : In_ok-at) → 0 < length (high c)
some c = omega (arith, (ran c).0, length-take (length c.loop-at.rest.now - c.in_ok-at.at) (drop c.in_ok-at.at c.loop-at.rest.now), length-drop c.in_ok-at.at c.loop-at.rest.now)

pub slice_bounds-rest-count : goal.slice_bounds-rest-count
slice_bounds-rest-count c = omega (arith, (ran (goal.at.slice_bounds-rest-count c).In_ok-at).0)

pub slice_bounds-rest-start : goal.slice_bounds-rest-start
slice_bounds-rest-start c = omega (arith, (ran (goal.at.slice_bounds-rest-start c).In_ok-at).0)

pub returns-in_default : goal.returns-in_default
returns-in_default c =
    let i = (goal.at.returns-in_default c).In_ok-at in
    sym (left_stop _ (high i) (ran i).1 (some i) (told c.width.ensures c.in_default.is))

-- a sequence stands there
passed : (c : In-Some)
    → let i = (goal.at.In-Some c).In_ok-at in
    (0 < c.in-Some.w) × (c.in-Some.w ≤ length (high i)) × Left c.args.s.now (take (length (high i) - c.in-Some.w) (drop c.in-Some.w (high i)))
passed c =
    let i = (goal.at.In-Some c).In_ok-at in
    left_step _ (high i) (ran i).1 (some i) _ (told c.width.ensures c.in-Some.is)

pub slice_bounds-rest-count-in-loop-at : goal.slice_bounds-rest-count-in-loop-at
slice_bounds-rest-count-in-loop-at c = (passed (goal.at.slice_bounds-rest-count-in-loop-at c).In-Some).1

pub slice_bounds-rest-start-in-loop-at : goal.slice_bounds-rest-start-in-loop-at
slice_bounds-rest-start-in-loop-at c = (passed (goal.at.slice_bounds-rest-start-in-loop-at c).In-Some).1

pub loop-at-smaller : goal.loop-at-smaller
loop-at-smaller c =
    let i = (goal.at.loop-at-smaller c).In_ok-at in
    let p = passed (goal.at.loop-at-smaller c).In-Some in
    let r = c.loop-at.rest.now in
    let a = c.in_ok-at.at in
    let w = c.in-Some.w in
    omega (arith, p.0, p.1, length-take (length (high i) - w) (drop w (high i)), length-drop w (high i), length-take (length r - a) (drop a r), length-drop a r)

pub loop-at-preserved : goal.loop-at-preserved
loop-at-preserved c = (passed (goal.at.loop-at-preserved c).In-Some).2
