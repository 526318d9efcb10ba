-- `references::bare_front` meets its contract. Assumes nothing.
use Rattle.std.proofs.Common.{◌≡◌, ◌+◌, drop, ap, arith, ◌∙◌}
use Rattle.text.proofs.Lists.{told, tail_part}
use Rattle.references.specs.References.{run}
use Rattle.references.proofs.Openings.{Decides, opening_decides, front_none, front_open, front_closed, end_within}
use Rattle.references.proofs.bare_front.Goals as goal
use Rattle.references.proofs.bare_front.Goals.{After-opening_at-opening, After-run}

-- the opening that was found decides
decides_at : (c : After-opening_at-opening) → Decides c.args.s.now c.opening_at-opening.result
decides_at c = rw c.opening_at-opening.ensures (opening_decides c.args.s.now c.requires)

-- where the bytes of its kind end
end_at : (c : After-run)
    → let o = c.opening_at-opening.result in
    o.len + c.run.result ≡ o.len + run o.kind (drop o.len c.args.s.now)
end_at c =
    let o = c.opening_at-opening.result in
    ap (λ n. o.len + n) (c.run.ensures ∙ ap (run o.kind) (tail_part c.args.s.now o.len))

pub slice_bounds-run-count : goal.slice_bounds-run-count
slice_bounds-run-count c = (decides_at (goal.at.slice_bounds-run-count c).After-opening_at-opening).within

pub slice_bounds-run-start : goal.slice_bounds-run-start
slice_bounds-run-start c = omega (arith, (decides_at (goal.at.slice_bounds-run-start c).After-opening_at-opening).within)

pub overflow_add-end : goal.overflow_add-end
overflow_add-end c =
    omega (arith, (end_within (decides_at (goal.at.overflow_add-end c).After-opening_at-opening) (end_at (goal.at.overflow_add-end c).After-run)).1)

pub returns-then-end-start : goal.returns-then-end-start
returns-then-end-start c =
    front_none (decides_at (goal.at.returns-then-end-start c).After-opening_at-opening) (end_at (goal.at.returns-then-end-start c).After-run) c.if-end-start.true

pub returns-then-is_at : goal.returns-then-is_at
returns-then-is_at c =
    front_closed (decides_at (goal.at.returns-then-is_at c).After-opening_at-opening) (end_at (goal.at.returns-then-is_at c).After-run) c.if-end-start.false
    (told c.is_at.ensures c.if-is_at.true)

pub returns : goal.returns
returns c =
    front_open (decides_at (goal.at.returns c).After-opening_at-opening) (end_at (goal.at.returns c).After-run) (told c.is_at.ensures c.if-is_at.false)
