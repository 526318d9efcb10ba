-- `jsx_text::run_blocks` meets its contract: no byte of a run is outside its bounds, so the search for one begins behind the blocks. Assumes nothing.
use Rattle.std.proofs.Common.{◌≤◌, ◌+◌, length, length-drop, arith, rules}
use Rattle.text.proofs.Lists.{tail_part}
use Rattle.jsx_text.specs.Marks.{Run}
use Rattle.jsx_text.proofs.Runs.{outside, run_found, run_passed}
use Rattle.jsx_text.proofs.run_blocks.Goals as goal
use Rattle.jsx_text.proofs.run_blocks.Goals.{After-passed_blocks}

inside : (c : After-passed_blocks) → c.args.from + c.passed_blocks.result ≤ length c.args.s.now
inside c = omega (arith, rw (tail_part c.args.s.now c.args.from) at c.passed_blocks.ensures.inside, length-drop c.args.from c.args.s.now, c.requires)

pub overflow_add-result : goal.overflow_add-result
overflow_add-result c = omega (arith, inside c)

pub returns : goal.returns
returns c =
    run_passed c.args.s.now c.args.lo c.args.hi c.args.from c.passed_blocks.result (inside (goal.at.returns c).After-passed_blocks)
    (rw (tail_part c.args.s.now c.args.from) at (c.passed_blocks.ensures.passed (outside c.args.lo c.args.hi) (λ block h. let r : Run h.shown.now c.args.lo c.args.hi 0 (length h.shown.now) = search (rules, h.says.met) in rw h.shows at (run_found c.args.lo c.args.hi h.shown.now r))))
