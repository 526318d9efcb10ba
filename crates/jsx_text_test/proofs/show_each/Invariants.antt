-- `jsx_text_test::show_each` is safe and ends. The loop's invariant: a text that is not shown yet begins at `from`. Assumes nothing.
use Prim.Native.Nat.{◌≤◌}
use Rattle.jsx_text_test.proofs.show_each.Given as goal

abbrev pub invariant-loop-i : goal.invariant-loop-i
invariant-loop-i g l = l.from ≤ l.i
