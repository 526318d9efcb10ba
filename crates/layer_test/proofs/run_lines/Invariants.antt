-- `layer_test::run_lines` is safe and ends. The loop's invariant: no more vectors than lines, and no more that differ. Assumes nothing.
use Prim.Native.Nat.{◌≤◌}
use Rattle.std.specs.Iterator.Adapters.{enumerate_count}
use Rattle.layer_test.proofs.run_lines.Given as goal

abbrev pub invariant-loop-i : goal.invariant-loop-i
invariant-loop-i g l = (l.vectors ≤ enumerate_count l.i-iterator) × (l.differ ≤ l.vectors)
