use Prim.Native.Nat.{◌≤◌}
use Rattle.layer_test.proofs.numbers.run.Given as goal

abbrev pub invariant-loop-i : goal.invariant-loop-i
invariant-loop-i l = l.differ ≤ l.i
