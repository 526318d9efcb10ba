use Prim.Native.Nat.{◌≤◌}
use lib.ListN.{length}
use Rattle.settings_test.proofs.Draft.write_quoted.Given as goal

abbrev pub invariant-loop-b : goal.invariant-loop-b
invariant-loop-b l = length l.left ≤ length l.line

abbrev pub decreases-loop-b : goal.decreases-loop-b
decreases-loop-b l = length l.left
