use Prim.Native.Nat.{◌≤◌}
use lib.ListN.{length}
use Rattle.root_check_test.proofs.listed.read_hex.Given as goal

abbrev pub invariant-loop-low : goal.invariant-loop-low
invariant-loop-low l = l.n ≤ length l.tape
