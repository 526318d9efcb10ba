use Prim.Native.Nat.{◌≤◌}
use Rattle.layer_test.proofs.random.run.Given as goal

abbrev pub invariant-loop : goal.invariant-loop
invariant-loop l = l.well_formed ≤ l.counter
