use lib.ListN.{length}
use Prim.Native.Nat.{◌-◌}
use mathlib.Core.Path.{◌≡◌}
use Rattle.layer_test.specs.Random.{drawn}
use Rattle.layer_test.proofs.random.fill.Given as goal

abbrev pub invariant-loop-byte : goal.invariant-loop-byte
invariant-loop-byte l = drawn (length l.initial.out) l.start ≡ drawn (length l.initial.out - l.byte-index) l.state
