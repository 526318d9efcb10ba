use Rattle.root_check.proofs.Literals.{PropertiesLeft}
use Prim.Native.Nat.{◌≤◌, ◌-◌}
use lib.ListN.{length}
use Rattle.root_check.proofs.skip.skip_properties.Given as goal

abbrev pub invariant-loop-i : goal.invariant-loop-i
invariant-loop-i l = (l.i ≤ length l.tape) × PropertiesLeft l.tape l.i

abbrev pub decreases-loop-i : goal.decreases-loop-i
decreases-loop-i l = length l.tape - l.i
