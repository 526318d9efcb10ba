-- What was counted and what is ahead are the texts of the whole tape; the bound is that of proofs/SizeBounds.
use mathlib.Core.Path.{◌≡◌}
use Prim.Native.Nat.{◌+◌, ◌*◌, ◌-◌, ◌≤◌}
use lib.ListN.{length, drop}
use Rattle.size_bound.proofs.Passing.{texts}
use Rattle.size_bound.proofs.call_size_bound.Given as goal

abbrev pub invariant-loop-at : goal.invariant-loop-at
invariant-loop-at l = (l.texts + texts (drop l.at l.tape) ≡ texts l.tape) × (l.texts ≤ 65535 * l.at) × (l.at ≤ length l.tape + 8)

abbrev pub decreases-loop-at : goal.decreases-loop-at
decreases-loop-at l = length l.tape - l.at
