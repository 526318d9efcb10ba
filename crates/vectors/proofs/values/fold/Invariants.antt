-- `vectors::values::fold` meets its contract. The loop's invariant: folding what is left onto the value has the answer. Assumes nothing.
use Prim.Native.Nat.{◌<◌, ◌^◌}
use mathlib.Core.Path.{◌≡◌}
use lib.ListN.{drop}
use Rattle.vectors.specs.Values.{folded}
use Rattle.vectors.proofs.values.fold.Given as goal

abbrev pub invariant-loop-b : goal.invariant-loop-b
invariant-loop-b l = (l.value < 2 ^ 59) × (folded l.base 0 l.s ≡ folded l.base l.value (drop l.b-index l.s))
