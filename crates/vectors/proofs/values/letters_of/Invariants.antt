-- `vectors::values::letters_of` meets its contract. The loop's invariant: spelling what is left before the letters put so far has the answer. Assumes nothing.
use Prim.Native.Nat.{◌≤◌}
use mathlib.Core.Path.{◌≡◌}
use lib.ListN.{length, drop}
use mathlib.Core.List.{[]}
use Rattle.vectors.specs.Values.{spelled}
use Rattle.vectors.proofs.values.letters_of.Given as goal

abbrev pub invariant-loop-i : goal.invariant-loop-i
invariant-loop-i l = (l.i ≤ length l.out) × (length l.out ≡ length l.initial.out) × (spelled (length l.initial.out) l.initial.left [] ≡ spelled l.i l.left (drop l.i l.out))
