-- `references::has_reference_within` meets its contract. The loop's invariant: what is left has a reference if all of it has. Assumes nothing.
use Rattle.std.proofs.Common.{◌≡◌, ◌≤◌, length}
use Rattle.references.specs.References.{has_reference}
use Rattle.references.proofs.has_reference_within.Given as goal

abbrev pub invariant-loop-sign : goal.invariant-loop-sign
invariant-loop-sign l = (length l.rest ≤ length l.fn.s) × (has_reference l.fn.s ≡ has_reference l.rest)

abbrev pub decreases-loop-sign : goal.decreases-loop-sign
decreases-loop-sign l = length l.rest
