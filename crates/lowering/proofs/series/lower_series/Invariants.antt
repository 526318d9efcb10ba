-- Demand 3 of a list of roots: `Left` (proofs/Listed) goes from root to root, and the claim is `demand3` of definitions.
use mathlib.Core.Path.{◌≡◌}
use lib.ListN.{length}
use Rattle.lowering.proofs.Listed.{begun, Left}
use Rattle.lowering.proofs.series.lower_series.Given as goal

abbrev pub invariant-loop-root : goal.invariant-loop-root
invariant-loop-root l =
    (length l.calls ≡ length l.initial.calls) × (length l.notices ≡ length l.initial.notices) × Left l.text l.roots (begun l.initial.last l.initial.calls l.initial.notices) l.rest (begun l.last l.calls l.notices)

abbrev pub decreases-loop-root : goal.decreases-loop-root
decreases-loop-root l = length l.rest
