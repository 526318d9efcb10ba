-- A list up to the first root that is refused: `Row` (proofs/Listed) goes from root to root, and text and state are in order behind each.
use mathlib.Core.Path.{◌≡◌}
use lib.ListN.{length}
use Rattle.lowering.specs.Steps.{Going}
use Rattle.lowering.proofs.Listed.{begun, Row}
use Rattle.lowering.proofs.series.lower_in_turn.Given as goal

abbrev pub invariant-loop-root : goal.invariant-loop-root
invariant-loop-root l =
    (length l.calls ≡ length l.initial.calls)
    × (length l.notices ≡ length l.initial.notices)
    × Row l.text l.roots (begun l.initial.last l.initial.calls l.initial.notices) l.rest l.taken (begun l.last l.calls l.notices)
    × Going l.text l.last (length l.calls) (length l.notices)

abbrev pub decreases-loop-root : goal.decreases-loop-root
decreases-loop-root l = length l.rest
