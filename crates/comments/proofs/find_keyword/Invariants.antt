use Rattle.std.proofs.Common.{◌-◌, length}
use Rattle.comments.proofs.Signs.{Reach, Scanned}
use Rattle.comments.proofs.find_keyword.Given as goal

abbrev pub invariant-loop-b : goal.invariant-loop-b
invariant-loop-b l = Scanned l.comment l.first l.end

abbrev pub decreases-loop-b : goal.decreases-loop-b
decreases-loop-b l = length l.comment - l.end

abbrev pub invariant-signs : goal.invariant-signs
invariant-signs l = Reach l.comment l.start l.from

abbrev pub decreases-signs : goal.decreases-signs
decreases-signs l = length l.comment - l.from
