use Rattle.std.proofs.Common.{◌+◌, ◌-◌, length}
use Rattle.comments.proofs.Values.{Comes}
use Rattle.comments.proofs.update_options_with_comment.Given as goal

abbrev pub invariant-loop-pragma : goal.invariant-loop-pragma
invariant-loop-pragma l = Comes l.content l.fn.comment.start l.fn.options l.held l.at

abbrev pub decreases-loop-pragma : goal.decreases-loop-pragma
decreases-loop-pragma l = length l.content + 1 - l.at
