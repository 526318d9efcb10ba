use Rattle.root_check.proofs.Walking.{Passed}
use Rattle.std.proofs.Common.{length}
use Rattle.root_check.proofs.skip.skip_value.Given as goal

abbrev pub invariant-loop-code : goal.invariant-loop-code
invariant-loop-code l = Passed l.tape l.levels l.rest

abbrev pub decreases-loop-code : goal.decreases-loop-code
decreases-loop-code l = length l.rest
