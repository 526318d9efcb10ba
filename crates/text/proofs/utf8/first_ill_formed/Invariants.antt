-- `text::utf8::first_ill_formed` meets its contract. The loop's invariant: the walk has come to what is left. Assumes nothing.
use Rattle.std.proofs.Common.{length}
use Rattle.text.proofs.Walking.{Left}
use Rattle.text.proofs.utf8.first_ill_formed.Given as goal

abbrev pub invariant-loop-at : goal.invariant-loop-at
invariant-loop-at l = Left l.s l.rest

abbrev pub decreases-loop-at : goal.decreases-loop-at
decreases-loop-at l = length l.rest
