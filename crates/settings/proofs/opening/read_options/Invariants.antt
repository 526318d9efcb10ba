use Rattle.std.proofs.Common.{◌≤◌, ◌-◌, length}
use Rattle.settings.proofs.Commands.{Reads}
use Rattle.settings.proofs.opening.read_options.Given as goal

abbrev pub invariant-loop-next : goal.invariant-loop-next
invariant-loop-next l = record { inside : l.front ≤ length l.tape; reads : Reads l.text l.tape l.n l.front l.last l.options }

abbrev pub decreases-loop-next : goal.decreases-loop-next
decreases-loop-next l = length l.tape - l.front
