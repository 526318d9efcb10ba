use Rattle.root_check.proofs.Loops.{Passed}
use Rattle.root_check.specs.Checking.{report}
use Rattle.definitions.specs.Reading.{scopes_at}
use Rattle.std.proofs.Common.{◌-◌, length, false}
use Rattle.root_check.proofs.check.check_scopes.Given as goal

abbrev pub invariant-loop-kind : goal.invariant-loop-kind
invariant-loop-kind l = Passed (λ f. report (scopes_at f l.text false l.tape)) (λ f t. report (scopes_at f l.text l.found t)) l.tape l.i

abbrev pub decreases-loop-kind : goal.decreases-loop-kind
decreases-loop-kind l = length l.tape - l.i
