use Rattle.std.proofs.Common.{ℕ, ◌≤◌, ◌-◌, List, length}
use Rattle.root_check.specs.Checking.{Scan, Steps}
use Rattle.root_check.proofs.Loops.{Passed}
use Rattle.root_check.proofs.check.check_list.Given as goal

abbrev pub invariant-loop-u : goal.invariant-loop-u
invariant-loop-u g l = record {
  inside : l.i ≤ length l.tape;
  passed : (read : ℕ → List ℕ → Scan) → ((t : _) (s : _) → goal.F-post g l.step t s → Steps read t.now s) → Passed (λ f. read f l.tape) read l.tape l.i;
}

abbrev pub decreases-loop-u : goal.decreases-loop-u
decreases-loop-u g l = length l.tape - l.i
