-- `jsx_text::is_run` meets its contract. Assumes nothing.
use Rattle.std.proofs.Common.{◌≡◌, true, ◌&&◌, leb, fold, arith}
use Rattle.std.proofs.lemmas.Grind.{common_steps}
use Rattle.jsx_text.proofs.Runs.{run_folded}
use Rattle.jsx_text.proofs.is_run.Goals as goal

pub returns : goal.returns
returns c =
    let e : c.fold.result ≡ fold (λ all x. (all && leb c.args.lo x) && leb x c.args.hi) true c.args.s.now = grind (arith, common_steps) in
    λ h. run_folded c.args.s.now c.args.lo c.args.hi (rw e at h)
