use native.Mathlib.Omega.{arith}
use Rattle.jsxseries.proofs.Runs.{job_fresh}
use Rattle.jsxseries.proofs.run_job.Goals as goal

pub run_roots-requires : goal.run_roots-requires
run_roots-requires g c =
    let a = c.args in
    let f = job_fresh a.job.now a.text.now _ _ c.open_job-opened.ensures.value in
    (omega (arith, f.0), omega (arith, f.1))
