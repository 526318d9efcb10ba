use Rattle.std.proofs.Common.{◌≡◌, rules, Err}
use native.Mathlib.Omega.{arith}
use Rattle.jsxtape.proofs.Ending.{job_refused, job_fresh, job_opened}
use Rattle.jsxtape.proofs.job.run_job.Goals as goal

pub run_root-requires : goal.run_root-requires
run_root-requires c =
    let a = c.args in
    job_fresh a.job.now a.text.now a.root.now a.targets.now.notices (omega arith) _ _
    c.open_job-opened.ensures.value c.open_job-opened.ensures.notices_after c.in_ok-opened.was

pub returns-in_err-opened : goal.returns-in_err-opened
returns-in_err-opened c =
    let a = c.args in
    let e : c.from_residual.result ≡ Err c.in_err-opened.field-0.0 = search rules in
    rw e
    (job_refused a.job.now a.text.now a.root.now a.targets.now.notices (omega arith) _ _
    c.open_job-opened.ensures.value c.open_job-opened.ensures.notices_after _ _ c.in_err-opened.was)

pub returns : goal.returns
returns c =
    let a = c.args in
    job_opened a.job.now a.text.now a.root.now a.targets.now.notices (omega arith) _ _
    c.open_job-opened.ensures.value c.open_job-opened.ensures.notices_after _ _ c.in_ok-opened.was c.run_root.ensures
