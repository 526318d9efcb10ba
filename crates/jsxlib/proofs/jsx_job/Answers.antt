-- A whole job: laws of proofs/Jobs, by what each of its parts answered.
use Rattle.jsxlib.proofs.Jobs.{opening_refused, root_refused, job_done, job_is}
use Rattle.jsxlib.proofs.jsx_job.Goals as goal

pub returns-in-Err : goal.returns-in-Err
returns-in-Err c =
    let a = c.args in
    job_is a.text.now a.job.now a.roots.now a.calls.now a.notices.now a.records.now
    (opening_refused a.text.now a.job.now a.roots.now a.calls.now a.notices.now a.records.now _
    c.open_job-opening.ensures.value c.open_job-opening.ensures.notices_after c.in-Err.is c.tell_with.ensures.number
    c.tell_with.ensures.figure_after)

pub returns-in-Err-told : goal.returns-in-Err-told
returns-in-Err-told c =
    let a = c.args in
    let l = c.lower_list-lowered.ensures in
    job_is a.text.now a.job.now a.roots.now a.calls.now a.notices.now a.records.now
    (root_refused a.text.now a.job.now a.roots.now a.calls.now a.notices.now a.records.now _
    c.open_job-opening.ensures.value c.open_job-opening.ensures.notices_after c.in-Ok.is
    l.answer_value l.taken_value l.left c.in-Err-told.is c.tell_with-in-Err-told.ensures.number c.tell_with-in-Err-told.ensures.figure_after)

pub returns-in-Ok-told : goal.returns-in-Ok-told
returns-in-Ok-told c =
    let a = c.args in
    let l = c.lower_list-lowered.ensures in
    let t = c.tell_records.ensures in
    job_is a.text.now a.job.now a.roots.now a.calls.now a.notices.now a.records.now
    (job_done a.text.now a.job.now a.roots.now a.calls.now a.notices.now a.records.now _
    c.open_job-opening.ensures.value c.open_job-opening.ensures.notices_after c.in-Ok.is
    l.answer_value l.taken_value l.left c.in-Ok-told.is t.number t.figure_after t.target_after)
