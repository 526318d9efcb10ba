use mathlib.Core.Path.{refl, sym}
use borrow.Author.Tests.{lt-ltb}
use Rattle.jsxlib.proofs.Hosting.{kept_short, opening_hosted}
use Rattle.jsxlib.proofs.jsx_open.Goals as goal

pub returns-then-state-lt-STATE_SIZE-clause-state_after : goal.returns-then-state-lt-STATE_SIZE-clause-state_after
returns-then-state-lt-STATE_SIZE-clause-state_after c = rw (lt-ltb _ _ c.if-state-lt-STATE_SIZE.true) (sym (kept_short _ _ _))

pub returns-clause-begins : goal.returns-clause-begins
returns-clause-begins c =
    let o = c.open_job-stepped.ensures in
    let a = c.args in
    opening_hosted a.text.now a.job.now a.state.now a.notices.now o.value o.notices_after refl c.settle.ensures.bytes_after
