use Rattle.std.proofs.Common.{arith}
use Rattle.settings.proofs.Noticing.{unfit, fit}
use Rattle.settings.proofs.opening.Job.open_noticed.Goals as goal

pub returns-then-notices-size : goal.returns-then-notices-size
returns-then-notices-size c =
    unfit c.args.self.text.now c.args.self.options c.args.notices.now c.mode_of-mode.ensures c.pragma_under-read.ensures c.pragma_under-read_frag.ensures c.notice_size.ensures c.notice_size-2.ensures c.if-notices-size.true

pub returns : goal.returns
returns c =
    fit c.args.self.text.now c.args.self.options c.args.notices.now c.mode_of-mode.ensures c.pragma_under-read.ensures c.pragma_under-read_frag.ensures c.notice_size.ensures c.notice_size-2.ensures (omega arith) c.if-notices-size.false
    c.put_notice-behind.ensures c.put_notice.ensures c.new.ensures
