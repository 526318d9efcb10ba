use Rattle.std.proofs.Common.{arith}
use Rattle.definitions.specs.Calls.{notice_bytes_of}
use Rattle.pen.proofs.Emitting.{lent_then}
use Rattle.pen.proofs.Commands.{noticed_one, notice_then}
use Rattle.pen.proofs.pen.Pen.valueless_key.Goals as goal

pub returns-clause-notice : goal.returns-clause-notice
unfolding notice_bytes_of
returns-clause-notice c = noticed_one (lent_then c.put_notice.ensures.lent c.put_notice-2.ensures.lent) (record { calls = omega arith; notices = omega arith }) (notice_then (omega arith) c.put_notice.ensures c.put_notice-2.ensures)
