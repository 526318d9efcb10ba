use Rattle.pen.proofs.Emitting.{produced_then}
use Rattle.pen.proofs.pen.Pen.put_string.Goals as goal

pub returns-clause-written : goal.returns-clause-written
returns-clause-written c = produced_then c.put_bare.ensures.written (produced_then c.put_piece.ensures.written c.put_bare-2.ensures.written)
