use Rattle.std.proofs.Common.{append_assoc}
use Rattle.pen.proofs.Emitting.{produced_then, produced_as}
use Rattle.pen.proofs.pen.Pen.put_namespaced.Goals as goal

pub returns-clause-written : goal.returns-clause-written
returns-clause-written c =
    produced_as (simp append_assoc)
    (produced_then (produced_then (produced_then (produced_then c.put_bare.ensures.written c.put_piece.ensures.written) c.put_bare-2.ensures.written) c.put_piece-2.ensures.written) c.put_bare-3.ensures.written)
