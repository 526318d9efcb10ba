use Rattle.std.proofs.Common.{eq-eqb, ne_eqb, arith}
use Rattle.pen.proofs.Emitting.{produced_none}
use Rattle.pen.proofs.pen.Pen.put_piece.Goals as goal

pub returns-then-span-eq0-clause-written : goal.returns-then-span-eq0-clause-written
returns-then-span-eq0-clause-written c = rw (eq-eqb _ 0 c.if-span-eq0.true) (produced_none (record { calls = omega arith; notices = omega arith }))

pub returns-clause-written : goal.returns-clause-written
returns-clause-written c = rw (ne_eqb _ 0 c.if-span-eq0.false) c.put_spanned.ensures.written
