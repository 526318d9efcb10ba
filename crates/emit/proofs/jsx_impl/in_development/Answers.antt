use Rattle.std.proofs.Common.{arith}
use Rattle.pen.proofs.Emitting.{produced_none}
use Rattle.emit.proofs.jsx_impl.in_development.Goals as goal

pub returns-then-not-context-clause-written : goal.returns-then-not-context-clause-written
returns-then-not-context-clause-written c = λ t b. rw c.if-not-context.true (produced_none (record { calls = omega arith; notices = omega arith }))

pub returns-clause-written : goal.returns-clause-written
returns-clause-written c = λ t b. rw c.if-not-context.false c.put_bare.ensures.written
