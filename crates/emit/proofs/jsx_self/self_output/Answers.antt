use Rattle.std.proofs.Common.{arith}
use Rattle.definitions.specs.Lowering.{self_output}
use Rattle.pen.proofs.Emitting.{produced_none}
use Rattle.emit.proofs.jsx_self.self_output.Goals as goal

pub returns-then-context-clause-written : goal.returns-then-context-clause-written
unfolding self_output
returns-then-context-clause-written c = λ t. rw c.if-context.true c.put_bare.ensures.written

pub returns-else-context-clause-written : goal.returns-else-context-clause-written
unfolding self_output
returns-else-context-clause-written c = λ t. rw c.if-context.false (produced_none (record { calls = omega arith; notices = omega arith }))
