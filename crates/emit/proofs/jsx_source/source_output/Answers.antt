use Rattle.std.proofs.Common.{arith}
use Rattle.definitions.specs.Lowering.{source_output}
use Rattle.pen.proofs.Emitting.{produced_none}
use Rattle.emit.proofs.jsx_source.source_output.Goals as goal

pub returns-then-context-clause-written : goal.returns-then-context-clause-written
unfolding source_output
returns-then-context-clause-written c = λ t b h k. rw c.if-context.true (c.put_source.ensures.written h k)

pub returns-else-context-clause-written : goal.returns-else-context-clause-written
unfolding source_output
returns-else-context-clause-written c = λ t b h k. rw c.if-context.false (produced_none (record { calls = omega arith; notices = omega arith }))
