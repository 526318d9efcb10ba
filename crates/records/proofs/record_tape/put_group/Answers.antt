use native.Mathlib.Omega.{arith}
use Rattle.tape.proofs.Targets.{wrote_then}
use Rattle.records.proofs.Tape.{entries_next}
use Rattle.records.proofs.record_tape.put_group.Goals as goal

pub loop-bound-preserved : goal.loop-bound-preserved
loop-bound-preserved c =
    rw (entries_next c.args.source c.args.records.now c.loop-bound.bound-index (omega arith)) at
    (wrote_then (omega arith) c.loop-bound.invariant c.put_in_group-end.ensures)
