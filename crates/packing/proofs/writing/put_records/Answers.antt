use native.Mathlib.Omega.{arith}
use Rattle.tape.proofs.Targets.{wrote_then}
use Rattle.packing.proofs.Bytes.{records_next}
use Rattle.packing.proofs.writing.put_records.Goals as goal

pub loop-bound-preserved : goal.loop-bound-preserved
loop-bound-preserved c =
    rw (records_next c.args.records.now c.loop-bound.bound-index (omega arith)) at
    (wrote_then (omega arith) c.loop-bound.invariant c.put_record-end.ensures)
