use native.Mathlib.Omega.{arith}
use mathlib.Core.List.{append_assoc}
use Rattle.tape.proofs.Targets.{wrote_then}
use Rattle.records.proofs.Tape.{file_names_next}
use Rattle.records.proofs.record_tape.put_tape.Goals as goal

pub loop-bound-preserved : goal.loop-bound-preserved
loop-bound-preserved c =
    rw (append_assoc, file_names_next c.place_in-place.result c.args.records.now c.loop-bound.bound-index (omega arith)) at
    (wrote_then (omega arith) c.loop-bound.invariant c.put_file_name-end.ensures)
