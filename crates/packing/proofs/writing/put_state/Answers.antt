use native.Mathlib.Omega.{arith}
use Rattle.tape.proofs.Targets.{wrote_then}
use Rattle.packing.specs.Packed.{packed}
use Rattle.packing.proofs.writing.put_state.Goals as goal

pub returns : goal.returns
unfolding packed
returns c =
    wrote_then (omega arith)
    (wrote_then (omega arith)
    (wrote_then (omega arith)
    (wrote_then (omega arith)
    c.put_settings-a.ensures c.put_records-b.ensures)
    c.encode-c.ensures)
    c.encode-d.ensures) c.encode.ensures
