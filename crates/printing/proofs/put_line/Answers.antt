use Rattle.tape.proofs.Targets.{wrote_then}
use native.Mathlib.Omega.{arith}
use Rattle.printing.proofs.put_line.Goals as goal

pub returns : goal.returns
returns c =
    wrote_then (omega arith) (wrote_then (omega arith) c.encode-worded.ensures c.put_bytes-filled.ensures) c.encode.ensures
