use native.Mathlib.Omega.{arith}
use Rattle.tape.proofs.Targets.{wrote_then}
use Rattle.tape.proofs.target.Tuple2Encode.encode.Goals as goal

pub returns : goal.returns
returns g c = wrote_then (omega arith) c.encode-behind.ensures c.encode.ensures
