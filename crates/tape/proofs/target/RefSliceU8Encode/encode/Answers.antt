use mathlib.Core.Path.{sym}
use native.Mathlib.Omega.{arith}
use native.Mathlib.Numerals.{add-one}
use lib.Seq.{take-suc}
use Rattle.tape.proofs.Targets.{wrote_as, wrote_then}
use Rattle.tape.proofs.target.RefSliceU8Encode.encode.Goals as goal

pub loop-b-preserved : goal.loop-b-preserved
loop-b-preserved c =
    wrote_as (sym (rw add-one (take-suc _ _ 0 c.loop-b-test.true))) (wrote_then (omega arith) c.loop-b.invariant c.encode-next.ensures)
