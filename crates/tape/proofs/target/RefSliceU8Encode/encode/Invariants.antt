use lib.ListN.{take}
use Rattle.tape.specs.Targets.{Wrote}
use Rattle.tape.proofs.target.RefSliceU8Encode.encode.Given as goal

abbrev pub invariant-loop-b : goal.invariant-loop-b
invariant-loop-b l = Wrote l.initial.out l.out l.at l.next (take l.b-index l.self)
