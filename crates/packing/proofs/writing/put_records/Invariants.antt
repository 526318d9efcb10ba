use lib.ListN.{take}
use Rattle.tape.specs.Targets.{Wrote}
use Rattle.packing.specs.Packed.{records_bytes}
use Rattle.packing.proofs.writing.put_records.Given as goal

abbrev pub invariant-loop-bound : goal.invariant-loop-bound
invariant-loop-bound l = Wrote l.fn.out l.out l.fn.at l.end (records_bytes (take l.bound-index l.records))
