use mathlib.Core.List.{◌∷◌}
use lib.ListN.{take}
use Rattle.tape.specs.Targets.{Wrote}
use Rattle.definitions.specs.Records.{entries_in}
use Rattle.records.proofs.record_tape.put_group.Given as goal

abbrev pub invariant-loop-bound : goal.invariant-loop-bound
invariant-loop-bound l = Wrote l.fn.out l.out l.fn.at l.end (0xb0 ∷ l.fn.source ∷ entries_in l.fn.source (take l.bound-index l.records))
