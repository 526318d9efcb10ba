use mathlib.Core.List.{◌++◌}
use lib.ListN.{take}
use Rattle.tape.specs.Targets.{Wrote}
use Rattle.definitions.specs.Records.{group_tape, file_name_tape}
use Rattle.records.specs.Grouping.{sources_of}
use Rattle.records.proofs.record_tape.put_tape.Given as goal

abbrev pub invariant-loop-bound : goal.invariant-loop-bound
invariant-loop-bound l =
    Wrote l.fn.out l.out 0 l.end (group_tape l.records (sources_of l.fn.groups) ++ file_name_tape l.place (take l.bound-index l.records))
