use mathlib.Core.List.{append-nil}
use native.Mathlib.Omega.{arith}
use Rattle.tape.proofs.Targets.{wrote_then}
use Rattle.definitions.specs.Records.{group_tape}
use Rattle.records.specs.Grouping.{sources_of}
use Rattle.records.proofs.record_tape.put_groups.Goals as goal

pub returns-in-Two : goal.returns-in-Two
unfolding group_tape sources_of
returns-in-Two c =
    rw (c.in-Two.is, append-nil)
    (wrote_then (omega arith) c.put_group-next.ensures c.put_group-in-Two.ensures)
