-- The record tape as the code writes it: the groups that it found, then the file name.
use Rattle.std.specs.Prelude.{ℕ, List, ◌++◌}
use Rattle.definitions.specs.declared.options.Mode.{Mode}
use Rattle.definitions.specs.declared.records.Record.{Record}
use Rattle.definitions.specs.Records.{group_tape, place_in, file_name_tape}
use Rattle.records.specs.declared.groups.Groups.{Groups}
use Rattle.records.specs.Grouping.{sources_of}

-- the tape of records whose groups these are
unfoldable pub tape_of : Mode → Groups → List Record → List ℕ
tape_of m g rs = group_tape rs (sources_of g) ++ file_name_tape (place_in m) rs
