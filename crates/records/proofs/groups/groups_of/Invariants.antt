use mathlib.Core.Path.{◌≡◌}
use mathlib.Core.Bool.{true}
use mathlib.Core.List.{[]}
use lib.ListN.{drop}
use Rattle.definitions.specs.Records.{groups_from}
use Rattle.records.specs.Grouping.{sources_of, Apart, known_sources}
use Rattle.records.proofs.groups.groups_of.Given as goal

abbrev pub invariant-loop-bound : goal.invariant-loop-bound
invariant-loop-bound l = record {
  apart : Apart l.groups;
  known : known_sources (drop l.bound-index l.records) ≡ true;
  left : groups_from [] l.records ≡ groups_from (sources_of l.groups) (drop l.bound-index l.records);
}
