use Rattle.std.proofs.Common.{◌≡◌, ◌+◌, ◌≤◌, ◌<◌, ◌^◌}
use Rattle.definitions.specs.Pragmas.{tail_from}
use Rattle.definitions.proofs.OpeningNotices.{parts_length}
use Rattle.pragma.specs.Parts.{parts_behind}
use Rattle.pragma.proofs.read_tail.Given as goal

abbrev pub invariant-loop-part : goal.invariant-loop-part
invariant-loop-part l =
    record {
      few : l.tail ≤ l.place;
      fits : l.place + parts_length (parts_behind l.part-iterator.left.now) < 2 ^ 64;
      same : tail_from l.root 0 l.at (parts_behind l.fn.parts.left.now) ≡ tail_from l.root l.tail l.place (parts_behind l.part-iterator.left.now);
    }
