-- `text::utf8::rest` meets its contract. The loop's invariant: what is left of the row decides. Assumes nothing.
use Rattle.std.proofs.Common.{◌≡◌, ◌+◌, drop}
use Rattle.text.specs.Utf8.{matches}
use Rattle.text.proofs.utf8.rest.Given as goal

abbrev pub invariant-loop-i : goal.invariant-loop-i
invariant-loop-i g l = matches 1 l.lo-items l.s ≡ matches (l.i + 1) (drop l.i l.lo-items) l.s
