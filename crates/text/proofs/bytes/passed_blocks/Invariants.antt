-- `text::bytes::passed_blocks` meets its contract. The loop's invariant: what was passed is whole blocks, with those that are left it is the slice, and the
-- search from there on has the answer. Assumes nothing.
use Rattle.std.proofs.Common.{◌≡◌, true, ℕ, Bool, List, ◌≤◌, ◌%◌, length, drop, None}
use Rattle.std.specs.Fn.{FnReturnsAt}
use Rattle.text.specs.Bytes.{find_from, find}
use Rattle.text.proofs.bytes.passed_blocks.Given as goal

abbrev pub invariant-loop-block : goal.invariant-loop-block
invariant-loop-block g l =
    (l.passed ≤ length l.s)
    × (l.block-iterator.size ≡ l.size)
    × (l.block-iterator.rest.now ≡ drop l.passed l.s)
    × ((p : ℕ → Bool) → ((block : List ℕ) → FnReturnsAt g.F.Fn l.passes block true → find p block ≡ None) → find p l.s ≡ find_from p l.passed (drop l.passed l.s))
    × (l.passed % l.size ≡ 0)
