-- `jsx_text::fixup_whitespace_and_decode_entities` meets its contract. The loop's invariant is a `Turn`: how the present line stands, and
-- what is still to be written. Assumes nothing.
use Prim.Native.Nat.{◌-◌}
use lib.ListN.{length}
use Rattle.definitions.specs.JsxText.{jsx_text}
use Rattle.jsx_text.proofs.Turns.{Turn}
use Rattle.jsx_text.proofs.fixup_whitespace_and_decode_entities.Given as goal

abbrev pub invariant-loop-i : goal.invariant-loop-i
invariant-loop-i l =
    Turn l.span l.chars (jsx_text l.text l.span) l.initial.calls l.at l.calls l.texted l.first_non_whitespace l.last_non_whitespace l.i

abbrev pub decreases-loop-i : goal.decreases-loop-i
decreases-loop-i l =
    length l.chars - l.i
