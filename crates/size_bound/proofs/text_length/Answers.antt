-- The text at a place, by the laws of proofs/Passing.
use Rattle.std.proofs.Common.{◌≡◌, ◌+◌, sym, ap, ◌∙◌, arith}
use Rattle.tape.specs.Numbers.{u16_at}
use Rattle.size_bound.proofs.Passing.{no_text, cut_text, whole_text}
use Rattle.size_bound.proofs.text_length.Goals as goal
use Rattle.size_bound.proofs.text_length.Goals.{then-tape-at-ne-TEXT-via-then-tape-at-ne-TEXT, then-tape-at-ne-TEXT-via-else-tape-at-ne-TEXT+then-tape-at-lt-WITH_SPAN}

pub returns-then-tape-at-ne-TEXT : goal.returns-then-tape-at-ne-TEXT
returns-then-tape-at-ne-TEXT c =
    elim c.then-tape-at-ne-TEXT.branch [
      | then-tape-at-ne-TEXT-via-then-tape-at-ne-TEXT w ↦ sym (no_text _ _ c.requires w.if-tape-at-ne-TEXT.true)
      | then-tape-at-ne-TEXT-via-else-tape-at-ne-TEXT+then-tape-at-lt-WITH_SPAN w ↦ sym (cut_text _ _ c.requires w.if-tape-at-ne-TEXT.false w.if-tape-at-lt-WITH_SPAN.true)
    ]

pub returns : goal.returns
returns c =
    let e : c.args.at + 1 + 2 ≡ c.args.at + 3 = omega arith in
    c.read.ensures ∙ ap (u16_at c.args.tape.now) e ∙ whole_text _ _ c.requires c.if-tape-at-ne-TEXT.false c.if-tape-at-lt-WITH_SPAN.false
