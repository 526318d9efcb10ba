-- `text::chars::first_char` meets its contract. Assumes nothing.
use Rattle.std.proofs.Common.{◌≡◌, ◌∙◌, Some, None, arith, length-take}
use Rattle.text.specs.Utf8.{nonzero, width}
use Rattle.text.specs.Chars.{char_of, front_code}
use Rattle.text.proofs.Lists.{told}
use Rattle.text.proofs.Rows.{some_width}
use Rattle.text.proofs.Sequences.{width_le}
use Rattle.text.proofs.chars.first_char.Goals as goal

pub returns-in_err-width : goal.returns-in_err-width
unfolding char_of
returns-in_err-width c =
    let e : nonzero (width c.args.s.now) ≡ None = told c.width.ensures c.in_err-width.was in
    c.from_residual.ensures ∙ rw e

pub slice_bounds-code_of-end : goal.slice_bounds-code_of-end
slice_bounds-code_of-end c =
    let e = some_width _ _ (told c.width.ensures c.in_ok-width.was) in
    omega (arith, e.0, width_le c.args.s.now, length-take c.in_ok-width.width c.args.s.now)

pub returns : goal.returns
unfolding char_of front_code
returns c =
    let e : nonzero (width c.args.s.now) ≡ Some c.in_ok-width.width = told c.width.ensures c.in_ok-width.was in
    let w : width c.args.s.now ≡ c.in_ok-width.width = (some_width _ _ e).0 in
    rw (e, w, ← c.code_of.ensures)
