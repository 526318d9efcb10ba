-- `text::utf8::width` meets its contract. Assumes nothing.
use Rattle.std.proofs.Common.{◌≡◌, ◌∙◌, ◌<◌, length, get_or, ap, arith, rules}
use Rattle.text.specs.Utf8.{nonzero}
use Rattle.text.proofs.Rows.{by_row, no_row, no_byte}
use Rattle.text.proofs.utf8.width.Goals as goal
use Rattle.text.proofs.utf8.width.Goals.{In_ok-first}

-- the byte that was read is the first
lead : (c : In_ok-first) → (0 < length c.args.s.now) × (get_or c.args.s.now 0 0 ≡ c.in_ok-first.field-0.now)
lead c = search rules

pub returns-in_err-first : goal.returns-in_err-first
returns-in_err-first c = c.from_residual.ensures ∙ ap nonzero (no_byte c.args.s.now (search rules))

pub returns-in-0-to-127 : goal.returns-in-0-to-127
returns-in-0-to-127 c =
    let h = lead (goal.at.returns-in-0-to-127 c).In_ok-first in
    ap nonzero (by_row c.args.s.now 0 (omega arith))

pub returns-in-194-to-223 : goal.returns-in-194-to-223
returns-in-194-to-223 c =
    let h = lead (goal.at.returns-in-194-to-223 c).In_ok-first in
    c.rest-in-194-to-223.ensures ∙ ap nonzero (by_row c.args.s.now 1 (omega arith))

pub returns-in-224 : goal.returns-in-224
returns-in-224 c =
    let h = lead (goal.at.returns-in-224 c).In_ok-first in
    c.rest.ensures ∙ ap nonzero (by_row c.args.s.now 2 (omega arith))

pub returns-in-225-to-236 : goal.returns-in-225-to-236
returns-in-225-to-236 c =
    let h = lead (goal.at.returns-in-225-to-236 c).In_ok-first in
    c.rest-in-225-to-236.ensures ∙ ap nonzero (by_row c.args.s.now 3 (omega arith))

pub returns-in-237 : goal.returns-in-237
returns-in-237 c =
    let h = lead (goal.at.returns-in-237 c).In_ok-first in
    c.rest-in-237.ensures ∙ ap nonzero (by_row c.args.s.now 4 (omega arith))

pub returns-in-238-to-239 : goal.returns-in-238-to-239
returns-in-238-to-239 c =
    let h = lead (goal.at.returns-in-238-to-239 c).In_ok-first in
    c.rest-in-238-to-239.ensures ∙ ap nonzero (by_row c.args.s.now 5 (omega arith))

pub returns-in-240 : goal.returns-in-240
returns-in-240 c =
    let h = lead (goal.at.returns-in-240 c).In_ok-first in
    c.rest-in-240.ensures ∙ ap nonzero (by_row c.args.s.now 6 (omega arith))

pub returns-in-241-to-243 : goal.returns-in-241-to-243
returns-in-241-to-243 c =
    let h = lead (goal.at.returns-in-241-to-243 c).In_ok-first in
    c.rest-in-241-to-243.ensures ∙ ap nonzero (by_row c.args.s.now 7 (omega arith))

pub returns-in-244 : goal.returns-in-244
returns-in-244 c =
    let h = lead (goal.at.returns-in-244 c).In_ok-first in
    c.rest-in-244.ensures ∙ ap nonzero (by_row c.args.s.now 8 (omega arith))

pub returns-in_default : goal.returns-in_default
returns-in_default c =
    let h = lead (goal.at.returns-in_default c).In_ok-first in
    ap nonzero (no_row c.args.s.now 1 (omega arith))

pub returns-in_default-2 : goal.returns-in_default-2
returns-in_default-2 c =
    let h = lead (goal.at.returns-in_default-2 c).In_ok-first in
    ap nonzero (no_row c.args.s.now 9 (omega arith))
