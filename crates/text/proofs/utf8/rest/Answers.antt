-- `text::utf8::rest` meets its contract. Assumes nothing.
use Rattle.std.proofs.Common.{◌≡◌, ◌∙◌, refl, true, false, Some, ap, arith}
use Rattle.text.specs.Utf8.{matches}
use Rattle.text.proofs.Lists.{told}
use Rattle.text.proofs.Rows.{row_step, row_end}
use Rattle.text.proofs.utf8.rest.Goals as goal

pub loop-i-init : goal.loop-i-init
loop-i-init g c = refl

pub returns-then-not-within_at : goal.returns-then-not-within_at
returns-then-not-within_at g c =
    let e : matches 1 c.args.row c.args.s.now ≡ false =
    c.loop-i.invariant ∙ row_step c.args.s.now c.args.row c.loop-i.i (omega arith) ∙ rw (told c.within_at.ensures c.if-not-within_at.true) in
    rw e

pub loop-i-preserved : goal.loop-i-preserved
loop-i-preserved g c =
    c.loop-i.invariant ∙ row_step c.args.s.now c.args.row c.loop-i.i (omega arith) ∙ rw (told c.within_at.ensures c.if-not-within_at.false)

pub returns : goal.returns
returns g c =
    let e : matches 1 c.args.row c.args.s.now ≡ true = c.loop-i.invariant ∙ row_end c.args.s.now c.args.row c.loop-i.i (omega arith) in
    rw e (ap Some (omega arith))
