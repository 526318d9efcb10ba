use native.Mathlib.Omega.{arith}
use mathlib.Core.Path.{refl, sym, ◌∙◌}
use Rattle.store.proofs.Following.{follows_not, follows_on, follows_all}
use Rattle.store.proofs.forged.follow.Goals as goal

pub loop-i-init : goal.loop-i-init
loop-i-init c = refl

pub returns-then-not-numbered-repeated : goal.returns-then-not-numbered-repeated
returns-then-not-numbered-repeated c =
    sym (c.loop-i.invariant
    ∙ follows_not c.args.settings c.args.records.now c.loop-i.i (omega arith) _ _ _ c.is_some-repeated.ensures c.number_in.ensures c.can_bind.ensures
    c.if-not-numbered-repeated.true)

pub loop-i-preserved : goal.loop-i-preserved
loop-i-preserved c =
    c.loop-i.invariant
    ∙ follows_on c.args.settings c.args.records.now c.loop-i.i (omega arith) _ _ _ c.is_some-repeated.ensures c.number_in.ensures c.can_bind.ensures
    c.if-not-numbered-repeated.false

pub returns : goal.returns
returns c = sym (c.loop-i.invariant ∙ follows_all c.args.settings _ _ c.args.records.now c.loop-i.i (omega arith))
