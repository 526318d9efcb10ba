use Rattle.std.proofs.Common.{refl, ◌∙◌, arith}
use Rattle.pen.proofs.Emitting.{lent_none, lent_then}
use Rattle.emit.proofs.Properties.{left_begin, left_next, left_over, carried_begin, carried_more, carried_end}
use Rattle.emit.proofs.jsx_impl.carry_over.Goals as goal

pub loop-property-init : goal.loop-property-init
loop-property-init c = (lent_none, refl, λ text f ps u h d. left_begin h d (carried_begin ps (record { calls = omega arith; notices = omega arith })))

pub loop-property-preserved : goal.loop-property-preserved
loop-property-preserved c = (
  lent_then c.loop-property.invariant.0 c.put_over.ensures.written.0,
  c.put_over.ensures.notices_stay ∙ c.loop-property.invariant.1,
  λ text f ps u h d. left_next (c.loop-property.invariant.2 text f ps u h d) c.in-Some.ensures.next refl c.in-Some.ensures.shorter
      (λ r x. carried_more _ _ r c.put_over.ensures.written x),
)

pub returns-clause-written : goal.returns-clause-written
returns-clause-written c =
    λ text f ps u h d. carried_end (left_over (c.loop-property.invariant.2 text f ps u h d) c.in_default.ensures.next refl).0
