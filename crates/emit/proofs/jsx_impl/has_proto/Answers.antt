use Rattle.std.proofs.Common.{refl, arith}
use Rattle.emit.proofs.Properties.{left_begin, left_next, left_over, proto_more, proto_end}
use Rattle.emit.proofs.jsx_impl.has_proto.Goals as goal

pub loop-property-init : goal.loop-property-init
loop-property-init c = (omega arith, λ s b f ps u h d. left_begin h d refl)

pub loop-property-preserved : goal.loop-property-preserved
loop-property-preserved c = (
  omega (arith, c.loop-property.invariant.0, c.in-Some.ensures.shorter),
  λ s b f ps u h d. left_next (c.loop-property.invariant.1 s b f ps u h d) c.in-Some.ensures.next refl c.in-Some.ensures.shorter
      (λ r x. proto_more _ ps c.loop-property.found _ r (c.is_proto-found.ensures s b _) x),
)

pub returns-clause-found_value : goal.returns-clause-found_value
returns-clause-found_value c =
    λ s b f ps u h d. let z = left_over (c.loop-property.invariant.1 s b f ps u h d) c.in_default.ensures.next refl in
    (proto_end _ ps c.loop-property.found z.0, omega (arith, z.1, z.2, c.loop-property.invariant.0, c.min.ensures))
