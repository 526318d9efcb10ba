use Rattle.text.proofs.Lists.{told}
use Rattle.emit.proofs.jsx_impl.lower_literal.Goals as goal

pub returns-then-proto-clause-used_value : goal.returns-then-proto-clause-used_value
returns-then-proto-clause-used_value c =
    λ s b f ps u h d. let z = c.has_proto-proto.ensures.found_value s b f ps u h d in (z.1, rw (told z.0 c.if-proto.true) c.put_over.ensures.written)

pub returns-else-proto-clause-used_value : goal.returns-else-proto-clause-used_value
returns-else-proto-clause-used_value c =
    λ s b f ps u h d. let z = c.has_proto-proto.ensures.found_value s b f ps u h d in (z.1, rw (told z.0 c.if-proto.false) (c.carry_over.ensures.written _ f ps u h d))
