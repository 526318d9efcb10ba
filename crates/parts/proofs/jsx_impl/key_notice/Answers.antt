use Rattle.std.proofs.Common.{arith}
use Rattle.text.proofs.Lists.{told}
use Rattle.definitions.specs.Lowering.{key_notice}
use Rattle.pen.proofs.Emitting.{produced_none}
use Rattle.parts.proofs.jsx_impl.key_notice.Goals as goal
use Rattle.parts.proofs.jsx_impl.key_notice.Goals.{else-is_key-via-then-is_key+else-not-has_value, else-is_key-via-else-is_key}

pub returns-then-not-has_value-clause-notice : goal.returns-then-not-has_value-clause-notice
unfolding key_notice
returns-then-not-has_value-clause-notice c = λ s b f d v u h.
    rw (told (c.is_key.ensures s b) c.if-is_key.true, told (c.has_value.ensures f _ d v u h) c.if-not-has_value.true) c.valueless_key.ensures.notice

pub returns-else-is_key-clause-notice : goal.returns-else-is_key-clause-notice
unfolding key_notice
returns-else-is_key-clause-notice c = λ s b f d v u h.
    elim c.else-is_key.branch [
      | else-is_key-via-then-is_key+else-not-has_value w ↦
          rw (told (c.is_key.ensures s b) w.if-is_key.true, told (w.has_value.ensures f _ d v u h) w.if-not-has_value.false) (produced_none (record { calls = omega arith; notices = omega arith }))
      | else-is_key-via-else-is_key w ↦ rw (told (c.is_key.ensures s b) w.if-is_key.false) (produced_none (record { calls = omega arith; notices = omega arith }))
    ]
