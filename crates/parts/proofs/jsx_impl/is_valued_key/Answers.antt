use Rattle.text.proofs.Lists.{told}
use Rattle.parts.proofs.jsx_impl.is_valued_key.Goals as goal

pub returns-then-is_key : goal.returns-then-is_key
returns-then-is_key c = λ s b f d v u h. rw (told (c.is_key.ensures s b) c.if-is_key.true) (c.has_value.ensures f _ d v u h)

pub returns-else-is_key : goal.returns-else-is_key
returns-else-is_key c = λ s b f d v u h. rw (told (c.is_key.ensures s b) c.if-is_key.false) c.if-is_key.false
