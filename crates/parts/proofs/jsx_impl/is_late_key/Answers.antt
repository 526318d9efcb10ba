use Rattle.parts.proofs.jsx_impl.is_late_key.Goals as goal

pub returns-then-seen : goal.returns-then-seen
returns-then-seen c = λ s b. rw c.if-seen.true (c.is_key.ensures s b)
