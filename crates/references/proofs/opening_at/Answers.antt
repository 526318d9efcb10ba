-- `references::opening_at` meets its contract. Assumes nothing.
use Rattle.text.proofs.Lists.{told}
use Rattle.references.specs.Walks.{opening_of}
use Rattle.references.proofs.opening_at.Goals as goal

pub returns-then-not-is_at : goal.returns-then-not-is_at
unfolding opening_of
returns-then-not-is_at c = rw (told c.is_at.ensures c.if-not-is_at.true)

pub returns-then-is_at : goal.returns-then-is_at
unfolding opening_of
returns-then-is_at c = rw (told c.is_at.ensures c.if-not-is_at.false, told c.is_at-2.ensures c.if-is_at.true) c.behind_plus.ensures

pub returns : goal.returns
unfolding opening_of
returns c = rw (told c.is_at.ensures c.if-not-is_at.false, told c.is_at-2.ensures c.if-is_at.false) c.behind_plus-2.ensures
