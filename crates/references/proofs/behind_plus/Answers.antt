-- `references::behind_plus` meets its contract. Assumes nothing.
use native.Mathlib.Omega.{arith}
use Rattle.text.proofs.Lists.{told}
use Rattle.references.specs.Walks.{signed}
use Rattle.references.proofs.Bare.{one_within}
use Rattle.references.proofs.behind_plus.Goals as goal

pub overflow_add-result : goal.overflow_add-result
overflow_add-result c = omega (arith, one_within c.args.s.now c.args.n 0x2b (told c.is_at.ensures c.if-is_at.true))

pub returns-then-is_at : goal.returns-then-is_at
unfolding signed
returns-then-is_at c = rw (told c.is_at.ensures c.if-is_at.true)

pub returns : goal.returns
unfolding signed
returns c = rw (told c.is_at.ensures c.if-is_at.false)
