use borrow.Author.Tests.{eq-eqb, ne_eqb}
use Rattle.lowering.specs.RootLists.{ending}
use Rattle.lowering.proofs.series.list_end.Goals as goal

pub returns-then-whole-size : goal.returns-then-whole-size
unfolding ending
returns-then-whole-size c = rw (eq-eqb _ _ c.if-whole-size.true)

pub returns : goal.returns
unfolding ending
returns c = rw (ne_eqb _ _ c.if-whole-size.false)
