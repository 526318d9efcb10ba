use borrow.Author.Tests.{eq-eqb, ne_eqb}
use mathlib.Core.Path.{refl}
use Rattle.emit.proofs.brief.mode_of.Goals as goal

pub returns-then-brief-eq1 : goal.returns-then-brief-eq1
returns-then-brief-eq1 c = rw (eq-eqb _ 1 c.if-brief-eq1.true) refl

pub returns-then-brief-eq1-2 : goal.returns-then-brief-eq1-2
returns-then-brief-eq1-2 c = rw (ne_eqb _ 1 c.if-brief-eq1.false, eq-eqb _ 1 c.if-brief-eq1-2.true) refl

pub returns : goal.returns
returns c = rw (ne_eqb _ 1 c.if-brief-eq1.false, ne_eqb _ 1 c.if-brief-eq1-2.false) refl
