use mathlib.Core.Path.{refl}
use Rattle.definitions.specs.Lowering.{automatic_name}
use borrow.Author.Tests.{le-leb, lt-leb}
use Rattle.emit.proofs.jsx_impl.automatic_name.Goals as goal

pub returns-then-context : goal.returns-then-context
unfolding automatic_name
returns-then-context c = λ t b. rw c.if-context.true refl

pub returns-then-count-lt2 : goal.returns-then-count-lt2
unfolding automatic_name
returns-then-count-lt2 c = λ t b. rw (c.if-context.false, lt-leb _ _ c.if-count-lt2.true) refl

pub returns : goal.returns
unfolding automatic_name
returns c = λ t b. rw (c.if-context.false, le-leb _ _ c.if-count-lt2.false) refl
