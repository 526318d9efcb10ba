use borrow.Author.Tests.{le-leb, lt-leb}
use Rattle.definitions.specs.Lowering.{static_children}
use Rattle.emit.proofs.jsx_impl.static_children.Goals as goal
use Rattle.emit.proofs.jsx_impl.static_children.Goals.{then-count-ge2, else-count-ge2}

pub returns-clause-written : goal.returns-clause-written
unfolding static_children
returns-clause-written c = λ t b.
    elim c.if-count-ge2.branch [
      | then-count-ge2 w ↦ rw (le-leb _ _ w.if-count-ge2.true) (rw w.several-is at (c.in_development.ensures.written t b))
      | else-count-ge2 w ↦ rw (lt-leb _ _ w.if-count-ge2.false) (rw w.several-is at (c.in_development.ensures.written t b))
    ]
