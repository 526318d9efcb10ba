use Rattle.definitions.specs.Lowering.{no_key}
use Rattle.emit.proofs.jsx_impl.no_key.Goals as goal

pub returns-clause-written : goal.returns-clause-written
unfolding no_key
returns-clause-written c = c.in_development.ensures.written
