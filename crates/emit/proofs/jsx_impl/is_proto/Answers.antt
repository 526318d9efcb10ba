use Rattle.std.proofs.Common.{refl}
use Rattle.definitions.specs.Lowering.{is_proto}
use Rattle.emit.specs.Properties.{property_of}
use Rattle.emit.proofs.jsx_impl.is_proto.Goals as goal

pub returns-in-Some : goal.returns-in-Some
unfolding is_proto property_of
returns-in-Some c = λ s b e. rw (c.in-Some.is, ← c.part.ensures) c.same.ensures

pub returns-in-None : goal.returns-in-None
unfolding is_proto property_of
returns-in-None c = λ s b e. rw c.in-None.is refl
