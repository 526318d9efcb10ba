use mathlib.Core.Path.{refl}
use Rattle.lowering.specs.Steps.{stepped}
use Rattle.lowering.proofs.stepped.Goals as goal

pub returns-in-Ok : goal.returns-in-Ok
unfolding stepped
returns-in-Ok c = rw c.in-Ok.is refl

pub returns-in-Err : goal.returns-in-Err
unfolding stepped
returns-in-Err c = rw c.in-Err.is refl
