use mathlib.Core.Path.{refl}
use Rattle.text.proofs.Lists.{told}
use Rattle.lowering.specs.Steps.{stepped}
use Rattle.lowering.proofs.Judging.{bad_tape}
use Rattle.lowering.proofs.lower_tape.Goals as goal

pub lower_checked-requires : goal.lower_checked-requires
lower_checked-requires c = record { unforged = c.requires; reads = told c.check_root.ensures c.in-Ok.is }

pub returns-in-Ok : goal.returns-in-Ok
returns-in-Ok c = c.lower_checked.ensures

pub returns-in-Err : goal.returns-in-Err
unfolding stepped
returns-in-Err c =
    bad_tape _ _ _ _ _ _ (told c.check_root.ensures c.in-Err.is) refl
