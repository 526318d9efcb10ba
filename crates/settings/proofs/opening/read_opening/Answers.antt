use mathlib.Core.Path.{refl}
use Rattle.commands.proofs.Lengths.{flags_fits}
use Rattle.definitions.proofs.Legible.{command_read}
use Rattle.settings.proofs.opening.read_opening.Goals as goal

pub read_options-requires : goal.read_options-requires
read_options-requires c = flags_fits _ (command_read _ c.flags_command_at.ensures c.legible.ensures c.in_ok-n.was refl)
