use native.Mathlib.Omega.{arith}
use Rattle.tape.proofs.Targets.{wrote_then}
use mathlib.Core.Path.{◌≡◌, refl}
use denote.Enum.Declared.{tag_of}
use Rattle.definitions.specs.contracts.options.Mode.{the_type}
use Rattle.definitions.specs.declared.options.Mode.{Mode}
use Rattle.definitions.specs.declared.options.Mode.TheVariants.{Module, Script, Classic}
use Rattle.definitions.specs.Options.{mode_number}
use Rattle.packing.specs.Packed.{settings_bytes, options_bytes, optional_bytes, form_bytes}
use Rattle.packing.proofs.Bytes.{weighed}
use Rattle.packing.proofs.writing.put_settings.Goals as goal

-- a mode's number is the one that the code casts it to
mode_cast : (m : Mode) → tag_of the_type m ≡ mode_number m
unfolding mode_number
mode_cast Module = refl
mode_cast Script = refl
mode_cast Classic = refl

pub returns : goal.returns
unfolding settings_bytes options_bytes optional_bytes form_bytes
returns c =
    rw (← weighed c.args.settings.pure c.from.ensures, ← mode_cast c.args.settings.mode)
    (wrote_then (omega arith)
    (wrote_then (omega arith)
    (wrote_then (omega arith)
    c.put_options-a.ensures c.encode-b.ensures)
    c.put_form-c.ensures) c.put_form.ensures)
