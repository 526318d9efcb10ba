-- What is read of the pragma in force. Assumes nothing.
use Rattle.std.proofs.Common.{◌≡◌, ℕ, List, Option, refl}
use Rattle.text.specs.declared.spans.Span.{Span}
use Rattle.definitions.specs.declared.options.Mode.{Mode}
use Rattle.definitions.specs.declared.options.Mode.TheVariants.{Module, Script, Classic}
use Rattle.definitions.specs.Pragmas.{pragma_in}
use Rattle.definitions.specs.Opening.{pragma_under, over_ascii_in, if_classic}
use Rattle.pragma.specs.Parts.{in_force}

pub pragma_in_force : (m : Mode) (text : List ℕ) (p : Option Span) → pragma_in text (in_force m p) ≡ pragma_under m text p
unfolding pragma_in pragma_under
pragma_in_force Module text p = refl
pragma_in_force Script text p = refl
pragma_in_force Classic text p = refl

pub over_ascii_in_force : (m : Mode) (text : List ℕ) (p : Option Span) → over_ascii_in text (in_force m p) ≡ if_classic m (over_ascii_in text p)
unfolding over_ascii_in if_classic
over_ascii_in_force Module text p = refl
over_ascii_in_force Script text p = refl
over_ascii_in_force Classic text p = refl
