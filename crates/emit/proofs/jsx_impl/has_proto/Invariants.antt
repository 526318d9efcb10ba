use Prim.Native.Nat.{ℕ, ◌≤◌, ◌<◌}
use lib.ListN.{length}
use mathlib.Core.Path.{◌≡◌}
use mathlib.Core.List.{List}
use mathlib.Core.Bool.{Bool, ◌||◌}
use Rattle.definitions.specs.Judging.{done}
use Rattle.definitions.specs.Tree.{Property}
use Rattle.definitions.specs.Reading.{properties_at}
use Rattle.definitions.specs.Lowering.{has_proto}
use Rattle.emit.specs.Contexts.{over_text}
use Rattle.definitions.specs.declared.options.Settings.{Settings}
use Rattle.emit.proofs.Properties.{PropertiesLeft}
use Rattle.emit.proofs.jsx_impl.has_proto.Given as goal

abbrev pub invariant-loop-property : goal.invariant-loop-property
invariant-loop-property l =
    (length l.rest ≤ length l.tape)
    × ((s : Settings) (b : Bool) (f : ℕ) (ps : List Property) (u : ℕ) → length l.tape < f → properties_at f l.context.text.now l.tape ≡ done ps u
    → PropertiesLeft l.context.text.now l.tape ps u l.rest (λ r. has_proto (over_text l.context s b) ps ≡ (l.found || has_proto (over_text l.context s b) r)))

abbrev pub decreases-loop-property : goal.decreases-loop-property
decreases-loop-property l = length l.rest
