use Rattle.parts.proofs.Fronts.{KeysLeft}
use Rattle.definitions.specs.Tree.{Attributes}
use Rattle.definitions.specs.Judging.{done}
use Rattle.definitions.specs.Reading.{attributes_at}
use Rattle.emit.specs.Contexts.{over_text}
use Rattle.definitions.specs.declared.options.Settings.{Settings}
use mathlib.Core.Bool.{Bool}
use Prim.Native.Nat.{ℕ, ◌<◌}
use mathlib.Core.Path.{◌≡◌}
use lib.ListN.{length}
use Rattle.parts.proofs.jsx_impl.has_key_after_props_spread.Given as goal

abbrev pub invariant-loop-front : goal.invariant-loop-front
invariant-loop-front l =
    (s : Settings) (b : Bool) (f d : ℕ) (a : Attributes) (u : ℕ) → length l.tape < f → attributes_at f l.context.text.now d l.tape ≡ done a u
    → KeysLeft (over_text l.context s b) l.context.text.now d a l.rest l.seen

abbrev pub decreases-loop-front : goal.decreases-loop-front
decreases-loop-front l = length l.rest
