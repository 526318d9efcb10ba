use Prim.Native.Nat.{ℕ, ◌<◌}
use lib.ListN.{length}
use mathlib.Core.Path.{◌≡◌}
use mathlib.Core.List.{List}
use Rattle.definitions.specs.Judging.{done}
use Rattle.definitions.specs.Tree.{Property}
use Rattle.definitions.specs.Reading.{properties_at}
use Rattle.pen.specs.Emitting.{Lent}
use Rattle.emit.proofs.Properties.{PropertiesLeft, Carried}
use Rattle.emit.proofs.jsx_impl.carry_over.Given as goal

abbrev pub invariant-loop-property : goal.invariant-loop-property
invariant-loop-property l =
    Lent l.initial.pen l.pen
    × (l.pen.notices.now ≡ l.initial.pen.notices.now)
    × ((text : List ℕ) (f : ℕ) (ps : List Property) (u : ℕ) → length l.tape < f → properties_at f text l.tape ≡ done ps u
    → PropertiesLeft text l.tape ps u l.rest (Carried ps l.initial.pen l.pen))

abbrev pub decreases-loop-property : goal.decreases-loop-property
decreases-loop-property l = length l.rest
