use Prim.Native.Nat.{ℕ, ◌<◌}
use lib.ListN.{length}
use mathlib.Core.Path.{◌≡◌}
use mathlib.Core.List.{List}
use mathlib.Core.Bool.{false}
use Rattle.definitions.specs.Judging.{done}
use Rattle.definitions.specs.Reading.{Scoped, scopes_at}
use Rattle.emit.proofs.Readings.{Rest}
use Rattle.emit.proofs.RootHeads.{ScopesLeft}
use Rattle.emit.proofs.jsx_self.is_inside_constructor.Given as goal

abbrev pub invariant-loop-kind : goal.invariant-loop-kind
invariant-loop-kind l =
    Rest l.tape l.rest
    × ((text : List ℕ) (f : ℕ) (s : Scoped) (u : ℕ) → length l.tape < f → scopes_at f text false l.tape ≡ done s u → ScopesLeft text l.tape s l.known l.inside l.rest)

abbrev pub decreases-loop-kind : goal.decreases-loop-kind
decreases-loop-kind l = length l.rest
