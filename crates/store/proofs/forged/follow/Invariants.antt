use mathlib.Core.Path.{◌≡◌}
use mathlib.Core.List.{[]}
use lib.ListN.{take, drop}
use Rattle.definitions.specs.States.{imports}
use Rattle.store.specs.Following.{following}
use Rattle.store.proofs.forged.follow.Given as goal

abbrev pub invariant-loop-i : goal.invariant-loop-i
invariant-loop-i l = following l.settings 0 [] l.records ≡ following l.settings l.i (imports (take l.i l.records)) (drop l.i l.records)
