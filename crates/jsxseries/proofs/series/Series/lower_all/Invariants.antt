use mathlib.Core.Path.{◌≡◌}
use Rattle.jsxseries.specs.Running.{world_of, Fits}
use Rattle.jsxseries.proofs.series.Series.lower_all.Given as goal

abbrev pub invariant-loop : goal.invariant-loop
invariant-loop g l = Fits (world_of l.self) × (l.self.text ≡ l.initial.self.text)
