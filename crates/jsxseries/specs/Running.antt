-- What lowering the first root of a list comes to.
use Rattle.std.specs.Prelude.{ℕ, ◌≤◌, List, [], ◌∷◌, length, Option, None, Some, Result, ⊤}
use Rattle.tape.specs.declared.refusal.Refusal.{Refusal}
use Rattle.definitions.specs.declared.state.State.{State}
use Rattle.definitions.specs.Series.{World, outcome_in}
use Rattle.jsxseries.specs.declared.series.Series.{Series}

abbrev pub world : State → List ℕ → List ℕ → World
world s calls notices = record { state = s; calls = calls; notices = notices }

abbrev pub world_of : Series → World
world_of s = world s.state s.calls s.notices

-- the answer of the first of the roots, if there is one
unfoldable pub first_of : List ℕ → World → List (List ℕ) → Option (Result ⊤ Refusal)
first_of text w [] = None
first_of text w (t ∷ ts) = Some (outcome_in text w t).stepped.answer

-- the fills lie within the targets
abbrev pub Fits : World → Type 0
Fits w = (w.state.calls ≤ length w.calls) × (w.state.notices ≤ length w.notices)
