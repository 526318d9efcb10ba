-- Demand 3 of what hosts run: `jsx_open`, then any number of `jsx_root` and `jsx_roots` over the bytes that the last one left and the same two targets, then
-- `jsx_records`. What each entry leaves is what its contract says (specs, Entries); that all of them together are a series of roots is proved in proofs/Hosting.
use Rattle.std.specs.Prelude.{ℕ, ◌≡◌, List, [], ◌∷◌, ◌++◌, length, take}
use Rattle.definitions.specs.declared.options.Settings.{Settings}
use Rattle.definitions.specs.Opening.{opening_bytes}
use Rattle.definitions.specs.Series.{World, opening, series}
use Rattle.definitions.specs.Claim.{Kept}
use Rattle.definitions.specs.Entries.{Outcome}
use Rattle.lowering.specs.RootLists.{roots_in, Run}
use Rattle.jsxlib.specs.Entries.{state_from, state_after, kept_state, root_over, run_over}

-- a call between the opening and the records: `jsx_root` with a tape, `jsx_roots` with a list
pub data Step : Type 0 where
  root : List ℕ → Step
  roots : List ℕ → Step

-- what a host keeps from call to call: the state's bytes and both targets
pub record Held : Type 0 where
  pub state : List ℕ
  pub calls : List ℕ
  pub notices : List ℕ

abbrev pub after_root : Held → Outcome → Held
after_root h o = record { state = state_after o.stepped.answer o.stepped.state h.state; calls = o.calls; notices = o.notices }

abbrev pub after_roots : Held → Run → Held
after_roots h r = record { state = kept_state r.taken r.world.state h.state; calls = r.world.calls; notices = r.world.notices }

-- what a call leaves, by the contracts of `jsx_root` and `jsx_roots`
unfoldable pub after_step : List ℕ → Held → Step → Held
after_step text h (root t) = after_root h (root_over text h.state t h.calls h.notices)
after_step text h (roots l) = after_roots h (run_over text h.state l h.calls h.notices)

unfoldable pub after_steps : List ℕ → Held → List Step → Held
after_steps text h [] = h
after_steps text h (c ∷ cs) = after_steps text (after_step text h c) cs

-- the roots that a call hands over: of a list those that were taken
unfoldable pub roots_of : List ℕ → Held → Step → List (List ℕ)
roots_of text h (root t) = t ∷ []
roots_of text h (roots l) = take (run_over text h.state l h.calls h.notices).taken (roots_in l)

unfoldable pub roots_of_all : List ℕ → Held → List Step → List (List ℕ)
roots_of_all text h [] = []
roots_of_all text h (c ∷ cs) = roots_of text h c ++ roots_of_all text (after_step text h c) cs

-- what a host keeps as a state and two targets: `jsx_records` writes the records of this state
abbrev pub world_of : Held → World
world_of h = record { state = state_from h.state; calls = h.calls; notices = h.notices }

-- a world is the series of these roots behind the opening, and demand 3 holds of it
pub record Served (text : List ℕ) (s : Settings) (calls notices : List ℕ) (roots : List (List ℕ)) (w : World) : Type 0 where
  pub is_series : w ≡ series text (opening text s calls notices) roots
  pub kept : Kept text s calls notices roots

-- a notice target that begins with the opening's notices
abbrev pub Begins : List ℕ → Settings → List ℕ → Type 0
Begins text s notices = take (length (opening_bytes text s)) notices ≡ opening_bytes text s

-- so it is from these bytes of a state on, over any targets of which that for notices begins with the opening's, and whatever a host calls, accepted and refused in any mix
abbrev pub Hosted : List ℕ → Settings → List ℕ → Type 0
Hosted text s state =
    (calls notices : List ℕ) (cs : List Step)
    → Begins text s notices
    → Served text s calls notices
    (roots_of_all text (record { state = state; calls = calls; notices = notices }) cs)
    (world_of (after_steps text (record { state = state; calls = calls; notices = notices }) cs))
