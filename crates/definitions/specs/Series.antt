-- The specification's "Series of roots": each root is given the state that the last one left and the same call and notice targets.
use Rattle.std.specs.Prelude.{ℕ, List, [], ◌∷◌, ◌++◌, take, Err, Ok, Result, ⊤}
use Rattle.tape.specs.declared.refusal.Refusal.{Refusal}
use Rattle.definitions.specs.declared.options.Settings.{Settings}
use Rattle.definitions.specs.declared.records.Import.{Import}
use Rattle.definitions.specs.declared.state.State.{State}
use Rattle.definitions.specs.Judging.{Parsed, done, stop}
use Rattle.definitions.specs.Tree.{Root}
use Rattle.definitions.specs.Reading.{read_root}
use Rattle.definitions.specs.Opening.{opening_bytes}
use Rattle.definitions.specs.Entries.{laid, open_state, lowered_after, Outcome, root_outcome}

-- the state and what the two targets hold
pub record World : Type 0 where
  pub state : State
  pub calls : List ℕ
  pub notices : List ℕ

-- after an accepted opening, over targets that held anything: it wrote its notices
abbrev pub opening : List ℕ → Settings → List ℕ → List ℕ → World
opening text s calls notices = record { state = open_state text s; calls = calls; notices = laid 0 (opening_bytes text s) notices }

abbrev pub outcome_in : List ℕ → World → List ℕ → Outcome
outcome_in text w tape = root_outcome text w.state tape w.calls w.notices

-- after one root more, by the definition that the root entry's contract equates to
abbrev pub next : List ℕ → World → List ℕ → World
next text w tape =
    record {
      state = (outcome_in text w tape).stepped.state;
      calls = (outcome_in text w tape).calls;
      notices = (outcome_in text w tape).notices;
    }

-- after a list of roots
unfoldable pub series : List ℕ → World → List (List ℕ) → World
series text w [] = w
series text w (t ∷ ts) = series text (next text w t) ts

-- one more where the answer is acceptance
unfoldable pub if_accepted : {A : Type 0} → Result ⊤ Refusal → A → List A → List A
if_accepted (Ok tt) a rest = a ∷ rest
if_accepted (Err r) a rest = rest

-- the roots of the list that are accepted
unfoldable pub accepted_in : List ℕ → World → List (List ℕ) → List (List ℕ)
accepted_in text w [] = []
accepted_in text w (t ∷ ts) = if_accepted (outcome_in text w t).stepped.answer t (accepted_in text (next text w t) ts)

-- the tree of a tape, in a list
unfoldable pub tree_of : Parsed Root → List Root
tree_of (done r u) = r ∷ []
tree_of (stop f p) = []

unfoldable pub trees_of : List ℕ → List (List ℕ) → List Root
trees_of text [] = []
trees_of text (t ∷ ts) = tree_of (read_root text t) ++ trees_of text ts

-- "each root's calls in turn, bindings kept from root to root and new ones counted on"
unfoldable pub calls_of_all : List ℕ → Settings → List Import → List Root → List ℕ
calls_of_all text s js [] = []
calls_of_all text s js (r ∷ rs) = (lowered_after text s js r).calls ++ calls_of_all text s (lowered_after text s js r).bound rs

unfoldable pub notices_of_all : List ℕ → Settings → List Import → List Root → List ℕ
notices_of_all text s js [] = []
notices_of_all text s js (r ∷ rs) = (lowered_after text s js r).notices ++ notices_of_all text s (lowered_after text s js r).bound rs

-- "The calls so far are the call target up to the state's call fill."
abbrev pub calls_so_far : World → List ℕ
calls_so_far w = take w.state.calls w.calls

abbrev pub notices_so_far : World → List ℕ
notices_so_far w = take w.state.notices w.notices
