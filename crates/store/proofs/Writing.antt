-- Text and state as `judge_state` judges them, and what is written behind it.
--     state_short, state_sound        what an accepted answer says of text and state
--     state_refused, state_accepted   what an entry answers and leaves in its target
-- Assumes nothing.
use Rattle.std.specs.Prelude.{Err, Ok, Result, ⊤}
use mathlib.Core.Path.{◌≡◌, refl, ap, ◌∙◌}
use mathlib.Core.Bool.{true}
use mathlib.Core.List.{List, []}
use Prim.Native.Nat.{ℕ, ◌≤◌}
use lib.ListN.{length}
use borrow.Author.Tests.{ltb-false, not-false}
use Rattle.tape.specs.declared.refusal.Refusal.{Refusal}
use Rattle.definitions.specs.declared.state.State.{State}
use Rattle.definitions.specs.Judging.{Judged, accepted}
use Rattle.definitions.specs.States.{sound}
use Rattle.definitions.specs.Entries.{judge_writing, records_answer, records_target}
use Rattle.definitions.proofs.Verdicts.{past, past_at}
use Rattle.records.proofs.Writing.{Comes}
use Rattle.store.specs.Judging.{behind}

module _ (text : List ℕ) (s : State) {a : Result ⊤ Refusal} (f : (j : Judged (List ℕ)) → judge_writing text s j ≡ behind a j) where
  clear : a ≡ Ok tt → judge_writing text s (accepted []) ≡ accepted []
  unfolding behind
  clear e = f (accepted []) ∙ ap (λ (x : Result ⊤ Refusal). behind x (accepted [])) e

  pub state_short : a ≡ Ok tt → length text ≤ 65535
  unfolding judge_writing
  state_short e = ltb-false 65535 (length text) (past _ _ _ _ (clear e)).0

  pub state_sound : a ≡ Ok tt → sound text s ≡ true
  unfolding judge_writing
  state_sound e = not-false _ (past _ _ _ _ (past_at _ _ _ _ (past _ _ _ _ (clear e)).1).1).0

  pub state_refused : (x : Refusal) (j : Judged (List ℕ)) (o : List ℕ) → a ≡ Err x → Comes (judge_writing text s j) (Err x) o o
  unfolding behind records_answer records_target
  state_refused x j o e = rw (f j, e) (refl, refl)

  pub state_accepted : (j : Judged (List ℕ)) (o : List ℕ) {w : Result ℕ Refusal} {o' : List ℕ} → a ≡ Ok tt → Comes j w o o' → Comes (judge_writing text s j) w o o'
  unfolding behind
  state_accepted j o e h = rw (f j, e) h
