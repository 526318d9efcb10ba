-- Bytes that are no state's are refused as forged (specs, Unread).
-- Assumes nothing.
use Rattle.std.specs.Prelude.{None, Option, unwrap_or}
use mathlib.Core.Path.{◌≡◌, refl, ap, ◌∙◌}
use mathlib.Core.Bool.{Bool, true, false, not, ◌||◌}
use mathlib.Core.List.{List}
use Prim.Native.Nat.{ℕ}
use lib.ListN.{length}
use Rattle.text.specs.Utf8.{first_ill}
use Rattle.tape.specs.declared.refusal.Refusal.{Refusal}
use Rattle.tape.specs.declared.refusal.Refusal.TheVariants as refusal
use Rattle.definitions.specs.declared.state.State.{State}
use Rattle.definitions.specs.Judging.{Judged, refused, refuse, refuse_at, too_long}
use Rattle.definitions.specs.States.{sound, overfilled}
use Rattle.definitions.specs.Entries.{Lowered, judge_root, outcome_by, root_outcome, judge_writing, judge_records, records_answer}
use Rattle.definitions.specs.Series.{World}
use Rattle.lowering.specs.RootLists.{Run, judge_list, judged_run, run}
use Rattle.packing.specs.Packed.{no_state, unpacked}
use Rattle.jsxlib.specs.Entries.{state_from}
use Rattle.jsxlib.specs.Unread.{RootUnread, ListUnread, RecordsUnread}

module _ {A : Type 0} where
  pass : (b : Bool) (r : Refusal) (j : Judged A) → b ≡ false → refuse b r j ≡ j
  unfolding refuse
  pass b r j e = ap (λ (c : Bool). refuse c r j) e

  stop : (b : Bool) (r : Refusal) (j : Judged A) → b ≡ true → refuse b r j ≡ refused r
  unfolding refuse
  stop b r j e = ap (λ (c : Bool). refuse c r j) e

  fair : (f : Option ℕ) (r : ℕ → Refusal) (j : Judged A) → f ≡ None → refuse_at f r j ≡ j
  unfolding refuse_at
  fair f r j e = ap (λ (g : Option ℕ). refuse_at g r j) e

-- the state that stands for such bytes has over 8 records
unsound : (text : List ℕ) → sound text no_state ≡ false
unfolding sound
unsound text = refl

unsound_from : (text state : List ℕ) → unpacked state ≡ None → sound text (state_from state) ≡ false
unsound_from text state e = ap (λ (f : Option State). sound text (unwrap_or f no_state)) e ∙ unsound text

root_judged : (text : List ℕ) (s : State) (tape : List ℕ) (m n : ℕ) → (too_long text || too_long tape) ≡ false → first_ill text ≡ None → sound text s ≡ false
    → judge_root text s tape m n ≡ refused refusal.Forged
unfolding judge_root
root_judged text s tape m n h g q = pass _ _ _ h ∙ fair _ _ _ g ∙ stop _ _ _ (ap (λ (b : Bool). not b || overfilled s m n) q)

pub root_unread : RootUnread
unfolding root_outcome outcome_by
root_unread text state tape calls notices e h g =
    ap (λ (j : Judged Lowered). (outcome_by (state_from state) calls notices j).stepped.answer)
    (root_judged text (state_from state) tape (length calls) (length notices) h g (unsound_from text state e))

pub list_unread : ListUnread
unfolding run judged_run judge_list
list_unread text state roots calls notices e h g =
    let w : World = record { state = state_from state; calls = calls; notices = notices } in
    ap (λ (j : Judged Run). (judged_run w j).answer)
    (pass _ _ _ h ∙ fair _ _ _ g
    ∙ stop _ _ _ (ap (λ (b : Bool). not b || overfilled (state_from state) (length calls) (length notices)) (unsound_from text state e)))

pub records_unread : RecordsUnread
unfolding judge_records judge_writing records_answer
records_unread text state room e h g =
    ap records_answer (pass _ _ _ h ∙ fair _ _ _ g ∙ stop _ _ _ (ap (λ (b : Bool). not b) (unsound_from text state e)))
