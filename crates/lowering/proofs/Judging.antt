-- What lowering a root comes to (`root_outcome` of definitions, Entries), by the code's tests.
--     text_long, tape_long, ill_formed, forged    refusals 1, 2 and 12
--     unforged, judged                            what is known, and what is left to judge, behind them
--     bad_tape, not_fitting                       the tape's own refusals, and 9, 10, 11
--     good_tape, fits                             a tape that reads, and what it says of a root's output that it fits
--     equations                                   the three equations of an outcome
--     known, known_judged, going_after            where text and state are in order already, and that they are behind an accepted root
-- Assumes nothing.
use Rattle.std.specs.Prelude.{Err, Ok, Some}
use mathlib.Core.Path.{◌≡◌, refl, sym, ap, ◌∙◌}
use mathlib.Core.Bool.{true, false, not, ◌||◌}
use mathlib.Core.List.{List}
use Prim.Native.Nat.{ℕ, ◌-◌, ◌≤◌, ◌<◌}
use native.Mathlib.Omega.{arith}
use lib.ListN.{length}
use lib.Dec.{ltb}
use borrow.Author.Tests.{lt-ltb, le-ltb, ltb-false, not-false}
use Rattle.text.specs.Utf8.{first_ill}
use Rattle.tape.specs.declared.refusal.Refusal.{Refusal}
use Rattle.tape.specs.declared.refusal.Refusal.TheVariants as refusal
use Rattle.definitions.specs.declared.state.State.{State}
use Rattle.definitions.specs.declared.state.Stepped.{Stepped}
use Rattle.definitions.specs.Judging.{Parsed, done, stop, Judged, accepted, refused, refuse, refuse_at, read}
use Rattle.definitions.specs.Tree.{Root}
use Rattle.definitions.specs.Reading.{read_root}
use Rattle.definitions.specs.States.{live, imports, sound, overfilled}
use Rattle.definitions.specs.Entries.{Lowered, Outcome, lowered_after, fitted, judge_root, moved, outcome_by, root_outcome}
use Rattle.definitions.proofs.Verdicts.{past, past_at, length_laid, sound_parts, Taken, root_taken}
use Rattle.definitions.proofs.Moving.{root_sound}
use Rattle.definitions.proofs.Counting.{either_false}
use Rattle.tape.specs.declared.refusal.TapeError.{TapeError}
use Rattle.root_check.specs.Checking.{checked}
use Rattle.lowering.specs.Steps.{Text, Going, Unforged, judge_tape, tape_outcome, answer_of, Comes}

pub equations : {o : Outcome} {t : Stepped} {cs ns : List ℕ} → Comes o t cs ns → (t ≡ o.stepped) × ((cs ≡ o.calls) × (ns ≡ o.notices))
equations c = (c.answered, (c.called, c.noticed))

-- ---- what a refusal comes to

abbrev pub away : State → Refusal → Stepped
away s r = record { answer = Err r; state = s }

turned_away : (s : State) (cs ns : List ℕ) {j : Judged Lowered} {t : Stepped} {r : Refusal} → j ≡ refused r → t ≡ away s r → Comes (outcome_by s cs ns j) t cs ns
unfolding outcome_by
turned_away s cs ns e f = rw e (record { answered = f; called = refl; noticed = refl })

-- ---- by the tests before the tape is read

module _ (text : List ℕ) (s : State) (tape cs ns : List ℕ) {t : Stepped} where
  pub text_long : 65535 < length text → t ≡ away s refusal.TooLong → Comes (root_outcome text s tape cs ns) t cs ns
  unfolding root_outcome judge_root refuse
  text_long h e = turned_away s cs ns (rw (lt-ltb 65535 (length text) h)) e

  pub tape_long : length text ≤ 65535 → 65535 < length tape → t ≡ away s refusal.TooLong → Comes (root_outcome text s tape cs ns) t cs ns
  unfolding root_outcome judge_root refuse
  tape_long h k e = turned_away s cs ns (rw (le-ltb 65535 (length text) h, lt-ltb 65535 (length tape) k)) e

  pub ill_formed : (p : ℕ) → length text ≤ 65535 → length tape ≤ 65535 → first_ill text ≡ Some p → t ≡ away s (refusal.NotUtf8 p)
      → Comes (root_outcome text s tape cs ns) t cs ns
  unfolding root_outcome judge_root refuse refuse_at
  ill_formed p h k f e = turned_away s cs ns (rw (le-ltb 65535 (length text) h, le-ltb 65535 (length tape) k, f)) e

module _ (text : List ℕ) (s : State) (tape cs ns : List ℕ) (x : Text text tape) where
  pub forged : {t : Stepped} → (not (sound text s) || overfilled s (length cs) (length ns)) ≡ true → t ≡ away s refusal.Forged
      → Comes (root_outcome text s tape cs ns) t cs ns
  unfolding root_outcome judge_root refuse refuse_at
  forged f e = turned_away s cs ns (rw (le-ltb 65535 (length text) x.short, le-ltb 65535 (length tape) x.tape_short, x.formed, f)) e

  module _ (f : (not (sound text s) || overfilled s (length cs) (length ns)) ≡ false) where
    pub unforged : Unforged text s tape (length cs) (length ns)
    unforged =
        let g = either_false (not (sound text s)) (overfilled s (length cs) (length ns)) f in
        let h = either_false (ltb (length cs) s.calls) (ltb (length ns) s.notices) g.1 in
        record {
          spelled = x;
          bore = not-false (sound text s) g.0;
          calls_within = ltb-false (length cs) s.calls h.0;
          notices_within = ltb-false (length ns) s.notices h.1;
        }

    pub judged : {t : Stepped} {cs' ns' : List ℕ} → Comes (tape_outcome text s tape cs ns) t cs' ns' → Comes (root_outcome text s tape cs ns) t cs' ns'
    unfolding root_outcome tape_outcome judge_root judge_tape refuse refuse_at
    judged c = rw (le-ltb 65535 (length text) x.short, le-ltb 65535 (length tape) x.tape_short, x.formed, f) c

-- a state that is not forged has no more than eight records
pub few_records : {text : List ℕ} {s : State} {tape : List ℕ} {call_room notice_room : ℕ} → Unforged text s tape call_room notice_room → s.count ≤ 8
few_records {text} {s} u = (sound_parts text s u.bore).few

-- ---- the tape

stopped : {A B : Type 0} (x : Parsed A) (k : A → Judged B) (e : TapeError) → checked x ≡ Err e → read x k ≡ refused (refusal.Tape e.fault e.place)
unfolding checked read
stopped (done a u) k e h = let z : ◌≡◌ {A = ℕ} 0 1 = cc in absurd (omega arith)
stopped (stop g q) k e h = let y : g ≡ e.fault = cc in let z : q ≡ e.place = cc in λ ι. refused (refusal.Tape (y ι) (z ι))

was_refused : (j : Judged Lowered) {r : Refusal} → answer_of j ≡ Err r → j ≡ refused r
unfolding answer_of
was_refused (accepted l) e = let z : ◌≡◌ {A = ℕ} 0 1 = cc in absurd (omega arith)
was_refused (refused r) e = cc

was_accepted : (j : Judged Lowered) → answer_of j ≡ Ok tt → (l : Lowered) × (j ≡ accepted l)
unfolding answer_of
was_accepted (accepted l) e = (l, refl)
was_accepted (refused r) e = let z : ◌≡◌ {A = ℕ} 0 1 = cc in absurd (omega arith)

module _ (text : List ℕ) (s : State) (tape cs ns : List ℕ) {t : Stepped} where
  pub bad_tape : (e : TapeError) → checked (read_root text tape) ≡ Err e → t ≡ away s (refusal.Tape e.fault e.place)
      → Comes (tape_outcome text s tape cs ns) t cs ns
  unfolding tape_outcome judge_tape
  bad_tape e h g = turned_away s cs ns (stopped (read_root text tape) _ e h) g

  pub not_fitting : {r : Refusal} → answer_of (judge_tape text s tape (length cs) (length ns)) ≡ Err r → t ≡ away s r
      → Comes (tape_outcome text s tape cs ns) t cs ns
  unfolding tape_outcome
  not_fitting e g = turned_away s cs ns (was_refused _ e) g

pub good_tape : (text : List ℕ) (s : State) (tape : List ℕ) (call_room notice_room : ℕ) (o : Root) (u : ℕ) → read_root text tape ≡ done o u
    → judge_tape text s tape call_room notice_room ≡ fitted s call_room notice_room (lowered_after text s.settings (imports (live s)) o)
unfolding judge_tape read
good_tape text s tape call_room notice_room o u e = rw e

-- ---- what fits

pub fits : (s : State) (call_room notice_room : ℕ) (l : Lowered) → answer_of (fitted s call_room notice_room l) ≡ Ok tt
    → (length l.bound ≤ 8) × (length l.calls ≤ call_room - s.calls) × (length l.notices ≤ notice_room - s.notices)
    × (fitted s call_room notice_room l ≡ accepted l)
unfolding fitted
fits s call_room notice_room l e =
    let w = was_accepted _ e in
    let f = past _ _ _ _ w.1 in
    let g = past _ _ _ _ f.1 in
    let h = past _ _ _ _ g.1 in
    (ltb-false _ _ f.0, ltb-false _ _ g.0, ltb-false _ _ h.0, w.1 ∙ sym h.1)

-- ---- text and state that are in order already

module _ (text : List ℕ) (s : State) (tape cs ns : List ℕ) (g : Going text s (length cs) (length ns)) (short : length tape ≤ 65535) where
  in_order : Text text tape
  in_order = record { short = g.short; tape_short = short; formed = g.formed }

  not_forged : (not (sound text s) || overfilled s (length cs) (length ns)) ≡ false
  not_forged = rw (g.bore, le-ltb (length cs) s.calls g.calls_within, le-ltb (length ns) s.notices g.notices_within)

  pub known : Unforged text s tape (length cs) (length ns)
  known = unforged text s tape cs ns in_order not_forged

  pub known_judged : {t : Stepped} {cs' ns' : List ℕ} → Comes (tape_outcome text s tape cs ns) t cs' ns' → Comes (root_outcome text s tape cs ns) t cs' ns'
  known_judged c = judged text s tape cs ns in_order not_forged c

-- behind an accepted root they are
going_on : (text : List ℕ) (s : State) (tape cs ns : List ℕ) → (root_outcome text s tape cs ns).stepped.answer ≡ Ok tt
    → Going text (root_outcome text s tape cs ns).stepped.state (length (root_outcome text s tape cs ns).calls) (length (root_outcome text s tape cs ns).notices)
unfolding root_outcome outcome_by judge_root moved
going_on text s tape cs ns e = go (judge_root text s tape (length cs) (length ns)) refl e
  where
    go : (j : Judged Lowered) → judge_root text s tape (length cs) (length ns) ≡ j → (outcome_by s cs ns j).stepped.answer ≡ Ok tt
        → Going text (outcome_by s cs ns j).stepped.state (length (outcome_by s cs ns j).calls) (length (outcome_by s cs ns j).notices)
    go (accepted l) f h =
        let t : Taken text s tape (length cs) (length ns) l = root_taken text s tape (length cs) (length ns) l f in
        let long = past _ _ _ _ f in
        let ill = past_at _ _ _ _ long.1 in
        record {
          short = ltb-false 65535 (length text) (either_false (ltb 65535 (length text)) (ltb 65535 (length tape)) long.0).0;
          formed = ill.0;
          bore = root_sound text s tape (length cs) (length ns) l f;
          calls_within = rw (length_laid s.calls l.calls cs t.calls_fit) t.calls_fit;
          notices_within = rw (length_laid s.notices l.notices ns t.notices_fit) t.notices_fit;
        }
    go (refused r) f h = let z : ◌≡◌ {A = ℕ} 0 1 = cc in absurd (omega arith)

pub going_after : (text : List ℕ) (s : State) (tape cs ns : List ℕ) {t : Stepped} {cs' ns' : List ℕ} → Comes (root_outcome text s tape cs ns) t cs' ns'
    → t.answer ≡ Ok tt → Going text t.state (length cs') (length ns')
going_after text s tape cs ns {t} c e =
    rw (c.answered, c.called, c.noticed) (going_on text s tape cs ns (sym (ap (λ (x : Stepped). x.answer) c.answered) ∙ e))
