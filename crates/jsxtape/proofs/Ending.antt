-- What the entries of a job with one root come to is what `jsxtape` (definitions, Program) prints.
--     root_refused, records_refused, all_written     by the answers of the root and of the records
--     job_refused, job_fresh, job_opened             by the answer of the opening
--     parts                                          what is printed is a part of each target
-- Assumes nothing.
use Rattle.std.specs.Prelude.{Err, Ok, Result}
use mathlib.Core.Path.{◌≡◌, refl, sym, ap, subst, ◌∙◌}
use mathlib.Core.List.{List, ◌++◌}
use Prim.Native.Nat.{ℕ, ◌+◌, ◌≤◌, zero-le}
use native.Mathlib.Omega.{arith}
use lib.ListN.{length, take}
use Rattle.tape.specs.declared.refusal.Refusal.{Refusal}
use Rattle.definitions.specs.declared.options.Settings.{Settings}
use Rattle.definitions.specs.declared.state.State.{State}
use Rattle.definitions.specs.declared.state.Stepped.{Stepped}
use Rattle.definitions.specs.Judging.{Judged, accepted, refused}
use Rattle.definitions.specs.Opening.{opening_bytes, judge_opening}
use Rattle.definitions.specs.Entries.{laid, opened_by, opened, open_state, Lowered, judge_root, moved, outcome_by, root_outcome, judge_records, records_answer, records_target}
use Rattle.definitions.specs.Program.{Printed, printed, printed_refusal, room, print_records, print_root, print_opening, jsxtape}
use Rattle.definitions.proofs.Verdicts.{take_laid, root_taken, records_taken}
use Rattle.definitions.proofs.Openings.{opening_opens}
use Rattle.definitions.proofs.RootSeries.{front_laid}
use Rattle.jsxtape.specs.declared.job.Targets.{Targets}
use Rattle.jsxtape.specs.declared.job.Written.{Written}
use Rattle.jsxtape.specs.Endings.{shown, most, Ends}

-- "Each of its targets holds 65,536 bytes"
pub record Rooms (calls notices records : List ℕ) : Type 0 where
  pub calls_room : length calls ≡ room
  pub notices_room : length notices ≡ room
  pub records_room : length records ≡ room

-- ---- a refusal ends the job

turned_away : (p : Printed) (r : Refusal) (to : Targets) → p ≡ printed_refusal r → Ends p (Err r) to
unfolding shown most
turned_away p r to e = record { shows = sym e; within = zero-le }

-- ---- records

records_by : (w : Result ℕ Refusal) (j : Judged (List ℕ)) (r : Refusal) → w ≡ records_answer j → w ≡ Err r → j ≡ refused r
unfolding records_answer
records_by w (accepted t) r e f = let z : ◌≡◌ {A = ℕ} 0 1 = cc in absurd (omega arith)
records_by w (refused q) r e f = cc

records_all : (w : Result ℕ Refusal) (j : Judged (List ℕ)) (n : ℕ) → w ≡ records_answer j → w ≡ Ok n → (t : List ℕ) × (j ≡ accepted t) × (n ≡ length t)
unfolding records_answer
records_all w (accepted t) n e f = (t, refl, cc)
records_all w (refused r) n e f = let z : ◌≡◌ {A = ℕ} 0 1 = cc in absurd (omega arith)

-- ---- a root and the records after it

module _ (text : List ℕ) (s : State) (root calls notices records : List ℕ) (f : s.calls ≡ 0) (h : Rooms calls notices records) where
  -- the notices before the root's
  abbrev noticed : List ℕ
  noticed = take s.notices notices

  abbrev judged : Judged Lowered
  judged = judge_root text s root room room

  rooms : root_outcome text s root calls notices ≡ outcome_by s calls notices judged
  unfolding root_outcome
  rooms = rw (h.calls_room, h.notices_room)

  pub root_refused : (x : Stepped) (r : Refusal) (to : Targets) → x ≡ (root_outcome text s root calls notices).stepped → x.answer ≡ Err r
      → Ends (print_root text noticed s judged) (Err r) to
  unfolding print_root outcome_by
  root_refused x r to e g = turned_away _ r to (go judged (sym (ap (λ (y : Stepped). y.answer) (e ∙ ap (λ o. o.stepped) rooms)) ∙ g))
    where
      go : (j : Judged Lowered) → (outcome_by s calls notices j).stepped.answer ≡ Err r → print_root text noticed s j ≡ printed_refusal r
      go (accepted l) i = let z : ◌≡◌ {A = ℕ} 0 1 = cc in absurd (omega arith)
      go (refused q) i = let z : q ≡ r = cc in ap printed_refusal z

  -- what is known where the root is accepted
  root_accepted : (x : Stepped) → x ≡ (root_outcome text s root calls notices).stepped → x.answer ≡ Ok tt
      → (l : Lowered) × (judged ≡ accepted l) × (x.state ≡ moved s l)
  unfolding outcome_by
  root_accepted x e g =
      let i = e ∙ ap (λ o. o.stepped) rooms in
      let k = go judged (sym (ap (λ (y : Stepped). y.answer) i) ∙ g) in
      (k.0, k.1, ap (λ (y : Stepped). y.state) i ∙ ap (λ j. (outcome_by s calls notices j).stepped.state) k.1)
    where
      go : (j : Judged Lowered) → (outcome_by s calls notices j).stepped.answer ≡ Ok tt → (l : Lowered) × (j ≡ accepted l)
      go (accepted l) i = (l, refl)
      go (refused q) i = let z : ◌≡◌ {A = ℕ} 0 1 = cc in absurd (omega arith)

  -- with the answer and the target of the records
  module _ (x : Stepped) (w : Result ℕ Refusal) (e : x ≡ (root_outcome text s root calls notices).stepped) (g : x.answer ≡ Ok tt)
      (v : w ≡ records_answer (judge_records text x.state (length records))) where
    abbrev kept : (l : Lowered) × (judged ≡ accepted l) × (x.state ≡ moved s l)
    kept = root_accepted x e g

    after : judge_records text x.state (length records) ≡ judge_records text (moved s kept.0) room
    after = ap (λ (y : State). judge_records text y (length records)) kept.2 ∙ ap (judge_records text (moved s kept.0)) h.records_room

    prints : print_root text noticed s judged ≡ print_records noticed kept.0 (judge_records text (moved s kept.0) room)
    unfolding print_root
    prints = ap (print_root text noticed s) kept.1

    pub records_refused : (r : Refusal) (to : Targets) → w ≡ Err r → Ends (print_root text noticed s judged) (Err r) to
    unfolding print_records
    records_refused r to k = turned_away _ r to (prints ∙ ap (print_records noticed kept.0) (records_by w _ r (v ∙ ap records_answer after) k))

    pub all_written : (n : ℕ) (to : Targets) → w ≡ Ok n → to.calls ≡ (root_outcome text s root calls notices).calls
        → to.notices ≡ (root_outcome text s root calls notices).notices → to.records ≡ records_target records (judge_records text x.state (length records))
        → Ends (print_root text noticed s judged) (Ok (record { calls = x.state.calls; notices = x.state.notices; records = n })) to
    unfolding print_records shown most outcome_by moved records_target
    all_written n to k c d b =
        let l = kept.0 in
        let y = records_all w _ n (v ∙ ap records_answer after) k in
        let t = y.0 in
        let taken = root_taken text s root room room l kept.1 in
        let came = ap (outcome_by s calls notices) kept.1 in
        let i : x.state.calls ≡ s.calls + length l.calls = ap (λ (q : State). q.calls) kept.2 in
        let j : x.state.notices ≡ s.notices + length l.notices = ap (λ (q : State). q.notices) kept.2 in
        let fit : length t ≤ room = records_taken text (moved s l) room t y.1 in
        let c' : to.calls ≡ laid s.calls l.calls calls = c ∙ ap (λ o. o.calls) (rooms ∙ came) in
        let d' : to.notices ≡ laid s.notices l.notices notices = d ∙ ap (λ o. o.notices) (rooms ∙ came) in
        let b' : to.records ≡ laid 0 t records = b ∙ ap (records_target records) (after ∙ y.1) in
        let p : take x.state.calls to.calls ≡ l.calls =
        (λ ι. take (i ι) (c' ι)) ∙ take_laid s.calls l.calls calls (omega (arith, taken.calls_fit, h.calls_room)) ∙ ap
        (λ (m : ℕ). take m calls ++ l.calls) f in
        let q : take x.state.notices to.notices ≡ noticed ++ l.notices =
        (λ ι. take (j ι) (d' ι)) ∙ take_laid s.notices l.notices notices (omega (arith, taken.notices_fit, h.notices_room)) in
        let m : n ≡ 0 + length t = omega (arith, y.2) in
        let u : take n to.records ≡ t = (λ ι. take (m ι) (b' ι)) ∙ take_laid 0 t records (omega (arith, fit, h.records_room)) in
        record {
          shows = (λ ι. printed (p ι) (q ι) (u ι)) ∙ sym (prints ∙ ap (print_records noticed l) y.1);
          within = (omega (arith, taken.calls_fit, i), omega (arith, taken.notices_fit, j), omega (arith, fit, y.2));
        }

-- ---- the opening

module _ (job text root notices : List ℕ) (h : length notices ≡ room) (x : Stepped) (after : List ℕ) (e : x ≡ (opened text job notices).stepped)
    (n : after ≡ (opened text job notices).notices) where
  abbrev judged_opening : Judged Settings
  judged_opening = judge_opening text job room

  opening_judged : opened text job notices ≡ opened_by text notices judged_opening
  unfolding opened
  opening_judged = ap (λ (k : ℕ). opened_by text notices (judge_opening text job k)) h

  pub job_refused : (r : Refusal) (to : Targets) → x.answer ≡ Err r → Ends (jsxtape job text root) (Err r) to
  unfolding jsxtape print_opening opened_by
  job_refused r to g = turned_away _ r to (go judged_opening (sym (ap (λ (y : Stepped). y.answer) (e ∙ ap (λ o. o.stepped) opening_judged)) ∙ g))
    where
      go : (j : Judged Settings) → (opened_by text notices j).stepped.answer ≡ Err r → print_opening text root j ≡ printed_refusal r
      go (accepted s) i = let z : ◌≡◌ {A = ℕ} 0 1 = cc in absurd (omega arith)
      go (refused q) i = let z : q ≡ r = cc in ap printed_refusal z

  job_accepted : x.answer ≡ Ok tt
      → (s : Settings) × (judged_opening ≡ accepted s) × (x.state ≡ open_state text s) × (after ≡ laid 0 (opening_bytes text s) notices)
  unfolding opened_by
  job_accepted g =
      let i = e ∙ ap (λ o. o.stepped) opening_judged in
      let k = go judged_opening (sym (ap (λ (y : Stepped). y.answer) i) ∙ g) in (
        k.0,
        k.1,
        ap (λ (y : Stepped). y.state) i ∙ ap (λ j. (opened_by text notices j).stepped.state) k.1,
        n ∙ ap (λ o. o.notices) opening_judged ∙ ap (λ j. (opened_by text notices j).notices) k.1,
      )
    where
      go : (j : Judged Settings) → (opened_by text notices j).stepped.answer ≡ Ok tt → (s : Settings) × (j ≡ accepted s)
      go (accepted s) i = (s, refl)
      go (refused q) i = let z : ◌≡◌ {A = ℕ} 0 1 = cc in absurd (omega arith)

  pub job_fresh : x.answer ≡ Ok tt → x.state.calls ≡ 0
  job_fresh g = ap (λ (s : State). s.calls) (job_accepted g).2

  -- the opening's notices stand at the front of their target
  job_noticed : (g : x.answer ≡ Ok tt) → take x.state.notices after ≡ opening_bytes text (job_accepted g).0
  job_noticed g =
      let k = job_accepted g in
      let b = opening_bytes text k.0 in
      let fits = (opening_opens text job room k.0 k.1).fits in
      (λ ι. take (k.2 ι).notices (k.3 ι)) ∙ front_laid b notices (omega (arith, fits, h))

  pub job_opened : (y : Result Written Refusal) (to : Targets) → x.answer ≡ Ok tt
      → Ends (print_root text (take x.state.notices after) x.state (judge_root text x.state root room room)) y to
      → Ends (jsxtape job text root) y to
  unfolding jsxtape print_opening
  job_opened y to g c =
      let k = job_accepted g in
      let b = job_noticed g in
      subst (λ (p : Printed). Ends p y to)
      ((λ ι. print_root text (b ι) (k.2 ι) (judge_root text (k.2 ι) root room room)) ∙ sym (ap (print_opening text root) k.1)) c

-- ---- what is printed

pub parts : (e : Result Written Refusal) (w : Written) → e ≡ Ok w → most e room → (w.calls ≤ room) × (w.notices ≤ room) × (w.records ≤ room)
unfolding most
parts e w i m = subst (λ (x : Result Written Refusal). most x room) i m
