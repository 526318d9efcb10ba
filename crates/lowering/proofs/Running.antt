-- Lowering a tape that reads: a run that counts, and one that writes.
--     Counted, counts      what the first run tells
--     no_number, no_bound, no_notice_room, all_fits     the answers by the code's tests
--     surely_fits          what needs no counting
--     written, comes_as    what the second run comes to
-- Assumes nothing.
use Rattle.std.specs.Prelude.{Err, Ok}
use mathlib.Core.Path.{◌≡◌, refl, sym, ap, subst, ◌∙◌}
use mathlib.Core.Bool.{true, false}
use mathlib.Core.List.{List}
use Rattle.std.proofs.Common.{MutBor}
use Prim.Native.Nat.{ℕ, ◌-◌, ◌≤◌, ◌<◌, ◌^◌}
use native.Mathlib.Omega.{arith}
use lib.ListN.{length}
use lib.Dec.{ltb}
use borrow.Author.Tests.{lt-ltb, le-ltb}
use Rattle.text.proofs.Lists.{told}
use Rattle.tape.specs.declared.refusal.Refusal.TheVariants as refusal
use Rattle.definitions.specs.declared.options.Settings.{Settings}
use Rattle.definitions.specs.declared.records.Import.{Import}
use Rattle.definitions.specs.declared.state.State.{State}
use Rattle.definitions.specs.declared.state.Stepped.{Stepped}
use Rattle.definitions.specs.Judging.{done, refuse}
use Rattle.definitions.specs.Tree.{Root}
use Rattle.definitions.specs.Reading.{read_root}
use Rattle.definitions.specs.Lowering.{lower_root}
use Rattle.definitions.specs.States.{live, imports}
use Rattle.definitions.specs.Entries.{Lowered, lowered_after, fitted, moved, Outcome, outcome_by}
use Rattle.definitions.proofs.Fewness.{bound_few}
use Rattle.definitions.proofs.Notes.{root_notes}
use Rattle.store.proofs.Adding.{held_moved}
use Rattle.root_check.proofs.Done.{checked_good}
use Rattle.root_check.proofs.Readings.{root_in_order}
use Rattle.pen.specs.declared.pen.Pen.{Pen}
use Rattle.pen.specs.Emitting.{Produced, Emitted}
use Rattle.pen.proofs.Emitting.{call_room_enough, notice_room_enough}
use Rattle.pen.proofs.Measuring.{pen_of, state_stands, counted}
use Rattle.lowering.proofs.Judging.{good_tape, fits}
use Rattle.lowering.specs.Steps.{Ready, judge_tape, tape_outcome, answer_of, Comes}

-- what lowering promises of a run
abbrev pub Ran : List ℕ → State → List ℕ → Pen → Pen → Type 0
Ran text s tape p p' =
    (o : Root) (u : ℕ) → read_root text tape ≡ done o u → Produced (lower_root text s.settings o) p p'

-- ---- the run that counts

pub record Counted (text : List ℕ) (s : State) (tape : List ℕ) (call_room notice_room : ℕ) (p : Pen) : Type 0 where
  pub lowered : Lowered
  pub judges : judge_tape text s tape call_room notice_room ≡ fitted s call_room notice_room lowered
  pub full : p.at.full ≡ ltb 8 (length lowered.bound)
  pub calls : p.at.calls ≡ length lowered.calls
  pub notices : p.at.notices ≡ length lowered.notices

module _ {text : List ℕ} {s : State} {tape : List ℕ} {call_room notice_room : ℕ} (ready : Ready text s tape call_room notice_room) where
  pub counts : length s.records ≡ 8 → {calls notices : MutBor (List ℕ)} {p q : Pen} → p ≡ pen_of s calls notices 0 0 → Ran text s tape p q → Counted text s tape call_room notice_room q
  counts eight {calls} {notices} {p} {q} start run =
      let ran : Ran text s tape (pen_of s calls notices 0 0) q = subst (λ (x : Pen). Ran text s tape x q) start run in
      let good = checked_good (read_root text tape) ready.reads in
      let o = good.0 in
      let e = (ran o good.1 good.2).2 s.records (imports (live s)) (state_stands text s calls notices 0 0 eight ready.unforged.bore (omega arith) (omega arith)) in
      let few : good.1 ≤ 65535 = omega (arith, root_in_order text tape o good.1 good.2, ready.unforged.spelled.tape_short) in
      let c = counted text tape s.settings (imports (live s)) o good.1 ready.unforged.spelled.short few good.2 refl refl refl e in
      record {
        lowered = lowered_after text s.settings (imports (live s)) o;
        judges = good_tape text s tape call_room notice_room o good.1 good.2;
        full = c.0;
        calls = c.1;
        notices = c.2;
      }

module _ {text : List ℕ} {s : State} {tape : List ℕ} {call_room notice_room : ℕ} {p : Pen} (c : Counted text s tape call_room notice_room p) where
  pub no_number : p.at.full ≡ true → Err refusal.Bindings ≡ answer_of (judge_tape text s tape call_room notice_room)
  unfolding fitted refuse answer_of
  no_number h = rw (c.judges, told c.full h)

  module _ (free : p.at.full ≡ false) where
    pub no_bound : call_room - s.calls < p.at.calls → Err (refusal.Space p.at.calls) ≡ answer_of (judge_tape text s tape call_room notice_room)
    unfolding fitted refuse answer_of
    no_bound h = rw (c.judges, told c.full free, ← c.calls, lt-ltb (call_room - s.calls) p.at.calls h)

    module _ (room : p.at.calls ≤ call_room - s.calls) where
      pub no_notice_room : notice_room - s.notices < p.at.notices
          → Err (refusal.NoticeSpace p.at.notices) ≡ answer_of (judge_tape text s tape call_room notice_room)
      unfolding fitted refuse answer_of
      no_notice_room h =
          rw (c.judges, told c.full free, ← c.calls, ← c.notices, le-ltb (call_room - s.calls) p.at.calls room, lt-ltb (notice_room - s.notices) p.at.notices h)

      pub all_fits : p.at.notices ≤ notice_room - s.notices → (Ok tt) ≡ answer_of (judge_tape text s tape call_room notice_room)
      unfolding fitted refuse answer_of
      all_fits h =
          rw (c.judges, told c.full free, ← c.calls, ← c.notices, le-ltb (call_room - s.calls) p.at.calls room, le-ltb (notice_room - s.notices) p.at.notices h)

-- ---- what needs no counting

-- there is room for what a tape can give at the most, and a number for whatever is bound
pub surely_fits : {text : List ℕ} {s : State} {tape : List ℕ} {call_room notice_room r : ℕ} → Ready text s tape call_room notice_room
    → ((t : List ℕ) (z : Settings) (js : List Import) (o : Root) (u : ℕ) → length tape ≤ 65535 → read_root t tape ≡ done o u → length (lowered_after t z js o).calls ≤ r)
    → r ≤ call_room - s.calls → length tape ≤ notice_room - s.notices → answer_of (judge_tape text s tape call_room notice_room) ≡ Ok tt
unfolding fitted refuse answer_of
surely_fits {text} {s} {tape} {call_room} {notice_room} ready most room notices =
    let good = checked_good (read_root text tape) ready.reads in
    let o = good.0 in
    let js = imports (live s) in
    let l : Lowered = lowered_after text s.settings js o in
    let c : length l.calls ≤ call_room - s.calls = omega (arith, most text s.settings js o good.1 ready.unforged.spelled.tape_short good.2) in
    let n : length l.notices ≤ notice_room - s.notices =
    omega (arith, root_notes text tape s.settings js o good.1 good.2, root_in_order text tape o good.1 good.2) in
    rw (
      good_tape text s tape call_room notice_room o good.1 good.2,
      le-ltb 8 (length l.bound) (bound_few text s o ready.unforged.bore),
      le-ltb (call_room - s.calls) (length l.calls) c,
      le-ltb (notice_room - s.notices) (length l.notices) n,
    )

-- ---- the run that writes

abbrev pub after : State → Pen → Stepped
after s p =
    record {
      answer = Ok tt;
      state = record { settings = s.settings; records = p.at.store.records; count = p.at.store.count; calls = p.at.calls; notices = p.at.notices };
    }

pub written : {text : List ℕ} {s : State} {tape : List ℕ} {calls notices : MutBor (List ℕ)} {p q : Pen} → Ready text s tape (length calls.now) (length notices.now)
    → answer_of (judge_tape text s tape (length calls.now) (length notices.now)) ≡ Ok tt → length s.records ≡ 8 → length calls.now < 2 ^ 63 → length notices.now < 2 ^ 63
    → p ≡ pen_of s calls notices s.calls s.notices → Ran text s tape p q
    → Comes (tape_outcome text s tape calls.now notices.now) (after s q) q.calls.now q.notices.now
unfolding tape_outcome outcome_by lowered_after
written {text} {s} {tape} {calls} {notices} {p} {q} ready accepts eight short short' start run =
    let cs = calls.now in
    let ns = notices.now in
    let before = pen_of s calls notices s.calls s.notices in
    let ran : Ran text s tape before q = subst (λ (x : Pen). Ran text s tape x q) start run in
    let good = checked_good (read_root text tape) ready.reads in
    let o = good.0 in
    let js = imports (live s) in
    let l : Lowered = lowered_after text s.settings js o in
    let judges : judge_tape text s tape (length cs) (length ns) ≡ fitted s (length cs) (length ns) l =
    good_tape text s tape (length cs) (length ns) o good.1 good.2 in
    let f = fits s (length cs) (length ns) l (ap answer_of (sym judges) ∙ accepts) in
    let u = ready.unforged in
    let e : Emitted s.records js (lower_root text s.settings o) before q =
    (ran o good.1 good.2).2 s.records js
    (state_stands text s calls notices s.calls s.notices eight u.bore (omega (arith, u.calls_within)) (omega (arith, u.notices_within))) in
    let free : q.at.full ≡ false = e.fullness ∙ le-ltb 8 (length l.bound) f.0 in
    let x = call_room_enough e short (omega (arith, e.call_place, u.calls_within, f.1)) free in
    let y = notice_room_enough e short' (omega (arith, e.notice_place, u.notices_within, f.2)) in
    let m : after s q ≡ record { answer = Ok tt; state = moved s l } =
    (λ ι. record {
      answer = Ok tt;
      state = record { settings = s.settings; records = q.at.store.records; count = q.at.store.count; calls = x.0 ι; notices = y.0 ι };
    })
    ∙ ap (λ (t : State). record { answer = Ok tt; state = t }) (held_moved s l (e.stands.store free)) in
    rw (judges ∙ f.3) (record { answered = m; called = x.1; noticed = y.1 })

-- the targets that were lent are those that the pen held
pub comes_as : {o : Outcome} {t : Stepped} {cs cs' ns ns' : List ℕ} → Comes o t cs ns → cs' ≡ cs → ns' ≡ ns → Comes o t cs' ns'
comes_as c e f = record { answered = c.answered; called = e ∙ c.called; noticed = f ∙ c.noticed }
