-- What acceptance says, read back through the tests that could have refused, and what bytes laid into a target leave there.
--     past, past_at, past_read     the three kinds of tests
--     length_laid, take_laid       the target after
--     sound_parts, sound_whole     a sound state is one in which six things hold
--     Taken, root_taken            what is known of an accepted root
--     records_taken                records that are accepted have room
-- Assumes nothing.
use Rattle.std.specs.Prelude.{None, Option, Some}
use mathlib.Core.Path.{◌≡◌, refl, ap, subst}
use mathlib.Core.Bool.{Bool, true, false, not, ◌&&◌}
use mathlib.Core.List.{List, [], ◌++◌}
use Prim.Native.Nat.{ℕ, ◌+◌, ◌-◌, ◌≤◌}
use native.Mathlib.Omega.{arith}
use lib.ListN.{length, take, drop, length-append, length-take, length-drop}
use lib.Seq.{take_at}
use lib.Dec.{ltb}
use borrow.Author.Tests.{ltb-false, le-ltb, not-true, not-false}
use Rattle.tape.specs.declared.refusal.Refusal.{Refusal}
use Rattle.definitions.specs.declared.state.State.{State}
use Rattle.definitions.specs.Judging.{Parsed, done, stop, Judged, accepted, refused, refuse, refuse_at, read}
use Rattle.definitions.specs.Tree.{Root}
use Rattle.definitions.specs.Reading.{read_root}
use Rattle.definitions.specs.Records.{record_tape}
use Rattle.definitions.specs.States.{spans_borne_out, forms_borne_out, live, imports, numbered_from, unrepeated, all_bindable, sound, overfilled}
use Rattle.definitions.specs.Entries.{laid, Lowered, lowered_after, fitted, judge_root, judge_writing, judge_records}
use Rattle.definitions.proofs.Counting.{never, either_false}

-- ---- tests that refuse

module _ {A : Type 0} where
  not_accepted : {B : Type 0} (r : Refusal) (a : A) → refused r ≡ accepted a → B
  not_accepted r a e = let z : ◌≡◌ {A = ℕ} 0 1 = cc in absurd (omega arith)

  pub past : (b : Bool) (r : Refusal) (j : Judged A) (a : A) → refuse b r j ≡ accepted a → (b ≡ false) × (j ≡ accepted a)
  unfolding refuse
  past true r j a e = not_accepted r a e
  past false r j a e = (refl, e)

  pub past_at : (f : Option ℕ) (r : ℕ → Refusal) (j : Judged A) (a : A) → refuse_at f r j ≡ accepted a → (f ≡ None) × (j ≡ accepted a)
  unfolding refuse_at
  past_at (Some p) r j a e = not_accepted (r p) a e
  past_at None r j a e = (refl, e)

  pub past_read : {B : Type 0} (p : Parsed B) (k : B → Judged A) (a : A) → read p k ≡ accepted a
      → (b : B) × (u : ℕ) × (p ≡ done b u) × (k b ≡ accepted a)
  unfolding read
  past_read (done b u) k a e = (b, u, refl, e)
  past_read (stop f p) k a e = not_accepted _ a e

  pub accepted_same : (a b : A) → accepted a ≡ accepted b → a ≡ b
  accepted_same a b e = cc

-- ---- bytes laid into a target

module _ (at : ℕ) (bs target : List ℕ) (room : at + length bs ≤ length target) where
  pub length_laid : length (laid at bs target) ≡ length target
  unfolding laid
  length_laid = simp (length-append, length-take, length-drop) (omega arith)

  pub take_laid : take (at + length bs) (laid at bs target) ≡ take at target ++ bs
  unfolding laid
  take_laid =
      take_at (take at target ++ bs) (drop (at + length bs) target) (at + length bs) (simp (length-append, length-take) (omega arith))

-- ---- sound states

pub record Sound (text : List ℕ) (s : State) : Type 0 where
  pub few : s.count ≤ 8
  pub spans : spans_borne_out text s.settings.options ≡ true
  pub forms : forms_borne_out text s.settings ≡ true
  pub gapless : numbered_from 0 (live s) ≡ true
  pub apart : unrepeated [] (imports (live s)) ≡ true
  pub made : all_bindable s.settings (imports (live s)) ≡ true

six : (a b c d e f : Bool) → (a && b && c && d && e && f) ≡ true
    → (a ≡ true) × (b ≡ true) × (c ≡ true) × (d ≡ true) × (e ≡ true) × (f ≡ true)
six true true true true true f h = (refl, refl, refl, refl, refl, h)
six false b c d e f h = never h
six true false c d e f h = never h
six true true false d e f h = never h
six true true true false e f h = never h
six true true true true false f h = never h

pub sound_parts : (text : List ℕ) (s : State) → sound text s ≡ true → Sound text s
unfolding sound
sound_parts text s h =
    let p =
    six (not (ltb 8 s.count)) (spans_borne_out text s.settings.options) (forms_borne_out text s.settings) (numbered_from 0 (live s))
    (unrepeated [] (imports (live s))) (all_bindable s.settings (imports (live s))) h in
    record {
      few = ltb-false 8 s.count (not-true (ltb 8 s.count) p.0);
      spans = p.1;
      forms = p.2;
      gapless = p.3;
      apart = p.4;
      made = p.5;
    }

pub sound_whole : (text : List ℕ) (s : State) → Sound text s → sound text s ≡ true
unfolding sound
sound_whole text s h = rw (le-ltb 8 s.count h.few, h.spans, h.forms, h.gapless, h.apart, h.made)

-- ---- an accepted root

pub record Taken (text : List ℕ) (s : State) (tape : List ℕ) (call_room notice_room : ℕ) (l : Lowered) : Type 0 where
  pub bore : sound text s ≡ true
  pub calls_within : s.calls ≤ call_room
  pub notices_within : s.notices ≤ notice_room
  pub root : Root
  pub used : ℕ
  pub reads : read_root text tape ≡ done root used
  pub lowers : lowered_after text s.settings (imports (live s)) root ≡ l
  pub few : length l.bound ≤ 8
  pub calls_fit : s.calls + length l.calls ≤ call_room
  pub notices_fit : s.notices + length l.notices ≤ notice_room

module _ (text : List ℕ) (s : State) (tape : List ℕ) (call_room notice_room : ℕ) (l : Lowered) where
  pub root_taken : judge_root text s tape call_room notice_room ≡ accepted l → Taken text s tape call_room notice_room l
  unfolding judge_root fitted
  root_taken e =
      let a = past _ _ _ _ e in
      let b = past_at _ _ _ _ a.1 in
      let c = past _ _ _ _ b.1 in
      let forged = either_false (not (sound text s)) (overfilled s call_room notice_room) c.0 in
      let over = either_false (ltb call_room s.calls) (ltb notice_room s.notices) forged.1 in
      let d = past_read _ _ _ c.1 in
      let f = past _ _ _ _ d.3 in
      let g = past _ _ _ _ f.1 in
      let h = past _ _ _ _ g.1 in
      let m = lowered_after text s.settings (imports (live s)) d.0 in
      let i : m ≡ l = accepted_same m l h.1 in
      let cw : s.calls ≤ call_room = ltb-false call_room s.calls over.0 in
      let nw : s.notices ≤ notice_room = ltb-false notice_room s.notices over.1 in
      let cf : length m.calls ≤ call_room - s.calls = ltb-false _ _ g.0 in
      let nf : length m.notices ≤ notice_room - s.notices = ltb-false _ _ h.0 in
      let fw : length m.bound ≤ 8 = ltb-false 8 (length m.bound) f.0 in
      record {
        bore = not-false (sound text s) forged.0;
        calls_within = cw;
        notices_within = nw;
        root = d.0;
        used = d.1;
        reads = d.2;
        lowers = i;
        few = rw i at fw;
        calls_fit = let q : length m.calls ≡ length l.calls = ap (λ (x : Lowered). length x.calls) i in omega arith;
        notices_fit = let q : length m.notices ≡ length l.notices = ap (λ (x : Lowered). length x.notices) i in omega arith;
      }

-- ---- written records

pub records_taken : (text : List ℕ) (s : State) (k : ℕ) (t : List ℕ) → judge_records text s k ≡ accepted t → length t ≤ k
unfolding judge_records judge_writing
records_taken text s k t e =
    let a = past _ _ _ _ e in
    let b = past_at _ _ _ _ a.1 in
    let c = past _ _ _ _ b.1 in
    let d = past _ _ _ _ c.1 in
    let tape = record_tape s.settings.mode (live s) in
    subst (λ (l : List ℕ). length l ≤ k) (accepted_same tape t d.1) (ltb-false k (length tape) d.0)
