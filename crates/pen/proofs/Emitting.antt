-- What is written in parts (`Emitted` of specs, Emitting).
--     emitted_none, emitted_then       the empty output, and one output behind another
--     produced_none, produced_then, produced_as     the same of any pen that stands
--     emitted_over, produced_over      an output over a shorter one from the same place, a command over one that came to nothing: as if the first had not been written
--     emitted_as                       the same output, put together in another way
--     call_length, notice_length       the targets keep their lengths
--     emitted_empty, emitted_once      into empty targets; the pen after does not depend on the targets
--     call_room_enough, notice_room_enough           place and target after, where there is room
--     standing_full, was_free          what a pen's `full` says
--     lent_then, lent_none             the targets stay those that were lent
-- Assumes nothing.
use Rattle.std.proofs.Common.{◌≡◌, ℕ, ◌+◌, ◌^◌, ◌<◌, ◌≤◌, Bool, true, false, ◌||◌, ltb, List, [], ◌++◌, length, take, drop, sym, refl, ap, ◌∙◌, subst, arith, length-append, ltb-true, le-ltb, lt-ltb}
use lib.Seq.{sets, length-sets}
use Rattle.tape.specs.Targets.{Wrote}
use Rattle.tape.proofs.Targets.{wrote_then, wrote_room, sets_nil}
use Rattle.definitions.specs.declared.records.Import.{Import}
use Rattle.definitions.specs.declared.records.Record.{Record}
use Rattle.definitions.specs.Lowering.{Output, put, commands_of, notices_of}
use Rattle.definitions.specs.Store.{bound_by, bound_after, numbered, numbered_all}
use Rattle.definitions.specs.declared.call_tape.Bare.{Bare}
use Rattle.definitions.specs.Calls.{bytes_of, call_bytes, notice_bytes}
use Rattle.definitions.specs.Entries.{laid}
use Rattle.definitions.proofs.Counting.{either_false}
use Rattle.pen.specs.declared.pen.Pen.{Pen}
use Rattle.pen.specs.Emitting.{calls_from, notices_from, bound_from, Stands, Lent, Short, Emitted, Produced}
use Rattle.pen.proofs.Outputs.{bound_append, calls_append, notices_append, bound_longer}
use Rattle.pen.proofs.Overwriting.{sets_over}

-- ---- where numbers run out

-- a part that has no number left leaves none to the whole
full_then : (x : Bool) (m n : ℕ) → m ≤ n → ((x || ltb 8 m) || ltb 8 n) ≡ (x || ltb 8 n)
full_then true m n h = refl
full_then false m n h = go (ltb 8 m) refl
  where
    go : (b : Bool) → ltb 8 m ≡ b → (b || ltb 8 n) ≡ ltb 8 n
    go true e = sym (lt-ltb 8 n (omega (arith, ltb-true 8 m e)))
    go false e = refl

full_same : (x : Bool) (n : ℕ) → (x ≡ false → n ≤ 8) → x ≡ (x || ltb 8 n)
full_same true n h = refl
full_same false n h = sym (le-ltb 8 n (h refl))

-- a pen that stands where js is bound has not run out of numbers by js alone
pub standing_full : {a : List Record} {js : List Import} {p : Pen} → Stands a js p → p.at.full ≡ (p.at.full || ltb 8 (length js))
standing_full {js = js} {p = p} s = full_same p.at.full (length js) (λ e. (s.store e).few)

-- a pen that is not full now was not full before
pub was_free : {a : List Record} {js : List Import} {os : List Output} {p p' : Pen}
    → Emitted a js os p p' → p'.at.full ≡ false → p.at.full ≡ false
was_free {js = js} {os = os} {p = p} e free = (either_false p.at.full (ltb 8 (length (bound_from js os))) (sym e.fullness ∙ free)).0

-- ---- the targets that were lent

pub lent_none : {p : Pen} → Lent p p
lent_none = record { calls = refl; notices = refl }

pub lent_then : {p p₁ p₂ : Pen} → Lent p p₁ → Lent p₁ p₂ → Lent p p₂
lent_then s t = record { calls = t.calls ∙ s.calls; notices = t.notices ∙ s.notices }

-- ---- nothing

pub emitted_none : {a : List Record} {js : List Import} {p : Pen} → Stands a js p → Emitted a js [] p p
unfolding commands_of notices_of bound_after numbered_all call_bytes notice_bytes
emitted_none s = record {
  fullness = standing_full s;
  stands = s;
  call_place = omega (arith, s.calls_small);
  calls = λ free. refl;
  notice_place = omega (arith, s.notices_small);
  notices = refl;
}

pub produced_none : {p : Pen} → Short p → Produced [] p p
produced_none short = (lent_none, short, λ a js s. emitted_none s)

-- ---- one output behind another

module _ {a : List Record} {js : List Import} {os₁ os₂ : List Output} {p p₁ p₂ : Pen} where
  pub emitted_then : Short p → Stands a js p → Emitted a js os₁ p p₁ → Emitted a (bound_from js os₁) os₂ p₁ p₂ → Emitted a js (os₁ ++ os₂) p p₂
  emitted_then short s e f = record {
    fullness =
        f.fullness
        ∙ ap (λ (b : Bool). b || ltb 8 (length (bound_from (bound_from js os₁) os₂))) e.fullness
        ∙ full_then p.at.full (length (bound_from js os₁)) (length (bound_from (bound_from js os₁) os₂)) (bound_longer (bound_from js os₁) os₂)
        ∙ ap (λ (l : List Import). p.at.full || ltb 8 (length l)) (sym (bound_append js os₁ os₂));
    stands = rw (bound_append js os₁ os₂) f.stands;
    call_place = omega (arith, e.call_place, f.call_place, ap length (calls_append js os₁ os₂), length-append (calls_from js os₁) (calls_from (bound_from js os₁) os₂));
    calls = λ free.
        let w : Wrote p.calls.now p₁.calls.now p.at.calls p₁.at.calls (calls_from js os₁) = record { next = e.call_place; holds = e.calls (was_free f free) } in
        let v : Wrote p₁.calls.now p₂.calls.now p₁.at.calls p₂.at.calls (calls_from (bound_from js os₁) os₂) = record { next = f.call_place; holds = f.calls free } in
        rw (calls_append js os₁ os₂) (wrote_then short.calls w v).holds;
    notice_place = omega (arith, e.notice_place, f.notice_place, ap length (notices_append os₁ os₂), length-append (notices_from os₁) (notices_from os₂));
    notices =
        let w : Wrote p.notices.now p₁.notices.now p.at.notices p₁.at.notices (notices_from os₁) = record { next = e.notice_place; holds = e.notices } in
        let v : Wrote p₁.notices.now p₂.notices.now p₁.at.notices p₂.at.notices (notices_from os₂) = record { next = f.notice_place; holds = f.notices } in
        rw (notices_append os₁ os₂) (wrote_then short.notices w v).holds;
  }

pub produced_then : {os₁ os₂ : List Output} {p p₁ p₂ : Pen} → Produced os₁ p p₁ → Produced os₂ p₁ p₂ → Produced (os₁ ++ os₂) p p₂
produced_then {os₁} v w = (lent_then v.0 w.0, v.1, λ a js s. let e = v.2 a js s in emitted_then v.1 s e (w.2 a (bound_from js os₁) e.stands))

pub emitted_as : {a : List Record} {js : List Import} {os os' : List Output} {p p' : Pen} → os ≡ os' → Emitted a js os p p' → Emitted a js os' p p'
emitted_as {a} {js} {p = p} {p'} e w = subst (λ (o : List Output). Emitted a js o p p') e w

pub produced_as : {os os' : List Output} {p p' : Pen} → os ≡ os' → Produced os p p' → Produced os' p p'
produced_as e w = (w.0, w.1, λ a js s. emitted_as e (w.2 a js s))

-- ---- one output over another

-- the second begins where the first began and is at least as long
pub emitted_over : {a : List Record} {js : List Import} {os₁ os₂ : List Output} {p p₁ p₂ : Pen} → length (calls_from js os₁) ≤ length (calls_from js os₂)
    → (p.at.full ≡ false → p₁.at.full ≡ false) → Emitted a js os₁ p p₁ → Emitted a js os₂ (record p { calls = p₁.calls }) p₂ → Emitted a js os₂ p p₂
emitted_over {js = js} {os₁} {os₂} {p} {p₁} longer free e f = record {
  fullness = f.fullness;
  stands = f.stands;
  call_place = f.call_place;
  calls = λ free₂.
      f.calls free₂
      ∙ ap (λ (l : List ℕ). sets l p.at.calls (calls_from js os₂)) (e.calls (free (was_free f free₂)))
      ∙ sets_over p.calls.now p.at.calls (calls_from js os₁) (calls_from js os₂) longer;
  notice_place = f.notice_place;
  notices = f.notices;
}

-- a command over one that came to nothing: the second begins where the first began
pub produced_over : {c d : Bare} {p p₁ p₂ : Pen} → Produced (put c) p p₁ → Produced (put d) (record p₁ { at = record p₁.at { calls = p.at.calls } }) p₂ → Produced (put d) p p₂
unfolding commands_of notices_of bound_after bound_by numbered_all numbered call_bytes bytes_of notice_bytes
produced_over {c} {d} {p} {p₁} {p₂} v w = (record { calls = w.0.calls ∙ v.0.calls; notices = w.0.notices ∙ v.0.notices }, v.1, go)
  where
    go : (a : List Record) (js : List Import) → Stands a js p → Emitted a js (put d) p p₂
    go a js s =
        let e : Emitted a js (put c) p p₁ = v.2 a js s in
        let f : Emitted a js (put d) (record p₁ { at = record p₁.at { calls = p.at.calls } }) p₂ =
        w.2 a js (record { store = e.stands.store; calls_small = s.calls_small; notices_small = e.stands.notices_small }) in
        let full : p₁.at.full ≡ p.at.full = e.fullness ∙ sym (standing_full s) in
        record {
          fullness = f.fullness ∙ ap (λ (b : Bool). b || ltb 8 (length js)) full;
          stands = f.stands;
          call_place = f.call_place;
          calls = λ free.
              f.calls free
              ∙ ap (λ (l : List ℕ). sets l p.at.calls (calls_from js (put d))) (e.calls (was_free f free))
              ∙ sets_over p.calls.now p.at.calls (calls_from js (put c)) (calls_from js (put d)) (omega arith);
          notice_place = omega (arith, e.notice_place, f.notice_place);
          notices = f.notices ∙ e.notices;
        }

-- ---- the targets

-- with nothing in them
abbrev pub emptied : Pen → Pen
emptied p = record p { calls = record p.calls { now = [] }; notices = record p.notices { now = [] } }

module _ {a : List Record} {js : List Import} {os : List Output} {p p' : Pen} (e : Emitted a js os p p') where
  pub call_length : p'.at.full ≡ false → length p'.calls.now ≡ length p.calls.now
  call_length free = ap length (e.calls free) ∙ length-sets p.calls.now p.at.calls (calls_from js os)

  pub notice_length : length p'.notices.now ≡ length p.notices.now
  notice_length = ap length e.notices ∙ length-sets p.notices.now p.at.notices (notices_from os)

  -- counting is writing into empty targets
  pub emitted_empty : Emitted a js os (emptied p) (emptied p')
  emitted_empty = record {
    fullness = e.fullness;
    stands = record { store = e.stands.store; calls_small = e.stands.calls_small; notices_small = e.stands.notices_small };
    call_place = e.call_place;
    calls = λ free. sym (sets_nil p.at.calls (calls_from js os));
    notice_place = e.notice_place;
    notices = sym (sets_nil p.at.notices (notices_from os));
  }

  -- a place after that is within the target is not at the limit
  pub call_room_enough : length p.calls.now < 2 ^ 63 → p'.at.calls ≤ length p.calls.now → p'.at.full ≡ false
      → (p'.at.calls ≡ p.at.calls + length (calls_from js os)) × (p'.calls.now ≡ laid p.at.calls (calls_from js os) p.calls.now)
  unfolding laid
  call_room_enough short within free =
      let w : Wrote p.calls.now p'.calls.now p.at.calls p'.at.calls (calls_from js os) = record { next = e.call_place; holds = e.calls free } in
      let r : (p'.at.calls ≡ p.at.calls + length (calls_from js os)) × (p'.calls.now ≡ take p.at.calls p.calls.now ++ calls_from js os ++ drop p'.at.calls p.calls.now) = wrote_room short within w in
      (r.0, r.1 ∙ ap (λ (n : ℕ). take p.at.calls p.calls.now ++ calls_from js os ++ drop n p.calls.now) r.0)

  pub notice_room_enough : length p.notices.now < 2 ^ 63 → p'.at.notices ≤ length p.notices.now
      → (p'.at.notices ≡ p.at.notices + length (notices_from os)) × (p'.notices.now ≡ laid p.at.notices (notices_from os) p.notices.now)
  unfolding laid
  notice_room_enough short within =
      let w : Wrote p.notices.now p'.notices.now p.at.notices p'.at.notices (notices_from os) = record { next = e.notice_place; holds = e.notices } in
      let r : (p'.at.notices ≡ p.at.notices + length (notices_from os)) × (p'.notices.now ≡ take p.at.notices p.notices.now ++ notices_from os ++ drop p'.at.notices p.notices.now) = wrote_room short within w in
      (r.0, r.1 ∙ ap (λ (n : ℕ). take p.at.notices p.notices.now ++ notices_from os ++ drop n p.notices.now) r.0)

pub emitted_once : {a : List Record} {js : List Import} {os : List Output} {p q p' q' : Pen}
    → p.at.calls ≡ p'.at.calls → p.at.notices ≡ p'.at.notices → p.at.full ≡ p'.at.full → Emitted a js os p q → Emitted a js os p' q'
    → (q.at.calls ≡ q'.at.calls) × (q.at.notices ≡ q'.at.notices) × (q.at.full ≡ q'.at.full)
emitted_once {js = js} {os = os} x y z e f = (
  omega (arith, x, e.call_place, f.call_place),
  omega (arith, y, e.notice_place, f.notice_place),
  e.fullness ∙ ap (λ (b : Bool). b || ltb 8 (length (bound_from js os))) z ∙ sym f.fullness,
)
