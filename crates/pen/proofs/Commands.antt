-- One command or notice, from the bytes that were written for it.
--     call_then, notice_then     bytes in two parts
--     called_plain     a command that binds nothing
--     numbered_lent, called_bound     a command that names a binding, with what `add_import` gave for it
--     noticed_one      a notice
-- Assumes nothing.
use Rattle.std.proofs.Common.{◌≡◌, ℕ, ◌^◌, ◌≤◌, Bool, true, false, ◌||◌, ltb, List, [], ◌∷◌, ◌++◌, length, refl, ap, subst, ◌∙◌, append-nil, arith}
use Rattle.std.specs.Prelude.{Option, is_none, unwrap_or}
use Rattle.tape.proofs.Targets.{wrote_small, wrote_then, wrote_length}
use Rattle.definitions.specs.declared.records.Import.{Import}
use Rattle.definitions.specs.declared.records.Record.{Record}
use Rattle.definitions.specs.Calls.{Command, bytes_of, call_bytes, Notice, notice_bytes_of, notice_bytes}
use Rattle.definitions.specs.Store.{bound, bound_by, bound_after, number_in, numbered, numbered_all}
use Rattle.definitions.specs.Lowering.{emit, notify, commands_of, notices_of}
use Rattle.definitions.proofs.Counting.{either_false}
use Rattle.store.specs.Adding.{added, Adds}
use Rattle.store.proofs.Adding.{held_adds}
use Rattle.pen.specs.declared.pen.Pen.{Pen}
use Rattle.pen.specs.Emitting.{calls_from, notices_from, bound_from, numbered_pen, WroteCall, WroteNotice, Produced, Stands, Lent, Short, Emitted}
use Rattle.pen.proofs.Emitting.{standing_full, lent_then}

-- the bytes of one command
calls_one : (js : List Import) (c : Command Import) → calls_from js (emit c ∷ []) ≡ bytes_of (numbered js c)
unfolding commands_of numbered_all call_bytes
calls_one js c = append-nil (bytes_of (numbered js c))

bound_one : (js : List Import) (c : Command Import) → bound_from js (emit c ∷ []) ≡ bound_by js c
unfolding commands_of bound_after
bound_one js c = refl

-- ---- bytes in parts

module _ {p p₁ p₂ : Pen} {bs ds : List ℕ} where
  pub call_then : length p.calls.now ≤ 2 ^ 63 → WroteCall bs p p₁ → WroteCall ds p₁ p₂ → WroteCall (bs ++ ds) p p₂
  call_then short v w = record {
    wrote = wrote_then short v.wrote w.wrote;
    lent = lent_then v.lent w.lent;
    notices = w.notices ∙ v.notices;
    notice_place = w.notice_place ∙ v.notice_place;
    store = w.store ∙ v.store;
    full = w.full ∙ v.full;
  }

  pub notice_then : length p.notices.now ≤ 2 ^ 63 → WroteNotice bs p p₁ → WroteNotice ds p₁ p₂ → WroteNotice (bs ++ ds) p p₂
  notice_then short v w = record {
    wrote = wrote_then short v.wrote w.wrote;
    lent = lent_then v.lent w.lent;
    calls = w.calls ∙ v.calls;
    call_place = w.call_place ∙ v.call_place;
    store = w.store ∙ v.store;
    full = w.full ∙ v.full;
  }

-- ---- a command that binds nothing

module _ {c : Command Import} {bs : List ℕ} {p p' : Pen} where
  pub called_plain : ((js : List Import) → bound_by js c ≡ js) → ((js : List Import) → bytes_of (numbered js c) ≡ bs)
      → Lent p p' → Short p → WroteCall bs p p' → Produced (emit c ∷ []) p p'
  unfolding notices_of notice_bytes
  called_plain binds bytes lent short w = (
    lent,
    short,
    λ a js s.
        let e : bound_from js (emit c ∷ []) ≡ js = bound_one js c ∙ binds js in
        let f : calls_from js (emit c ∷ []) ≡ bs = calls_one js c ∙ bytes js in
        record {
          fullness = rw (e, w.full) (standing_full s);
          stands = rw e (record {
            store = rw (w.full, w.store) s.store;
            calls_small = wrote_small w.wrote;
            notices_small = omega (arith, w.notice_place, s.notices_small);
          });
          call_place = rw f w.wrote.next;
          calls = λ free. rw f w.wrote.holds;
          notice_place = omega (arith, w.notice_place, s.notices_small);
          notices = w.notices;
        },
  )

-- ---- a command that names a binding

-- a number is given without a target
pub numbered_lent : (i : Import) {p q p' : Pen} → q ≡ numbered_pen p i → Lent q p' → Lent p p'
numbered_lent i {p' = p'} e l =
    let m = subst (λ (x : Pen). Lent x p') e l in
    record { calls = m.calls; notices = m.notices }

module _ {c : Command Import} (i : Import) {p p' : Pen} where
  -- its bytes have the number, or any other byte, in one place
  pub called_bound : (bytes : ℕ → List ℕ) → ((js : List Import) → bound_by js c ≡ bound js i)
      → ((js : List Import) → bytes_of (numbered js c) ≡ bytes (number_in js i)) → ((k m : ℕ) → length (bytes k) ≡ length (bytes m))
      → Lent p p' → Short p → WroteCall (bytes (unwrap_or (added p.at.store i).number 0)) (numbered_pen p i) p' → Produced (emit c ∷ []) p p'
  unfolding notices_of notice_bytes
  called_bound bytes binds written size lent short w = (lent, short, go)
    where
      adds : {a : List Record} {js : List Import} → Stands a js p → p.at.full ≡ false → Adds a js i (added p.at.store i)
      adds s free = held_adds i (s.store free)

      full : {a : List Record} {js : List Import} → Stands a js p → (b : Bool) → p.at.full ≡ b → (b || is_none (added p.at.store i).number) ≡ (b || ltb 8 (length (bound js i)))
      full s true free = refl
      full s false free = (adds s free).fullness

      go : (a : List Record) (js : List Import) → Stands a js p → Emitted a js (emit c ∷ []) p p'
      go a js s =
          let e : bound_from js (emit c ∷ []) ≡ bound js i = bound_one js c ∙ binds js in
          let f : calls_from js (emit c ∷ []) ≡ bytes (number_in js i) = calls_one js c ∙ written js in
          record {
            fullness = rw (e, w.full) (full s p.at.full refl);
            stands = rw e (record {
              store = λ free. let h = either_false p.at.full (is_none (added p.at.store i).number) (rw (← w.full) free) in rw w.store ((adds s h.0).holds h.1);
              calls_small = wrote_small w.wrote;
              notices_small = omega (arith, w.notice_place, s.notices_small);
            });
            call_place = rw f (omega (arith, w.wrote.next, size (unwrap_or (added p.at.store i).number 0) (number_in js i)));
            calls = λ free.
                let h = either_false p.at.full (is_none (added p.at.store i).number) (rw (← w.full) free) in
                let k : unwrap_or (added p.at.store i).number 0 ≡ number_in js i = ap (λ (o : Option ℕ). unwrap_or o 0) ((adds s h.0).number h.1) in
                rw (f, ← k) w.wrote.holds;
            notice_place = omega (arith, w.notice_place, s.notices_small);
            notices = w.notices;
          }

-- ---- a notice

module _ {x : Notice} {p p' : Pen} where
  pub noticed_one : Lent p p' → Short p → WroteNotice (notice_bytes_of x) p p' → Produced (notify x ∷ []) p p'
  unfolding commands_of notices_of notice_bytes bound_after numbered_all call_bytes
  noticed_one lent short w = (
    lent,
    short,
    λ a js s.
        let f : notices_from (notify x ∷ []) ≡ notice_bytes_of x = append-nil (notice_bytes_of x) in
        record {
          fullness = rw w.full (standing_full s);
          stands = record {
            store = rw (w.full, w.store) s.store;
            calls_small = omega (arith, w.call_place, s.calls_small);
            notices_small = wrote_small w.wrote;
          };
          call_place = omega (arith, w.call_place, s.calls_small);
          calls = λ free. w.calls;
          notice_place = rw f w.wrote.next;
          notices = rw f w.wrote.holds;
        },
  )
