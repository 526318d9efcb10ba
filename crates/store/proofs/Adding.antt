-- Adding an import to a store (`added` and `Holds` of specs, Adding).
--     added_over, added_found, added_made, added_full     what it gives, by the tests that the code makes
--     holds_from                                          a store of js and any places behind them
--     held_things, held_adds                              of a store that holds js: what it binds, and all that adding an import gives
--     held_moved                                          the state after an accepted root is that of a store which holds what is bound then
-- Assumes nothing.
use Rattle.std.specs.Prelude.{Some}
use mathlib.Core.Path.{◌≡◌, refl, sym, ap, ◌∙◌}
use mathlib.Core.Bool.{Bool, true, false, cond, true≢false}
use mathlib.Core.List.{List, [], ◌∷◌, ◌++◌, append_assoc}
use Prim.Native.Nat.{ℕ, ◌+◌, ◌≤◌, ◌<◌}
use native.Mathlib.Nat.{zero-add}
use native.Mathlib.Numerals.{add-one}
use native.Mathlib.Omega.{arith}
use lib.ListN.{length, drop, length-append}
use lib.Seq.{take_at, drop_at, drop-cons, set_at}
use lib.Dec.{ltb}
use borrow.Author.Tests.{lt-ltb, le-ltb, ltb-true, ltb-false}
use Rattle.definitions.specs.declared.records.Import.{Import}
use Rattle.definitions.specs.declared.records.Record.{Record}
use Rattle.definitions.specs.declared.state.State.{State}
use Rattle.definitions.specs.Store.{number_in, is_bound}
use Rattle.definitions.specs.Entries.{Lowered, records_from, moved}
use Rattle.store.specs.declared.module_imports.Store.{Store}
use Rattle.store.specs.Adding.{things, full_of, found_in, made_in, added, Holds, Adds}
use Rattle.records.proofs.Numbers.{nowhere, number_le}
use Rattle.store.proofs.Growing.{bound_there, bound_new, imports_from, length_from, from_append}

-- ---- by the code's tests

pub added_over : (s : Store) (i : Import) → 8 < s.count → added s i ≡ full_of s
unfolding added
added_over s i h = rw (lt-ltb 8 s.count h)

module _ (s : Store) (i : Import) (few : s.count ≤ 8) where
  pub added_found : is_bound (things s) i ≡ true → added s i ≡ found_in s i
  unfolding added
  added_found e = rw (le-ltb 8 s.count few, e)

  pub added_made : is_bound (things s) i ≡ false → s.count < 8 → added s i ≡ made_in s i
  unfolding added
  added_made e k = rw (le-ltb 8 s.count few, e, lt-ltb s.count 8 k)

  pub added_full : is_bound (things s) i ≡ false → 8 ≤ s.count → added s i ≡ full_of s
  unfolding added
  added_full e k = rw (le-ltb 8 s.count few, e, le-ltb s.count 8 k)

-- ---- a store that holds js

pub holds_from : (js : List Import) (rest : List Record) (s : Store) → length s.records ≡ 8 → length js ≤ 8 → s.count ≡ length js
    → s.records ≡ records_from 0 js ++ rest → Holds s.records js s
holds_from js rest s eight few counted whole = record {
  eight = eight;
  few = few;
  counted = counted;
  whole = whole ∙ ap (λ (l : List Record). records_from 0 js ++ l) (sym (rw whole (drop_at (records_from 0 js) rest (length js) (length_from 0 js))));
}

pub held_things : {a : List Record} {js : List Import} {s : Store} → Holds a js s → things s ≡ js
held_things {a} {js} {s} h =
    rw (h.whole, take_at (records_from 0 js) (drop (length js) a) s.count (length_from 0 js ∙ sym h.counted)) (imports_from 0 js)

-- a record behind them
held_more : {a : List Record} {js : List Import} {s : Store} (i : Import) → Holds a js s → length js < 8 → Holds a (js ++ i ∷ []) (made_in s i).store
unfolding records_from
held_more {a} {js} {s} i h k =
    let e : length (js ++ i ∷ []) ≡ length js + 1 = length-append js (i ∷ []) in
    record {
      eight = h.eight;
      few = omega arith;
      counted = ap (λ (n : ℕ). n + 1) h.counted ∙ sym e;
      whole = rw (h.whole, h.counted, e, add-one, drop-cons a (length js) nowhere (omega (arith, h.eight)), from_append 0 js (i ∷ []), append_assoc, zero-add)
          (set_at (records_from 0 js) _ _ _ (length js) (length_from 0 js));
    }

-- what adding gives, over js
held_added : {a : List Record} {js : List Import} {s : Store} (i : Import) → Holds a js s
    → added s i ≡ cond (is_bound js i) (record { number = Some (number_in js i); store = s }) (cond (ltb (length js) 8) (made_in s i) (full_of s))
unfolding added
held_added {s = s} i h = rw (le-ltb 8 s.count (omega (arith, h.few, h.counted)), held_things h, h.counted)

pub held_adds : {a : List Record} {js : List Import} {s : Store} (i : Import) → Holds a js s → Adds a js i (added s i)
held_adds {a} {js} {s} i h = rw (held_added i h) (go (is_bound js i) refl (ltb (length js) 8) refl)
  where
    more : length (js ++ i ∷ []) ≡ length js + 1
    more = length-append js (i ∷ [])

    go : (there : Bool) → is_bound js i ≡ there → (room : Bool) → ltb (length js) 8 ≡ room
        → Adds a js i (cond there (record { number = Some (number_in js i); store = s }) (cond room (made_in s i) (full_of s)))
    go true e room f = record {
      fullness = rw (bound_there js i e) (sym (le-ltb 8 (length js) h.few));
      number = λ _. refl;
      holds = λ _. rw (bound_there js i e) h;
    }
    go false e true f = record {
      fullness = rw (bound_new js i e) (sym (le-ltb 8 (length (js ++ i ∷ [])) (omega (arith, more, ltb-true (length js) 8 f))));
      number = λ _. ap Some (omega (arith, h.counted, number_le js i, ltb-false (number_in js i) (length js) e));
      holds = λ _. rw (bound_new js i e) (held_more i h (ltb-true (length js) 8 f));
    }
    go false e false f = record {
      fullness = rw (bound_new js i e) (sym (lt-ltb 8 (length (js ++ i ∷ [])) (omega (arith, more, ltb-false (length js) 8 f))));
      number = λ full. absurd (true≢false full);
      holds = λ full. absurd (true≢false full);
    }

pub held_moved : (s : State) (l : Lowered) {t : Store} → Holds s.records l.bound t
    → record { settings = s.settings; records = t.records; count = t.count; calls = s.calls + length l.calls; notices = s.notices + length l.notices } ≡ moved s l
unfolding moved
held_moved s l h =
    λ ι. record {
      settings = s.settings;
      records = h.whole ι;
      count = h.counted ι;
      calls = s.calls + length l.calls;
      notices = s.notices + length l.notices;
    }
