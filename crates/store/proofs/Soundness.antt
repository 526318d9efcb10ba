-- What soundness says of a state (`sound` of definitions, States).
--     sound_over, sound_parts                     by the code's tests
--     sound_few, sound_numbered, sound_bindable   what a sound state's records are
--     sound_holds                                 its store holds its things
-- Assumes nothing.
use mathlib.Core.Path.{◌≡◌, refl, sym, ◌∙◌}
use mathlib.Core.Bool.{Bool, true, false, not, ◌&&◌, and-eq-true_iff}
use mathlib.Core.List.{List, []}
use Prim.Native.Nat.{ℕ, ◌≤◌, ◌<◌}
use native.Mathlib.Omega.{arith}
use lib.ListN.{length, length-map, take-append-drop}
use lib.Seq.{length-take-le}
use lib.Dec.{ltb}
use borrow.Author.Tests.{lt-ltb, le-ltb, ltb-false, not-true}
use Rattle.definitions.specs.declared.state.State.{State}
use Rattle.definitions.specs.States.{spans_borne_out, forms_borne_out, live, imports, numbered_from, unrepeated, all_bindable, sound}
use Rattle.definitions.specs.Entries.{records_from}
use Rattle.store.specs.Following.{following}
use Rattle.store.specs.Adding.{store_of, Holds}
use Rattle.store.proofs.Following.{following_sound}
use Rattle.store.proofs.Growing.{numbered_back}

-- ---- by the code's tests

regroup : (x u v w : Bool) → (x && (u && v && w)) ≡ (x && u && v && w)
regroup true u v w = refl
regroup false u v w = refl

module _ (text : List ℕ) (s : State) where
  pub sound_over : 8 < s.count → sound text s ≡ false
  unfolding sound
  sound_over h = rw (lt-ltb 8 s.count h)

  pub sound_parts : s.count ≤ 8
      → (spans_borne_out text s.settings.options && forms_borne_out text s.settings && following s.settings 0 [] (live s)) ≡ sound text s
  unfolding sound
  sound_parts h =
      rw (le-ltb 8 s.count h, following_sound s.settings 0 [] (live s))
      (regroup (spans_borne_out text s.settings.options && forms_borne_out text s.settings) _ _ _)

-- ---- a sound state

-- three tests of a chain
chain : (t u v w x y : Bool) → (t && u && v && w && x && y) ≡ true → (t ≡ true) × (w ≡ true) × (y ≡ true)
chain t u v w x y e =
    let a = (and-eq-true_iff (t && u && v && w && x) y).0 e in
    let b = (and-eq-true_iff (t && u && v) w).0 ((and-eq-true_iff (t && u && v && w) x).0 a.0).0 in
    (((and-eq-true_iff t u).0 ((and-eq-true_iff (t && u) v).0 b.0).0).0, b.1, a.1)

module _ (text : List ℕ) (s : State) (h : sound text s ≡ true) where
  tests : (not (ltb 8 s.count) ≡ true) × (numbered_from 0 (live s) ≡ true) × (all_bindable s.settings (imports (live s)) ≡ true)
  unfolding sound
  tests = chain (not (ltb 8 s.count)) (spans_borne_out text s.settings.options) (forms_borne_out text s.settings) (numbered_from 0 (live s))
      (unrepeated [] (imports (live s))) (all_bindable s.settings (imports (live s))) h

  pub sound_few : s.count ≤ 8
  sound_few = ltb-false 8 s.count (not-true _ tests.0)

  pub sound_numbered : live s ≡ records_from 0 (imports (live s))
  sound_numbered = numbered_back 0 (live s) tests.1

  pub sound_bindable : all_bindable s.settings (imports (live s)) ≡ true
  sound_bindable = tests.2

  pub sound_holds : length s.records ≡ 8 → Holds s.records (imports (live s)) (store_of s)
  sound_holds e =
      let l : length (imports (live s)) ≡ s.count = length-map (live s) (λ r. r.import) ∙ length-take-le s.count s.records (omega (arith, sound_few)) in
      record {
        eight = e;
        few = omega (arith, sound_few);
        counted = sym l;
        whole = rw (← sound_numbered, l) (sym (take-append-drop s.count s.records));
      }
