-- The groups of the record tape (`with_group`, `groups_from` of definitions, Records; `known_sources` of specs, Grouping).
--     group_first, group_again, group_new, group_two      a source with no group, one group and two, by the code's tests
--     groups_next, groups_end, known_next                 a walk through records, at element i
--     bindable_known                                      records that settings can bind have source 0 or 1
-- Assumes nothing.
use mathlib.Core.Path.{◌≡◌, refl, sym, ap}
use mathlib.Core.Bool.{Bool, true, false, cond, ◌&&◌, and-eq-true_iff, false≢true}
use mathlib.Core.List.{List, [], ◌∷◌}
use Prim.Native.Nat.{ℕ, suc, ◌+◌, ◌≤◌, ◌<◌}
use native.Mathlib.Numerals.{add-one}
use native.Mathlib.Omega.{arith}
use lib.ListN.{length, get_or, drop, drop_of_length-le}
use lib.Seq.{drop-cons}
use lib.Dec.{eqb, ltb}
use borrow.Author.Tests.{eq-eqb, ne_eqb, eqb-true, eqb-false, lt-ltb}
use Rattle.definitions.specs.declared.options.Mode.{Mode}
use Rattle.definitions.specs.declared.options.Mode.TheVariants.{Module, Script, Classic}
use Rattle.definitions.specs.declared.options.Settings.{Settings}
use Rattle.definitions.specs.declared.records.Import.{Import}
use Rattle.definitions.specs.declared.records.Import.TheVariants.{Named, Default, FileName}
use Rattle.definitions.specs.declared.records.Record.{Record}
use Rattle.definitions.specs.Store.{create_element, source_of, can_name, can_import, can_require, can_bind}
use Rattle.definitions.specs.Records.{without, is_among, with_group, grouped_by, groups_from}
use Rattle.definitions.specs.States.{imports, all_bindable}
use Rattle.records.specs.Grouping.{known_source, known_sources}
use Rattle.records.proofs.Numbers.{nowhere}

-- ---- one source more

pub group_first : (front : Bool) (s : ℕ) → with_group front s [] ≡ s ∷ []
unfolding with_group without is_among
group_first true s = refl
group_first false s = refl

pub group_again : (front : Bool) (s t : ℕ) → t ≡ s → with_group front s (t ∷ []) ≡ t ∷ []
unfolding with_group without is_among
group_again true s t e = rw (eq-eqb s t (sym e)) (ap (λ (n : ℕ). n ∷ []) (sym e))
group_again false s t e = rw (eq-eqb s t (sym e))

pub group_new : (front : Bool) (s t : ℕ) → (t ≡ s → ⊥) → with_group front s (t ∷ []) ≡ cond front (s ∷ t ∷ []) (t ∷ s ∷ [])
unfolding with_group without is_among
group_new true s t h = rw (ne_eqb s t (λ e. h (sym e)))
group_new false s t h = rw (ne_eqb s t (λ e. h (sym e)))

-- where both sources have groups, a group is first only if it is put there
pub group_two : (front : Bool) (s t u : ℕ) → t + u ≡ 1 → s < 2 → with_group front s (t ∷ u ∷ []) ≡ cond (front && eqb u s) (u ∷ t ∷ []) (t ∷ u ∷ [])
unfolding with_group without is_among
group_two front s t u h k = go front (eqb u s) refl
  where
    go : (f b : Bool) → eqb u s ≡ b → with_group f s (t ∷ u ∷ []) ≡ cond (f && b) (u ∷ t ∷ []) (t ∷ u ∷ [])
    go true true e =
        let p : s ≡ u = sym (eqb-true u s e) in
        rw (ne_eqb s t (λ q. let z : ⊥ = omega arith in z), eq-eqb s u p) (ap (λ (n : ℕ). n ∷ t ∷ []) p)
    go false true e =
        let p : s ≡ u = sym (eqb-true u s e) in
        rw (ne_eqb s t (λ q. let z : ⊥ = omega arith in z), eq-eqb s u p)
    go true false e =
        let n = eqb-false u s e in
        let p : s ≡ t = omega arith in
        rw (eq-eqb s t p, ne_eqb s u (λ q. n (sym q))) (ap (λ (n : ℕ). n ∷ u ∷ []) p)
    go false false e =
        let n = eqb-false u s e in
        let p : s ≡ t = omega arith in
        rw (eq-eqb s t p)

-- ---- a walk through the records

pub groups_next : (g : List ℕ) (a : List Record) (i : ℕ) → i < length a
    → groups_from g (drop i a) ≡ groups_from (grouped_by g (get_or a i nowhere).import) (drop (i + 1) a)
unfolding groups_from
groups_next g a i h = rw (drop-cons a i nowhere h, add-one)

pub groups_end : (g : List ℕ) (a : List Record) (i : ℕ) → length a ≤ i → groups_from g (drop i a) ≡ g
unfolding groups_from
groups_end g a i h = rw (drop_of_length-le a h)

pub known_next : (a : List Record) (i : ℕ) → i < length a → known_sources (drop i a) ≡ true
    → (known_source (get_or a i nowhere).import ≡ true) × (known_sources (drop (i + 1) a) ≡ true)
unfolding known_sources
known_next a i h e = rw add-one ((and-eq-true_iff (known_source (get_or a i nowhere).import) (known_sources (drop (suc i) a))).0 (rw (drop-cons a i nowhere h) at e))

-- ---- sources

import_known : (m : Mode) (development : Bool) (s n : ℕ) → can_import m development s n ≡ true → ltb s 2 ≡ true
unfolding can_import
import_known Module development s n e = go (eqb n create_element) (eqb-true s _ ((and-eq-true_iff (can_name development n) (eqb s (source_of n))).0 e).1)
  where
    go : (b : Bool) → s ≡ cond b 0 1 → ltb s 2 ≡ true
    go true p = lt-ltb s 2 (omega arith)
    go false p = lt-ltb s 2 (omega arith)
import_known Script development s n e = absurd (false≢true e)
import_known Classic development s n e = absurd (false≢true e)

require_known : (m : Mode) (s : ℕ) → can_require m s ≡ true → ltb s 2 ≡ true
unfolding can_require
require_known Module s e = absurd (false≢true e)
require_known Script s e = e
require_known Classic s e = absurd (false≢true e)

bind_known : (s : Settings) (i : Import) → can_bind s i ≡ true → known_source i ≡ true
unfolding can_bind known_source
bind_known s (Named t n) e = import_known s.mode s.options.flags.development t n e
bind_known s (Default t) e = require_known s.mode t e
bind_known s FileName e = refl

pub bindable_known : (s : Settings) (rs : List Record) → all_bindable s (imports rs) ≡ true → known_sources rs ≡ true
unfolding all_bindable known_sources
bindable_known s [] h = refl
bindable_known s (r ∷ rs) h =
    let e = (and-eq-true_iff (can_bind s r.import) (all_bindable s (imports rs))).0 h in
    rw (bind_known s r.import e.0) (bindable_known s rs e.1)
