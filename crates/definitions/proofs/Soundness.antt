-- Sound records: things as records are numbered without gaps, and binding more things repeats none of them and binds only what can be bound.
--     length_records, imports_records, records_numbered     things as records
--     unrepeated_all, bindable_all                          soundness is kept by binding
--     once                                                  of things that are not repeated none stands twice
-- Assumes nothing.
use mathlib.Core.Path.{◌≡◌, refl, sym, ap, ◌∙◌}
use mathlib.Core.Bool.{Bool, true, false, cond, not, ◌&&◌}
use mathlib.Core.List.{List, [], ◌∷◌, ◌++◌, append-nil}
use Prim.Native.Nat.{ℕ, suc, ◌≤◌, ◌<◌}
use native.Mathlib.Omega.{arith}
use lib.ListN.{length, length-append}
use lib.Seq.{append_snoc}
use borrow.Author.Tests.{eq-eqb, ltb-false, not-true, lt-ltb}
use Rattle.definitions.specs.declared.options.Settings.{Settings}
use Rattle.definitions.specs.declared.records.Import.{Import}
use Rattle.definitions.specs.Store.{same_import, number_in, is_bound, bound, can_bind}
use Rattle.definitions.specs.States.{imports, numbered_from, unrepeated, all_bindable}
use Rattle.definitions.specs.Entries.{records_from}
use Rattle.definitions.specs.Claim.{count}
use Rattle.definitions.proofs.Counting.{never, both}
use Rattle.definitions.proofs.Numbering.{same_is, number_append, number_added, bound_all}

-- ---- things as records

pub length_records : (k : ℕ) (is : List Import) → length (records_from k is) ≡ length is
unfolding records_from
length_records k [] = refl
length_records k (i ∷ is) = ap suc (length_records (suc k) is)

pub imports_records : (k : ℕ) (is : List Import) → imports (records_from k is) ≡ is
unfolding records_from
imports_records k [] = refl
imports_records k (i ∷ is) = ap (i ∷◌) (imports_records (suc k) is)

pub records_numbered : (k : ℕ) (is : List Import) → numbered_from k (records_from k is) ≡ true
unfolding records_from numbered_from
records_numbered k [] = refl
records_numbered k (i ∷ is) = rw (eq-eqb k k refl) (records_numbered (suc k) is)

-- ---- nothing is repeated

unrepeated_cons : (seen : List Import) (i : Import) (is : List Import) → unrepeated seen (i ∷ is) ≡ true
    → (is_bound seen i ≡ false) × (unrepeated (seen ++ i ∷ []) is ≡ true)
unfolding unrepeated
unrepeated_cons seen i is h =
    let p = both (not (is_bound seen i)) (unrepeated (seen ++ i ∷ []) is) h in (not-true (is_bound seen i) p.0, p.1)

unrepeated_snoc : (seen is : List Import) (i : Import) → unrepeated seen is ≡ true → is_bound (seen ++ is) i ≡ false
    → unrepeated seen (is ++ i ∷ []) ≡ true
unfolding unrepeated
unrepeated_snoc seen [] i h e = rw (rw append-nil at e)
unrepeated_snoc seen (j ∷ is) i h e =
    let d = unrepeated_cons seen j is h in
    rw d.0 (unrepeated_snoc (seen ++ j ∷ []) is i d.1 (rw (← append_snoc seen j is) at e))

unrepeated_bound : (js : List Import) (i : Import) → unrepeated [] js ≡ true → unrepeated [] (bound js i) ≡ true
unfolding bound
unrepeated_bound js i h = go (is_bound js i) refl
  where
    go : (b : Bool) → is_bound js i ≡ b → unrepeated [] (cond b js (js ++ i ∷ [])) ≡ true
    go true e = h
    go false e = unrepeated_snoc [] js i h e

pub unrepeated_all : (js is : List Import) → unrepeated [] js ≡ true → unrepeated [] (bound_all js is) ≡ true
unfolding bound_all
unrepeated_all js [] h = h
unrepeated_all js (i ∷ is) h = unrepeated_all (bound js i) is (unrepeated_bound js i h)

-- a thing that stands among those seen is none of those that follow
none_again : (seen is : List Import) (i : Import) → unrepeated seen is ≡ true → number_in seen i < length seen → count (λ j. same_import j i) is ≡ 0
unfolding count
none_again seen [] i h l = refl
none_again seen (j ∷ is) i h l =
    let d = unrepeated_cons seen j is h in
    let k : number_in (seen ++ j ∷ []) i < length (seen ++ j ∷ []) =
    omega (arith, number_append seen (j ∷ []) i l, length-append seen (j ∷ [])) in
    go (same_import j i) refl d.0 (none_again (seen ++ j ∷ []) is i d.1 k)
  where
    go : (b : Bool) → same_import j i ≡ b → is_bound seen j ≡ false → count (λ j. same_import j i) is ≡ 0
        → cond b (suc (count (λ j. same_import j i) is)) (count (λ j. same_import j i) is) ≡ 0
    go true e f k = never (sym f ∙ rw (same_is j i e) (lt-ltb (number_in seen i) (length seen) l))
    go false e f k = k

pub once : (seen is : List Import) (i : Import) → unrepeated seen is ≡ true → count (λ j. same_import j i) is ≤ 1
unfolding count
once seen [] i h = omega arith
once seen (j ∷ is) i h =
    let d = unrepeated_cons seen j is h in
    go (same_import j i) refl d.0 (none_again (seen ++ j ∷ []) is i d.1) (once (seen ++ j ∷ []) is i d.1)
  where
    go : (b : Bool) → same_import j i ≡ b → is_bound seen j ≡ false
        → (number_in (seen ++ j ∷ []) i < length (seen ++ j ∷ []) → count (λ j. same_import j i) is ≡ 0)
        → count (λ j. same_import j i) is ≤ 1
        → cond b (suc (count (λ j. same_import j i) is)) (count (λ j. same_import j i) is) ≤ 1
    go true e f k o =
        let g : number_in (seen ++ j ∷ []) i ≡ length seen =
        rw (← same_is j i e) (number_added seen [] j (ltb-false (number_in seen j) (length seen) f)) in
        omega (arith, k (omega (arith, g, length-append seen (j ∷ []))))
    go false e f k o = o

-- ---- all can be bound

pub bindable_append : (s : Settings) (is js : List Import) → all_bindable s (is ++ js) ≡ (all_bindable s is && all_bindable s js)
unfolding all_bindable
bindable_append s [] js = refl
bindable_append s (i ∷ is) js = go (can_bind s i) (bindable_append s is js)
  where
    go : (b : Bool) → all_bindable s (is ++ js) ≡ (all_bindable s is && all_bindable s js)
        → (b && all_bindable s (is ++ js)) ≡ (b && all_bindable s is && all_bindable s js)
    go true h = h
    go false h = refl

pub bindable_all : (s : Settings) (js is : List Import) → all_bindable s js ≡ true → all_bindable s is ≡ true → all_bindable s (bound_all js is) ≡ true
unfolding all_bindable bound_all bound
bindable_all s js [] h k = h
bindable_all s js (i ∷ is) h k =
    let d = both (can_bind s i) (all_bindable s is) k in
    bindable_all s (bound js i) is (go (is_bound js i) d.0) d.1
  where
    go : (b : Bool) → can_bind s i ≡ true → all_bindable s (cond b js (js ++ i ∷ [])) ≡ true
    go true e = h
    go false e = rw (bindable_append s js (i ∷ []), h, e)
