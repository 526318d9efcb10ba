-- The entries of the things bound, numbered in order of making.
--     of_below, of_once        exactly one entry has the number of a thing bound, and none another number
--     shared_once              of things that are not repeated no two entries share source and name
--     more_entries             more things take no entry away
--     says_self, says_is       `says` tells equal entries from others
--     bound_said               a thing that is bound has its entry
-- Assumes nothing.
use mathlib.Core.Path.{◌≡◌, refl, ap}
use mathlib.Core.Bool.{Bool, true, false, cond, ◌&&◌}
use mathlib.Core.List.{List, [], ◌∷◌, ◌++◌}
use Prim.Native.Nat.{ℕ, zero, suc, ◌+◌, ◌≤◌, ◌<◌}
use native.Mathlib.Nat.{add-zero, add-suc, suc-add}
use native.Mathlib.Omega.{arith}
use lib.ListN.{length}
use lib.Dec.{eqb}
use borrow.Author.Tests.{eqb-true, eqb-false, eq-eqb}
use Rattle.definitions.specs.declared.records.Import.{Import}
use Rattle.definitions.specs.declared.records.Import.TheVariants.{Named, Default, FileName}
use Rattle.definitions.specs.Store.{same_import, number_in}
use Rattle.definitions.specs.Records.{Entry, named, required, file}
use Rattle.definitions.specs.States.{unrepeated}
use Rattle.definitions.specs.Entries.{records_from}
use Rattle.definitions.specs.Claim.{count, is_of, shares, says}
use Rattle.definitions.proofs.Counting.{never, both, count_nil, count_append}
use Rattle.definitions.proofs.Numbering.{same_is}
use Rattle.definitions.proofs.Soundness.{once}
use Rattle.definitions.proofs.TapeEntries.{eqb_sym, entry_of, entries_of}

-- the entries of things, numbered from k
abbrev pub entries_for : ℕ → ℕ → List Import → List Entry
entries_for place k is = entries_of place (records_from k is)

-- ---- numbers

pub of_entry : (b place : ℕ) (i : Import) (k : ℕ) → is_of b (entry_of place i k) ≡ eqb b k
unfolding is_of entry_of
of_entry b place (Named s n) k = refl
of_entry b place (Default s) k = refl
of_entry b place FileName k = refl

module _ (b place : ℕ) where
  abbrev at : ℕ → List Import → ℕ
  at k is = count (is_of b) (entries_for place k is)

  pub of_below : (k : ℕ) (is : List Import) → 0 < count (is_of b) (entries_for place k is) → (k ≤ b) × (b < k + length is)
  unfolding records_from entries_of count
  of_below k [] h = absurd (omega arith)
  of_below k (i ∷ is) h = go (eqb b k) refl (rw (of_entry b place i k) at h) (of_below (suc k) is)
    where
      go : (q : Bool) → eqb b k ≡ q → 0 < cond q (suc (at (suc k) is)) (at (suc k) is)
          → (0 < at (suc k) is → (suc k ≤ b) × (b < suc k + length is)) → (k ≤ b) × (b < k + suc (length is))
      go true e h ih = omega (arith, eqb-true b k e)
      go false e h ih = omega (arith, ih h)

  pub of_once : (k : ℕ) (is : List Import) → k ≤ b → b < k + length is → count (is_of b) (entries_for place k is) ≡ 1
  unfolding records_from entries_of count
  of_once k [] l h = absurd (omega arith)
  of_once k (i ∷ is) l h = rw (of_entry b place i k) (go (eqb b k) refl (of_below (suc k) is) (of_once (suc k) is))
    where
      none : (n : ℕ) → (0 < n → (suc k ≤ b) × (b < suc k + length is)) → b ≡ k → n ≡ 0
      none zero f e = refl
      none (suc n) f e = absurd (omega (arith, f (omega arith)))

      go : (q : Bool) → eqb b k ≡ q → (0 < at (suc k) is → (suc k ≤ b) × (b < suc k + length is))
          → (suc k ≤ b → b < suc k + length is → at (suc k) is ≡ 1)
          → cond q (suc (at (suc k) is)) (at (suc k) is) ≡ 1
      go true e f ih = ap suc (none (at (suc k) is) f (eqb-true b k e))
      go false e f ih = ih (omega (arith, eqb-false b k e)) (omega arith)

-- ---- sources and names

-- what an entry is of
import_of : Entry → Import
import_of (named s n b) = Named s n
import_of (required s b) = Default s
import_of (file b p) = FileName

shares_same : (e : Entry) (place : ℕ) (i : Import) (k : ℕ) → shares e (entry_of place i k) ≡ same_import i (import_of e)
unfolding shares entry_of import_of same_import
shares_same (named s n b) place (Named t m) k = rw (eqb_sym s t, eqb_sym n m)
shares_same (named s n b) place (Default t) k = refl
shares_same (named s n b) place FileName k = refl
shares_same (required s b) place (Named t m) k = refl
shares_same (required s b) place (Default t) k = eqb_sym s t
shares_same (required s b) place FileName k = refl
shares_same (file b p) place (Named t m) k = refl
shares_same (file b p) place (Default t) k = refl
shares_same (file b p) place FileName k = refl

shares_count : (e : Entry) (place k : ℕ) (is : List Import) → count (shares e) (entries_for place k is) ≡ count (λ j. same_import j (import_of e)) is
unfolding records_from entries_of count
shares_count e place k [] = refl
shares_count e place k (i ∷ is) = rw (shares_same e place i k, shares_count e place (suc k) is)

pub shared_once : (e : Entry) (place k : ℕ) (is : List Import) → unrepeated [] is ≡ true → count (shares e) (entries_for place k is) ≤ 1
shared_once e place k is h = rw (shares_count e place k is) (once [] is (import_of e) h)

-- ---- entries stay

pub more_entries : (p : Entry → Bool) (place k : ℕ) (is js : List Import) → count p (entries_for place k is) ≤ count p (entries_for place k (is ++ js))
unfolding records_from entries_of
more_entries p place k [] js = omega (arith, count_nil p)
more_entries p place k (i ∷ is) js =
    omega (
      arith,
      more_entries p place (suc k) is js,
      count_append p (entry_of place i k ∷ []) (entries_for place (suc k) is),
      count_append p (entry_of place i k ∷ []) (entries_for place (suc k) (is ++ js)),
    )

-- ---- what an entry says

pub says_self : (e : Entry) → says e e ≡ true
unfolding says
says_self (named s n b) = rw (eq-eqb s s refl, eq-eqb n n refl, eq-eqb b b refl)
says_self (required s b) = rw (eq-eqb s s refl, eq-eqb b b refl)
says_self (file b p) = rw (eq-eqb b b refl, eq-eqb p p refl)

pub says_is : (d e : Entry) → says d e ≡ true → d ≡ e
unfolding says
says_is (named s n b) (named t m c) h =
    let f = both (eqb s t && eqb n m) (eqb b c) h in
    let g = both (eqb s t) (eqb n m) f.0 in
    λ ι. named (eqb-true s t g.0 ι) (eqb-true n m g.1 ι) (eqb-true b c f.1 ι)
says_is (named s n b) (required t c) h = never h
says_is (named s n b) (file c p) h = never h
says_is (required s b) (named t m c) h = never h
says_is (required s b) (required t c) h =
    let f = both (eqb s t) (eqb b c) h in λ ι. required (eqb-true s t f.0 ι) (eqb-true b c f.1 ι)
says_is (required s b) (file c p) h = never h
says_is (file b p) (named t m c) h = never h
says_is (file b p) (required t c) h = never h
says_is (file b p) (file c q) h = let f = both (eqb b c) (eqb p q) h in λ ι. file (eqb-true b c f.0 ι) (eqb-true p q f.1 ι)

pub bound_said : (place k : ℕ) (is : List Import) (i : Import) → number_in is i < length is
    → 0 < count (says (entry_of place i (k + number_in is i))) (entries_for place k is)
unfolding number_in records_from entries_of count
bound_said place k [] i h = absurd (omega arith)
bound_said place k (j ∷ is) i h = go (same_import j i) refl h (bound_said place (suc k) is i)
  where
    some : (b : Bool) (n : ℕ) → 0 < n → 0 < cond b (suc n) n
    some true n h = omega arith
    some false n h = h

    go : (b : Bool) → same_import j i ≡ b → cond b 0 (suc (number_in is i)) < suc (length is)
        → (number_in is i < length is → 0 < count (says (entry_of place i (suc k + number_in is i))) (entries_for place (suc k) is))
        → 0 < cond (says (entry_of place i (k + cond b 0 (suc (number_in is i)))) (entry_of place j k))
        (suc (count (says (entry_of place i (k + cond b 0 (suc (number_in is i))))) (entries_for place (suc k) is)))
        (count (says (entry_of place i (k + cond b 0 (suc (number_in is i))))) (entries_for place (suc k) is))
    go true e h ih = rw (add-zero k, same_is j i e, says_self (entry_of place i k)) (omega arith)
    go false e h ih =
        rw (add-suc k (number_in is i), ← suc-add k (number_in is i))
        (some (says (entry_of place i (suc k + number_in is i)) (entry_of place j k))
        (count (says (entry_of place i (suc k + number_in is i))) (entries_for place (suc k) is)) (ih (omega arith)))
