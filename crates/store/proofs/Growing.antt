-- What is bound only grows, and records as things with numbers (`bound` of definitions, Store; `records_from` of Entries).
--     bound_there, bound_new          what binding a thing gives
--     bound_grows, bound_after_grows  what is bound never gets less, by a thing or by commands
--     imports_from, length_from, from_append     the things of records that are numbered in order, how many there are, and one list behind another
--     numbered_back                   records that are numbered in order are their things, numbered
-- Assumes nothing.
use mathlib.Core.Path.{◌≡◌, refl, ap}
use mathlib.Core.Bool.{Bool, true, false, cond, ◌&&◌, false≢true}
use mathlib.Core.List.{List, [], ◌∷◌, ◌++◌}
use Prim.Native.Nat.{ℕ, suc, ◌+◌, ◌≤◌}
use native.Mathlib.Nat.{add-zero, add-suc, suc-add}
use native.Mathlib.Omega.{arith}
use lib.ListN.{length, length-append}
use lib.Dec.{eqb}
use borrow.Author.Tests.{eqb-true}
use Rattle.definitions.specs.declared.records.Import.{Import}
use Rattle.definitions.specs.declared.records.Record.{Record}
use Rattle.definitions.specs.Calls.{Command, bare, byte, over, span, binding, source}
use Rattle.definitions.specs.Store.{is_bound, bound, bound_by, bound_after}
use Rattle.definitions.specs.States.{imports, numbered_from}
use Rattle.definitions.specs.Entries.{records_from}

-- ---- what is bound

pub bound_there : (js : List Import) (i : Import) → is_bound js i ≡ true → bound js i ≡ js
unfolding bound
bound_there js i e = rw e

pub bound_new : (js : List Import) (i : Import) → is_bound js i ≡ false → bound js i ≡ js ++ i ∷ []
unfolding bound
bound_new js i e = rw e

pub bound_grows : (js : List Import) (i : Import) → length js ≤ length (bound js i)
unfolding bound
bound_grows js i = go (is_bound js i)
  where
    go : (b : Bool) → length js ≤ length (cond b js (js ++ i ∷ []))
    go true = omega arith
    go false = omega (arith, length-append js (i ∷ []))

bound_by_grows : (js : List Import) (c : Command Import) → length js ≤ length (bound_by js c)
unfolding bound_by
bound_by_grows js (bare c) = omega arith
bound_by_grows js (byte c n) = omega arith
bound_by_grows js (over c e) = omega arith
bound_by_grows js (span c s) = omega arith
bound_by_grows js (binding i) = bound_grows js i
bound_by_grows js (source i p) = bound_grows js i

pub bound_after_grows : (js : List Import) (cs : List (Command Import)) → length js ≤ length (bound_after js cs)
unfolding bound_after
bound_after_grows js [] = omega arith
bound_after_grows js (c ∷ cs) = omega (arith, bound_by_grows js c, bound_after_grows (bound_by js c) cs)

-- ---- numbered records

pub imports_from : (k : ℕ) (js : List Import) → imports (records_from k js) ≡ js
unfolding records_from
imports_from k [] = refl
imports_from k (j ∷ js) = ap (λ (l : List Import). j ∷ l) (imports_from (suc k) js)

pub length_from : (k : ℕ) (js : List Import) → length (records_from k js) ≡ length js
unfolding records_from
length_from k [] = refl
length_from k (j ∷ js) = ap suc (length_from (suc k) js)

pub from_append : (k : ℕ) (js is : List Import) → records_from k (js ++ is) ≡ records_from k js ++ records_from (k + length js) is
unfolding records_from
from_append k [] is = rw add-zero
from_append k (j ∷ js) is =
    rw (add-suc k (length js), ← suc-add k (length js)) (ap (λ (l : List Record). record { import = j; binding = k } ∷ l) (from_append (suc k) js is))

pub numbered_back : (k : ℕ) (rs : List Record) → numbered_from k rs ≡ true → rs ≡ records_from k (imports rs)
unfolding numbered_from records_from
numbered_back k [] h = refl
numbered_back k (r ∷ rs) h = go (eqb r.binding k) refl h (numbered_back (suc k) rs)
  where
    go : (b : Bool) → eqb r.binding k ≡ b → (b && numbered_from (suc k) rs) ≡ true → (numbered_from (suc k) rs ≡ true → rs ≡ records_from (suc k) (imports rs))
        → r ∷ rs ≡ record { import = r.import; binding = k } ∷ records_from (suc k) (imports rs)
    go true e h ih =
        let n : r.binding ≡ k = eqb-true r.binding k e in
        λ ι. record { import = r.import; binding = n ι } ∷ ih h ι
    go false e h ih = absurd (false≢true h)
