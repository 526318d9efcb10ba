-- The numbers of the things that a job binds: a list of them only grows, a number once given is kept, and the numbers that commands mention are those of the
-- things bound.
--     same_self, same_is              `same_import` tells equal things from others
--     imports_of, bound_all, numbers_all  the things that commands mention, in order; binding and numbering them
--     number_append, number_added     the number of a thing in a longer list
--     grows, all_grow                 binding adds behind
--     number_kept, numbered_at_last   `numbered_all js cs` are the commands numbered over what is bound at last
--     all_bound                       what commands mention is bound after them
--     mention_below, below_mention    the numbers mentioned are those of the things bound
-- Assumes nothing.
use mathlib.Core.Path.{◌≡◌, refl, sym, ap, ◌∙◌}
use mathlib.Core.Bool.{Bool, true, false, cond}
use mathlib.Core.List.{List, [], ◌∷◌, ◌++◌, map, append-nil, append_assoc}
use Prim.Native.Nat.{ℕ, suc, ◌≤◌, ◌<◌}
use native.Mathlib.Omega.{arith}
use lib.ListN.{length, length-append}
use lib.Seq.{append_snoc}
use lib.Dec.{eqb}
use borrow.Author.Tests.{eqb-true, eqb-false, eq-eqb, ltb-true, ltb-false}
use Rattle.definitions.specs.declared.records.Import.{Import}
use Rattle.definitions.specs.declared.records.Import.TheVariants.{Named, Default, FileName}
use Rattle.definitions.specs.Calls.{Command, bare, byte, over, span, binding, source}
use Rattle.definitions.specs.Store.{same_import, number_in, is_bound, bound, bound_by, bound_after, numbered, numbered_all}
use Rattle.definitions.specs.Claim.{mentions, count}
use Rattle.definitions.proofs.Counting.{never, both}

-- ---- the same thing

pub same_self : (i : Import) → same_import i i ≡ true
unfolding same_import
same_self (Named s n) = rw (eq-eqb s s refl, eq-eqb n n refl)
same_self (Default s) = eq-eqb s s refl
same_self FileName = refl

pub same_is : (i j : Import) → same_import i j ≡ true → i ≡ j
unfolding same_import
same_is (Named s n) (Named t m) e =
    let h = both (eqb s t) (eqb n m) e in
    let p : s ≡ t = eqb-true s t h.0 in
    let q : n ≡ m = eqb-true n m h.1 in
    cc
same_is (Named s n) (Default t) e = never e
same_is (Named s n) FileName e = never e
same_is (Default s) (Named t m) e = never e
same_is (Default s) (Default t) e = ap Default (eqb-true s t e)
same_is (Default s) FileName e = never e
same_is FileName (Named t m) e = never e
same_is FileName (Default t) e = never e
same_is FileName FileName e = refl

-- ---- a number in a list and in a longer one

pub number_le : (js : List Import) (i : Import) → number_in js i ≤ length js
unfolding number_in
number_le [] i = omega arith
number_le (j ∷ js) i = go (same_import j i) (number_le js i)
  where
    go : (b : Bool) → number_in js i ≤ length js → cond b 0 (suc (number_in js i)) ≤ suc (length js)
    go true h = omega arith
    go false h = omega arith

pub number_append : (js ks : List Import) (i : Import) → number_in js i < length js → number_in (js ++ ks) i ≡ number_in js i
unfolding number_in
number_append [] ks i h = absurd (omega arith)
number_append (j ∷ js) ks i h = go (same_import j i) h (number_append js ks i)
  where
    go : (b : Bool) → cond b 0 (suc (number_in js i)) < suc (length js) → (number_in js i < length js → number_in (js ++ ks) i ≡ number_in js i)
        → cond b 0 (suc (number_in (js ++ ks) i)) ≡ cond b 0 (suc (number_in js i))
    go true h ih = refl
    go false h ih = ap suc (ih (omega arith))

pub number_added : (js ks : List Import) (i : Import) → length js ≤ number_in js i → number_in (js ++ i ∷ ks) i ≡ length js
unfolding number_in
number_added [] ks i h = rw (same_self i)
number_added (j ∷ js) ks i h = go (same_import j i) h (number_added js ks i)
  where
    go : (b : Bool) → suc (length js) ≤ cond b 0 (suc (number_in js i)) → (length js ≤ number_in js i → number_in (js ++ i ∷ ks) i ≡ length js)
        → cond b 0 (suc (number_in (js ++ i ∷ ks) i)) ≡ suc (length js)
    go true h ih = absurd (omega arith)
    go false h ih = ap suc (ih (omega arith))

-- ---- binding adds behind

pub grows : (js : List Import) (i : Import) → (zs : List Import) × (bound js i ≡ js ++ zs)
unfolding bound
grows js i = go (is_bound js i)
  where
    go : (b : Bool) → (zs : List Import) × (cond b js (js ++ i ∷ []) ≡ js ++ zs)
    go true = ([], sym (append-nil js))
    go false = (i ∷ [], refl)

-- in any longer list the thing has the number that it had or was given
pub number_kept : (js ks : List Import) (i : Import) → number_in (bound js i ++ ks) i ≡ number_in js i
unfolding bound
number_kept js ks i = go (is_bound js i) refl
  where
    go : (b : Bool) → is_bound js i ≡ b → number_in (cond b js (js ++ i ∷ []) ++ ks) i ≡ number_in js i
    go true e = number_append js ks i (ltb-true _ _ e)
    go false e =
        let h : length js ≤ number_in js i = ltb-false _ _ e in
        let q : number_in js i ≡ length js = omega (arith, number_le js i) in
        rw append_snoc (number_added js ks i h ∙ sym q)

-- it stands among those bound
pub number_below : (js : List Import) (i : Import) → number_in js i < length (bound js i)
unfolding bound
number_below js i = go (is_bound js i) refl
  where
    go : (b : Bool) → is_bound js i ≡ b → number_in js i < length (cond b js (js ++ i ∷ []))
    go true e = ltb-true _ _ e
    go false e = omega (arith, number_le js i, length-append js (i ∷ []))

-- ---- the things that commands mention

unfoldable pub imports_of : List (Command Import) → List Import
imports_of [] = []
imports_of (bare c ∷ cs) = imports_of cs
imports_of (byte c n ∷ cs) = imports_of cs
imports_of (over c e ∷ cs) = imports_of cs
imports_of (span c s ∷ cs) = imports_of cs
imports_of (binding i ∷ cs) = i ∷ imports_of cs
imports_of (source i p ∷ cs) = i ∷ imports_of cs

unfoldable pub bound_all : List Import → List Import → List Import
bound_all js [] = js
bound_all js (i ∷ is) = bound_all (bound js i) is

unfoldable pub numbers_all : List Import → List Import → List ℕ
numbers_all js [] = []
numbers_all js (i ∷ is) = number_in js i ∷ numbers_all (bound js i) is

pub bound_after_commands : (js : List Import) (cs : List (Command Import)) → bound_after js cs ≡ bound_all js (imports_of cs)
unfolding bound_after bound_by imports_of bound_all
bound_after_commands js [] = refl
bound_after_commands js (bare c ∷ cs) = bound_after_commands js cs
bound_after_commands js (byte c n ∷ cs) = bound_after_commands js cs
bound_after_commands js (over c e ∷ cs) = bound_after_commands js cs
bound_after_commands js (span c s ∷ cs) = bound_after_commands js cs
bound_after_commands js (binding i ∷ cs) = bound_after_commands (bound js i) cs
bound_after_commands js (source i p ∷ cs) = bound_after_commands (bound js i) cs

pub numbers_mentioned : (js : List Import) (cs : List (Command Import)) → mentions (numbered_all js cs) ≡ numbers_all js (imports_of cs)
unfolding bound_by imports_of numbers_all mentions numbered_all numbered
numbers_mentioned js [] = refl
numbers_mentioned js (bare c ∷ cs) = numbers_mentioned js cs
numbers_mentioned js (byte c n ∷ cs) = numbers_mentioned js cs
numbers_mentioned js (over c e ∷ cs) = numbers_mentioned js cs
numbers_mentioned js (span c s ∷ cs) = numbers_mentioned js cs
numbers_mentioned js (binding i ∷ cs) = ap (number_in js i ∷◌) (numbers_mentioned (bound js i) cs)
numbers_mentioned js (source i p ∷ cs) = ap (number_in js i ∷◌) (numbers_mentioned (bound js i) cs)

pub imports_append : (cs ds : List (Command Import)) → imports_of (cs ++ ds) ≡ imports_of cs ++ imports_of ds
unfolding imports_of
imports_append [] ds = refl
imports_append (bare c ∷ cs) ds = imports_append cs ds
imports_append (byte c n ∷ cs) ds = imports_append cs ds
imports_append (over c e ∷ cs) ds = imports_append cs ds
imports_append (span c s ∷ cs) ds = imports_append cs ds
imports_append (binding i ∷ cs) ds = ap (i ∷◌) (imports_append cs ds)
imports_append (source i p ∷ cs) ds = ap (i ∷◌) (imports_append cs ds)

pub bound_append : (js : List Import) (cs ds : List (Command Import)) → bound_after js (cs ++ ds) ≡ bound_after (bound_after js cs) ds
unfolding bound_after
bound_append js [] ds = refl
bound_append js (c ∷ cs) ds = bound_append (bound_by js c) cs ds

pub numbered_append : (js : List Import) (cs ds : List (Command Import))
    → numbered_all js (cs ++ ds) ≡ numbered_all js cs ++ numbered_all (bound_after js cs) ds
unfolding bound_after numbered_all
numbered_append js [] ds = refl
numbered_append js (c ∷ cs) ds = ap (numbered js c ∷◌) (numbered_append (bound_by js c) cs ds)

-- ---- growth over many

pub all_grow : (js is : List Import) → (zs : List Import) × (bound_all js is ≡ js ++ zs)
unfolding bound_all
all_grow js [] = ([], sym (append-nil js))
all_grow js (i ∷ is) =
    let g = grows js i in
    let h = all_grow (bound js i) is in
    (g.0 ++ h.0, h.1 ∙ ap (λ (l : List Import). l ++ h.0) g.1 ∙ append_assoc js g.0 h.0)

pub after_grows : (js : List Import) (cs : List (Command Import)) → (zs : List Import) × (bound_after js cs ≡ js ++ zs)
after_grows js cs = let g = all_grow js (imports_of cs) in (g.0, bound_after_commands js cs ∙ g.1)

longer : (js is : List Import) → length js ≤ length (bound_all js is)
longer js is = let g = all_grow js is in omega (arith, ap length g.1, length-append js g.0)

-- ---- numbers over what is bound at last

-- a command that is numbered over a longer list
kept_by : (js ks : List Import) (c : Command Import) → numbered (bound_by js c ++ ks) c ≡ numbered js c
unfolding bound_by numbered
kept_by js ks (bare c) = refl
kept_by js ks (byte c n) = refl
kept_by js ks (over c e) = refl
kept_by js ks (span c s) = refl
kept_by js ks (binding i) = ap binding (number_kept js ks i)
kept_by js ks (source i p) = ap (λ (n : ℕ). source n p) (number_kept js ks i)

pub numbered_at_last : (js : List Import) (cs : List (Command Import)) → numbered_all js cs ≡ map (numbered (bound_after js cs)) cs
unfolding bound_after numbered_all
numbered_at_last js [] = refl
numbered_at_last js (c ∷ cs) =
    let g = after_grows (bound_by js c) cs in
    let e : numbered (bound_after (bound_by js c) cs) c ≡ numbered js c = ap (λ (l : List Import). numbered l c) g.1 ∙ kept_by js g.0 c in
    rw (numbered_at_last (bound_by js c) cs, e)

-- ---- each thing mentioned is bound

abbrev pub AllBound : List Import → List Import → Type 0
AllBound js [] = Unit {0}
AllBound js (i ∷ is) = (number_in js i < length js) × AllBound js is

pub all_bound : (js is : List Import) → AllBound (bound_all js is) is
unfolding bound_all
all_bound js [] = tt
all_bound js (i ∷ is) = (here, all_bound (bound js i) is)
  where
    here : number_in (bound_all (bound js i) is) i < length (bound_all (bound js i) is)
    here =
        let g = all_grow (bound js i) is in
        let e : number_in (bound_all (bound js i) is) i ≡ number_in js i = ap (λ (l : List Import). number_in l i) g.1 ∙ number_kept js g.0 i in
        omega (arith, number_below js i, longer (bound js i) is)

-- ---- which numbers are mentioned

numbers_below : (b : ℕ) (js is : List Import) → 0 < count (eqb b) (numbers_all js is) → b < length (bound_all js is)
unfolding bound_all numbers_all count
numbers_below b js [] h = absurd (omega arith)
numbers_below b js (i ∷ is) h = go (eqb b (number_in js i)) refl h (numbers_below b (bound js i) is)
  where
    go : (q : Bool) → eqb b (number_in js i) ≡ q
        → 0 < cond q (suc (count (eqb b) (numbers_all (bound js i) is))) (count (eqb b) (numbers_all (bound js i) is))
        → (0 < count (eqb b) (numbers_all (bound js i) is) → b < length (bound_all (bound js i) is))
        → b < length (bound_all (bound js i) is)
    go true e h ih = omega (arith, eqb-true b (number_in js i) e, number_below js i, longer (bound js i) is)
    go false e h ih = ih h

below_numbers : (b : ℕ) (js is : List Import) → length js ≤ b → b < length (bound_all js is) → 0 < count (eqb b) (numbers_all js is)
unfolding bound_all numbers_all count bound
below_numbers b js [] l h = absurd (omega arith)
below_numbers b js (i ∷ is) l h = go (eqb b (number_in js i)) refl (below_numbers b (bound js i) is)
  where
    -- where another number is mentioned here, b is none of those bound here
    past : (p : Bool) → is_bound js i ≡ p → (b ≡ number_in js i → ⊥) → length (cond p js (js ++ i ∷ [])) ≤ b
    past true f n = l
    past false f n =
        omega (arith, ltb-false (number_in js i) (length js) f, number_le js i, length-append js (i ∷ []), n)

    go : (q : Bool) → eqb b (number_in js i) ≡ q
        → (length (bound js i) ≤ b → b < length (bound_all (bound js i) is) → 0 < count (eqb b) (numbers_all (bound js i) is))
        → 0 < cond q (suc (count (eqb b) (numbers_all (bound js i) is))) (count (eqb b) (numbers_all (bound js i) is))
    go true e ih = omega arith
    go false e ih = ih (past (is_bound js i) refl (eqb-false b (number_in js i) e)) h

pub mention_below : (b : ℕ) (js : List Import) (cs : List (Command Import))
    → 0 < count (eqb b) (mentions (numbered_all js cs)) → b < length (bound_after js cs)
mention_below b js cs h = rw (bound_after_commands js cs) (numbers_below b js (imports_of cs) (rw (numbers_mentioned js cs) at h))

pub below_mention : (b : ℕ) (js : List Import) (cs : List (Command Import))
    → length js ≤ b → b < length (bound_after js cs) → 0 < count (eqb b) (mentions (numbered_all js cs))
below_mention b js cs l h = rw (numbers_mentioned js cs) (below_numbers b js (imports_of cs) l (rw (bound_after_commands js cs) at h))
