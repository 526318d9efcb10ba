-- Callees read off numbered commands with the records that are there: each is what its binding is.
--     callee_found     the callee of a binding that one record has
--     callees_read_back     callees by numbers and records are those by what bindings are
-- Assumes nothing.
use mathlib.Core.Path.{◌≡◌, refl, sym, ap, subst, ◌∙◌}
use mathlib.Core.Bool.{Bool, true, false, cond}
use mathlib.Core.List.{List, [], ◌∷◌, map}
use Prim.Native.Nat.{ℕ, suc, ◌≤◌, ◌<◌}
use native.Mathlib.Nat.{zero-add}
use native.Mathlib.Omega.{arith}
use lib.ListN.{length}
use borrow.Author.Tests.{eq-eqb}
use Rattle.definitions.specs.declared.records.Import.{Import}
use Rattle.definitions.specs.declared.records.Import.TheVariants.{Named, Default, FileName}
use Rattle.definitions.specs.Calls.{Command, bare, byte, over, span, binding, source}
use Rattle.definitions.specs.Store.{number_in, numbered}
use Rattle.definitions.specs.Records.{Entry, named, required, file}
use Rattle.definitions.specs.Callees.{Callee, callee_by, name_behind, callee_behind, callees_read}
use Rattle.definitions.specs.Claim.{count, is_of, says}
use Rattle.definitions.proofs.Counting.{never, count_le}
use Rattle.definitions.proofs.Numbering.{imports_of, AllBound}
use Rattle.definitions.proofs.TapeEntries.{entry_of}
use Rattle.definitions.proofs.BoundEntries.{entries_for, of_entry, of_once, says_is, bound_said}
use Rattle.definitions.proofs.SymbolicCallees.{callee_for, name_after, callee_after, callees_of}

-- ---- a binding's callee

module _ (b n : ℕ) where
  entry_callee : Entry → List Callee
  entry_callee (named s m c) = record { source = s; name = m } ∷ []
  entry_callee (required s c) = record { source = s; name = n } ∷ []
  entry_callee (file c p) = []

  passed : (x : Entry) (es : List Entry) → is_of b x ≡ false → callee_by b n (x ∷ es) ≡ callee_by b n es
  unfolding is_of callee_by
  passed (named s m c) es h = rw h
  passed (required s c) es h = rw h
  passed (file c p) es h = refl

  callee_none : (es : List Entry) → count (is_of b) es ≡ 0 → callee_by b n es ≡ []
  unfolding count callee_by
  callee_none [] h = refl
  callee_none (x ∷ es) h = go (is_of b x) refl h (callee_none es)
    where
      go : (q : Bool) → is_of b x ≡ q → cond q (suc (count (is_of b) es)) (count (is_of b) es) ≡ 0 → (count (is_of b) es ≡ 0 → callee_by b n es ≡ [])
          → callee_by b n (x ∷ es) ≡ []
      go true e h ih = absurd (omega arith)
      go false e h ih = passed x es e ∙ ih h

  met : (x : Entry) (es : List Entry) → is_of b x ≡ true → count (is_of b) es ≡ 0 → callee_by b n (x ∷ es) ≡ entry_callee x
  unfolding is_of callee_by entry_callee
  met (named s m c) es h k = rw h
  met (required s c) es h k = rw h
  met (file c p) es h k = callee_none es k

  callee_found : (e : Entry) (es : List Entry) → is_of b e ≡ true → count (is_of b) es ≤ 1 → 0 < count (says e) es → callee_by b n es ≡ entry_callee e
  unfolding count
  callee_found e [] o l h = absurd (omega arith)
  callee_found e (x ∷ es) o l h = go (is_of b x) refl (says e x) refl l h (callee_found e es o)
    where
      fewer : count (says e) es ≤ count (is_of b) es
      fewer = count_le (says e) (is_of b) (λ y q. subst (λ (z : Entry). is_of b z ≡ true) (says_is e y q) o) es

      go : (p : Bool) → is_of b x ≡ p → (q : Bool) → says e x ≡ q
          → cond p (suc (count (is_of b) es)) (count (is_of b) es) ≤ 1
          → 0 < cond q (suc (count (says e) es)) (count (says e) es)
          → (count (is_of b) es ≤ 1 → 0 < count (says e) es → callee_by b n es ≡ entry_callee e)
          → callee_by b n (x ∷ es) ≡ entry_callee e
      go true f true g l h ih = met x es f (omega arith) ∙ ap entry_callee (sym (says_is e x g))
      go true f false g l h ih = absurd (omega (arith, fewer))
      go false f true g l h ih = never (sym f ∙ subst (λ (z : Entry). is_of b z ≡ true) (says_is e x g) o)
      go false f false g l h ih = passed x es f ∙ ih l h

  callee_of : (place : ℕ) (i : Import) (k : ℕ) → entry_callee (entry_of place i k) ≡ callee_for i n
  unfolding entry_callee entry_of callee_for
  callee_of place (Named s m) k = refl
  callee_of place (Default s) k = refl
  callee_of place FileName k = refl

-- ---- all callees

name_same : (js : List Import) (cs : List (Command Import)) → name_behind (map (numbered js) cs) ≡ name_after cs
unfolding name_behind numbered
name_same js [] = refl
name_same js (bare c ∷ cs) = refl
name_same js (byte c n ∷ cs) = refl
name_same js (over c e ∷ cs) = refl
name_same js (span c s ∷ cs) = refl
name_same js (binding i ∷ cs) = refl
name_same js (source i p ∷ cs) = refl

-- the records es of the things js
module _ (place : ℕ) (js : List Import) (es : List Entry) (has : (p : Entry → Bool) → count p es ≡ count p (entries_for place 0 js)) where
  bound_callee : (i : Import) (n : ℕ) → number_in js i < length js → callee_by (number_in js i) n es ≡ callee_for i n
  bound_callee i n h =
      let b = number_in js i in
      let once : count (is_of b) es ≡ 1 = has (is_of b) ∙ of_once b place 0 js (omega arith) (omega arith) in
      let said : 0 < count (says (entry_of place i b)) es = rw (has (says (entry_of place i b)), ← zero-add b) (bound_said place 0 js i h) in
      callee_found b n (entry_of place i b) es (of_entry b place i b ∙ eq-eqb b b refl) (omega arith) said ∙ callee_of b n place i b

  behind_read : (cs : List (Command Import)) → AllBound js (imports_of cs) → callee_behind es (map (numbered js) cs) ≡ callee_after cs
  unfolding callee_behind callee_after numbered imports_of
  behind_read [] h = refl
  behind_read (bare c ∷ cs) h = refl
  behind_read (byte c n ∷ cs) h = refl
  behind_read (over c e ∷ cs) h = refl
  behind_read (span c s ∷ cs) h = refl
  behind_read (binding i ∷ cs) h = rw (name_same js cs) (bound_callee i (name_after cs) h.0)
  behind_read (source i p ∷ cs) h = refl

  pub callees_read_back : (cs : List (Command Import)) → AllBound js (imports_of cs) → callees_read es (map (numbered js) cs) ≡ callees_of cs
  unfolding callees_read callees_of numbered imports_of
  callees_read_back [] h = refl
  callees_read_back (bare c ∷ cs) h = rw (behind_read cs h, callees_read_back cs h)
  callees_read_back (byte c n ∷ cs) h = callees_read_back cs h
  callees_read_back (over c e ∷ cs) h = callees_read_back cs h
  callees_read_back (span c s ∷ cs) h = callees_read_back cs h
  callees_read_back (binding i ∷ cs) h = callees_read_back cs h.1
  callees_read_back (source i p ∷ cs) h = callees_read_back cs h.1
