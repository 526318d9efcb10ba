-- Bytes that are no ampersand: no reference begins there, so a search may pass over them.
--     has_bare, bare_passed      one such byte, n of them
--     sign_found, sign_none      what the search for an ampersand says
--     one_there, one_behind,     whether a byte stands at a place
--     one_within
--     sign_first, sign_begins    an ampersand at the front, and where the search found one
-- Assumes nothing.
use Rattle.std.specs.Prelude.{None, Some}
use mathlib.Core.Path.{◌≡◌, refl, sym, ap, ◌∙◌}
use mathlib.Core.Bool.{Bool, true, false, ◌&&◌}
use mathlib.Core.List.{List, [], ◌∷◌}
use Prim.Native.Nat.{ℕ, zero, suc, ◌≤◌, ◌<◌}
use native.Mathlib.Nat.{le_of_suc-le-suc, not-suc-le-zero}
use native.Mathlib.Omega.{arith}
use lib.ListN.{length, get_or, drop, drop_of_length-le}
use lib.Seq.{drop-length}
use lib.Dec.{eqb, ltb}
use borrow.Author.Tests.{eqb-true, eqb-false, eq-eqb, ne_eqb, ltb-true, ltb-false}
use Rattle.text.specs.Bytes.{ascii, find}
use Rattle.text.proofs.Searching.{find_hit, find_found, find_none}
use Rattle.text.proofs.Lists.{drop_one}
use Rattle.references.specs.References.{begins, opens_as, opens_in, opens_reference, has_reference}

-- two tests that disagree
pub never : false ≡ true → ⊥
never e = let z : ◌≡◌ {A = ℕ} 0 1 = cc in omega arith

opens_bare : (b : ℕ) (l : List ℕ) → eqb b 0x26 ≡ false → opens_reference (b ∷ l) ≡ false
unfolding opens_in opens_as
opens_bare b l e = rw e

pub has_bare : (b : ℕ) (l : List ℕ) → eqb b 0x26 ≡ false → has_reference (b ∷ l) ≡ has_reference l
unfolding has_reference
has_bare b l e = rw (opens_bare b l e)

pub bare_passed : (n : ℕ) (l : List ℕ) → n ≤ length l → ((k : ℕ) → k < n → eqb 0x26 (get_or l k 0) ≡ false)
    → has_reference l ≡ has_reference (drop n l)
bare_passed zero l h f = refl
bare_passed (suc n) [] h f = absurd (not-suc-le-zero h)
bare_passed (suc n) (b ∷ l) h f =
    has_bare b l (ne_eqb b 0x26 (λ e. eqb-false 0x26 b (f 0 (omega arith)) (sym e))) ∙ bare_passed n l (le_of_suc-le-suc h) (λ k j. f (suc k) (omega arith))

pub sign_found : (l : List ℕ) (n : ℕ) → find (eqb 0x26) l ≡ Some n → has_reference l ≡ has_reference (drop n l)
sign_found l n e =
    let h = find_found (eqb 0x26) l n e in
    bare_passed n l (omega (arith, h.inside)) h.before

pub sign_none : (l : List ℕ) → find (eqb 0x26) l ≡ None → has_reference l ≡ false
unfolding has_reference
sign_none l e = bare_passed (length l) l (omega arith) (find_none (eqb 0x26) l 0 e) ∙ ap has_reference (drop-length l)

-- ---- the byte at place i

pub one_there : (l : List ℕ) (i x : ℕ) → i < length l → eqb (get_or l i 0) x ≡ begins (x ∷ []) (drop i l)
one_there l i x h = rw (drop_one l i h) (go (eqb (get_or l i 0) x))
  where
    go : (t : Bool) → t ≡ (t && true)
    go true = refl
    go false = refl

pub one_behind : (l : List ℕ) (i x : ℕ) → length l ≤ i → begins (x ∷ []) (drop i l) ≡ false
one_behind l i x h = rw (drop_of_length-le l h)

pub one_within : (l : List ℕ) (i x : ℕ) → begins (x ∷ []) (drop i l) ≡ true → i < length l
one_within l i x e = go (ltb i (length l)) refl
  where
    go : (t : Bool) → ltb i (length l) ≡ t → i < length l
    go true h = ltb-true i (length l) h
    go false h = absurd (never (sym (one_behind l i x (ltb-false i (length l) h)) ∙ e))

pub sign_first : (l : List ℕ) → begins (ascii "&") (drop 0 l) ≡ true → find (eqb 0x26) l ≡ Some 0
sign_first l e =
    let h = one_within l 0 0x26 e in
    find_hit (eqb 0x26) l 0 h (eq-eqb 0x26 (get_or l 0 0) (sym (eqb-true (get_or l 0 0) 0x26 (one_there l 0 0x26 h ∙ e))))

pub sign_begins : (l : List ℕ) (n : ℕ) → find (eqb 0x26) l ≡ Some n → begins (ascii "&") (drop n l) ≡ true
sign_begins l n e =
    let h = find_found (eqb 0x26) l n e in
    sym (one_there l n 0x26 h.inside) ∙ eq-eqb (get_or l n 0) 0x26 (sym (eqb-true 0x26 (get_or l n 0) h.passes))
