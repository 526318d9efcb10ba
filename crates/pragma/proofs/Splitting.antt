-- A pragma's parts one after another, as the code cuts them out.
--     split_first, first_inside
--                            the first part, and those behind it
--     root_parts, root_length
--     behind_none            nothing stands behind the last part
--     behind_length          each part has its dot before it
-- Assumes nothing.
use Rattle.std.specs.Prelude.{None, Option, Some}
use Rattle.std.specs.Option.{unwrap_or}
use mathlib.Core.Path.{◌≡◌, refl, sym, ap, ◌∙◌}
use mathlib.Core.Bool.{Bool, true, false, cond}
use mathlib.Core.List.{List, [], ◌∷◌}
use Prim.Native.Nat.{ℕ, suc, ◌-◌, ◌≤◌}
use native.Mathlib.Nat.{sub-zero}
use native.Mathlib.Numerals.{add-one}
use native.Mathlib.Omega.{arith}
use lib.ListN.{length, take, drop}
use lib.Seq.{take-length, drop-length, length-take-le}
use lib.Dec.{eqb}
use borrow.Author.Tests.{eqb-true, eqb-false, eq-eqb, ne_eqb}
use Rattle.text.specs.Bytes.{find_from, find}
use Rattle.definitions.specs.Pragmas.{onto, split, parts_read, pragma_of}
use Rattle.text.proofs.Searching.{find_at, find_found}
use Rattle.definitions.proofs.OpeningNotices.{parts_length, split_length}
use Rattle.pragma.specs.Parts.{first_length, parts_behind}

-- `split` tests a byte, `find_byte` the dot
dot_first : (b : ℕ) → eqb b 0x2e ≡ eqb 0x2e b
dot_first b = go (eqb 0x2e b) refl
  where
    go : (t : Bool) → eqb 0x2e b ≡ t → eqb b 0x2e ≡ t
    go true e = eq-eqb b 0x2e (sym (eqb-true 0x2e b e))
    go false e = ne_eqb b 0x2e (λ q. eqb-false 0x2e b e (sym q))

split_at : (l : List ℕ) (at e : ℕ) → find_from (eqb 0x2e) at l ≡ Some e → split l ≡ take (e - at) l ∷ parts_behind (drop (e - at) l)
unfolding find_from split onto parts_behind
split_at [] at e q = let z : ◌≡◌ {A = ℕ} 0 1 = cc in absurd (omega arith)
split_at (b ∷ l) at e q = rw (dot_first b) (go (eqb 0x2e b) q (split_at l (suc at) e))
  where
    go : (t : Bool) → cond t (Some at) (find_from (eqb 0x2e) (suc at) l) ≡ Some e
        → (find_from (eqb 0x2e) (suc at) l ≡ Some e → split l ≡ take (e - suc at) l ∷ parts_behind (drop (e - suc at) l))
        → cond t ([] ∷ split l) (onto b (split l)) ≡ take (e - at) (b ∷ l) ∷ parts_behind (drop (e - at) (b ∷ l))
    go true q ih =
        let z : at ≡ e = cc in
        let d : e - at ≡ 0 = omega arith in
        rw d
    go false q ih =
        let d : e - at ≡ suc (e - suc at) = omega (arith, (find_at (eqb 0x2e) l (suc at) e q).0) in
        rw (d, ih q)

split_none : (l : List ℕ) (at : ℕ) → find_from (eqb 0x2e) at l ≡ None → split l ≡ l ∷ []
unfolding find_from split onto
split_none [] at q = refl
split_none (b ∷ l) at q = rw (dot_first b) (go (eqb 0x2e b) q (split_none l (suc at)))
  where
    go : (t : Bool) → cond t (Some at) (find_from (eqb 0x2e) (suc at) l) ≡ None
        → (find_from (eqb 0x2e) (suc at) l ≡ None → split l ≡ l ∷ []) → cond t ([] ∷ split l) (onto b (split l)) ≡ (b ∷ l) ∷ []
    go true q ih = let z : ◌≡◌ {A = ℕ} 0 1 = cc in absurd (omega arith)
    go false q ih = rw (ih q)

pub split_first : (l : List ℕ) → (first_length l ≤ length l) × (split l ≡ take (first_length l) l ∷ parts_behind (drop (first_length l) l))
unfolding parts_behind
split_first l = go (find (eqb 0x2e) l) refl
  where
    go : (f : Option ℕ) → find (eqb 0x2e) l ≡ f
        → (unwrap_or f (length l) ≤ length l) × (split l ≡ take (unwrap_or f (length l)) l ∷ parts_behind (drop (unwrap_or f (length l)) l))
    go (Some e) q = (omega (arith, (find_found (eqb 0x2e) l e q).inside), rw (sub-zero e) at (split_at l 0 e q))
    go None q = (omega arith, split_none l 0 q ∙ rw (take-length, drop-length))

pub behind_none : (l : List ℕ) → length l ≡ 0 → parts_behind l ≡ []
unfolding parts_behind
behind_none [] h = refl
behind_none (b ∷ l) h = absurd (omega arith)

pub behind_first : (b : ℕ) (l : List ℕ) → parts_behind (b ∷ l) ≡ take (first_length l) l ∷ parts_behind (drop (first_length l) l)
unfolding parts_behind
behind_first b l = (split_first l).1

pub behind_length : (l : List ℕ) → parts_length (parts_behind l) ≡ length l
unfolding parts_behind parts_length
behind_length [] = refl
behind_length (b ∷ l) = split_length l ∙ add-one (length l)

pub first_inside : (l : List ℕ) → first_length l ≤ length l
first_inside l = (split_first l).0

-- the root and what stands behind it
pub root_parts : (l : List ℕ) → pragma_of l ≡ parts_read (take (first_length l) l ∷ parts_behind (drop (first_length l) l))
unfolding pragma_of
root_parts l = ap parts_read (split_first l).1

pub root_length : (l : List ℕ) → length (take (first_length l) l) ≡ first_length l
root_length l = length-take-le (first_length l) l (split_first l).0
