-- What Table 3-7 says of every sequence: it has at most four bytes, the first never from 80 to BF and the others always. Assumes nothing.
use mathlib.Core.Path.{◌≡◌, refl, subst}
use mathlib.Core.Bool.{Bool, true, false, cond, ◌&&◌, ◌||◌, and-false}
use mathlib.Core.List.{List, [], ◌∷◌}
use Prim.Native.Nat.{ℕ, zero, suc, ◌+◌, ◌≤◌, ◌<◌, zero-le}
use native.Mathlib.Nat.{add-zero, add-suc, suc-add, zero-add, le_of_suc-le-suc, not-suc-le-zero}
use native.Mathlib.Omega.{arith}
use lib.ListN.{length, get_or}
use lib.Dec.{leb, ltb}
use borrow.Author.Tests.{ltb-true, leb-true, le-leb, lt-leb}
use Rattle.text.specs.Utf8.{Row, table, within, matches, width_by, width}
use Rattle.text.specs.Spans.{continues}

-- ---- tests
pub both : (a b : Bool) → (a && b) ≡ true → (a ≡ true) × (b ≡ true)
both true b e = (refl, e)
both false b e = let z : ◌≡◌ {A = ℕ} 0 1 = cc in absurd (omega arith)

pub byte_within : (l : List ℕ) (i lo hi : ℕ) → within l i lo hi ≡ true → (i < length l) × (lo ≤ get_or l i 0) × (get_or l i 0 ≤ hi)
unfolding within
byte_within l i lo hi e =
    let p = both (ltb i (length l)) (leb lo (get_or l i 0) && leb (get_or l i 0) hi) e in
    let q = both (leb lo (get_or l i 0)) (leb (get_or l i 0) hi) p.1 in
    (ltb-true i (length l) p.0, leb-true lo (get_or l i 0) q.0, leb-true (get_or l i 0) hi q.1)

pub continuing : (b : ℕ) → 0x80 ≤ b → b ≤ 0xbf → continues b ≡ true
continuing b h k = rw (le-leb 0x80 b h, le-leb b 0xbf k)

-- ---- the shape of the rows, which the table's numbers show by computation
-- the least first byte before n others
abbrev pub floor : ℕ → ℕ
floor zero = 0
floor (suc zero) = 0xc0
floor (suc (suc zero)) = 0xe0
floor (suc (suc (suc n))) = 0xf0

abbrev trails : Row → Bool
trails [] = true
trails (r ∷ q) = leb 0x80 r.0 && (leb r.1 0xbf && trails q)

abbrev shaped : Row → Bool
shaped [] = false
shaped (r ∷ q) = (leb (length q) 3 && trails q) && (leb (floor (length q)) r.0 && (ltb r.1 0x80 || ltb 0xbf r.0))

abbrev all_shaped : List Row → Bool
all_shaped [] = true
all_shaped (r ∷ rs) = shaped r && all_shaped rs

-- ---- n + 1 bytes of a sequence stand at the front of the list
pub record Sequence (l : List ℕ) (n : ℕ) : Type 0 where
  pub short : n ≤ 3
  pub long : n < length l
  pub lead : floor n ≤ get_or l 0 0
  pub first : continues (get_or l 0 0) ≡ false
  pub after : (k : ℕ) → k < n → continues (get_or l (suc k) 0) ≡ true

not_continuing : (b lo hi : ℕ) → lo ≤ b → b ≤ hi → (ltb hi 0x80 || ltb 0xbf lo) ≡ true → continues b ≡ false
not_continuing b lo hi h k e = go (ltb hi 0x80) refl e
  where
    go : (t : Bool) → ltb hi 0x80 ≡ t → (t || ltb 0xbf lo) ≡ true → continues b ≡ false
    go true q e = rw (lt-leb 0x80 b (omega (arith, ltb-true hi 0x80 q)))
    go false q e = rw (lt-leb b 0xbf (omega (arith, ltb-true 0xbf lo e))) (and-false (leb 0x80 b))

trailing : (l : List ℕ) (i : ℕ) (q : Row) → i ≤ length l → trails q ≡ true → matches i q l ≡ true
    → (i + length q ≤ length l) × ((k : ℕ) → k < length q → continues (get_or l (i + k) 0) ≡ true)
trailing l i [] h t m = (omega arith, λ k j. absurd (not-suc-le-zero j))
trailing l i (r ∷ q) h t m =
    let a = both (leb 0x80 r.0) (leb r.1 0xbf && trails q) t in
    let b = both (leb r.1 0xbf) (trails q) a.1 in
    let d = both (within l i r.0 r.1) (matches (suc i) q l) m in
    let w = byte_within l i r.0 r.1 d.0 in
    let rec = trailing l (suc i) q w.0 b.1 d.1 in
    let c : continues (get_or l i 0) ≡ true =
    continuing (get_or l i 0)
    (omega (arith, leb-true 0x80 r.0 a.0, w.1))
    (omega (arith, leb-true r.1 0xbf b.0, w.2)) in
    (omega (arith, rec.0), go c rec.1)
  where
    go : continues (get_or l i 0) ≡ true → ((k : ℕ) → k < length q → continues (get_or l (suc i + k) 0) ≡ true)
        → (k : ℕ) → k < suc (length q) → continues (get_or l (i + k) 0) ≡ true
    go c f zero j = rw (add-zero i) c
    go c f (suc k) j = rw (add-suc i k, ← suc-add i k) (f k (le_of_suc-le-suc j))

row_sequence : (l : List ℕ) (r : Row) (n : ℕ) → shaped r ≡ true → matches 0 r l ≡ true → length r ≡ suc n → Sequence l n
row_sequence l [] n s m e = absurd (omega arith)
row_sequence l (r ∷ q) n s m e =
    let a = both (leb (length q) 3 && trails q) (leb (floor (length q)) r.0 && (ltb r.1 0x80 || ltb 0xbf r.0)) s in
    let b = both (leb (length q) 3) (trails q) a.0 in
    let f = both (leb (floor (length q)) r.0) (ltb r.1 0x80 || ltb 0xbf r.0) a.1 in
    let d = both (within l 0 r.0 r.1) (matches 1 q l) m in
    let w = byte_within l 0 r.0 r.1 d.0 in
    let t = trailing l 1 q w.0 b.1 d.1 in
    let z : length q ≡ n = omega arith in
    subst (Sequence l) z (record {
      short = leb-true (length q) 3 b.0;
      long = omega (arith, t.0);
      lead = omega (arith, leb-true (floor (length q)) r.0 f.0, w.1);
      first = not_continuing (get_or l 0 0) r.0 r.1 w.1 w.2 f.1;
      after = λ k j. rw (← zero-add k, ← suc-add 0 k) (t.1 k j);
    })

pub sequence : (l : List ℕ) (n : ℕ) → width l ≡ suc n → Sequence l n
unfolding width
sequence l n e = of_rows table refl e
  where
    of_rows : (rs : List Row) → all_shaped rs ≡ true → width_by rs l ≡ suc n → Sequence l n
    of_rows [] s e = absurd (omega arith)
    of_rows (r ∷ rs) s e = go (matches 0 r l) refl e (of_rows rs (both (shaped r) (all_shaped rs) s).1)
      where
        go : (t : Bool) → matches 0 r l ≡ t → cond t (length r) (width_by rs l) ≡ suc n → (width_by rs l ≡ suc n → Sequence l n)
            → Sequence l n
        go true m q ih = row_sequence l r n (both (shaped r) (all_shaped rs) s).0 m q
        go false m q ih = ih q

-- ---- bounds of a width
pub width_le : (l : List ℕ) → width l ≤ length l
width_le l = go (width l) refl
  where
    go : (n : ℕ) → width l ≡ n → n ≤ length l
    go zero e = zero-le
    go (suc n) e = (sequence l n e).long

pub width_four : (l : List ℕ) → width l ≤ 4
width_four l = go (width l) refl
  where
    go : (n : ℕ) → width l ≡ n → n ≤ 4
    go zero e = zero-le
    go (suc n) e = omega (arith, (sequence l n e).short)
