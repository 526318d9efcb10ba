-- The first byte tells the row of Table 3-7: the rows before it end below that byte, and those after it begin above. Assumes nothing.
use mathlib.Core.Path.{◌≡◌, refl, sym, ◌∙◌}
use mathlib.Core.Bool.{true, false, ◌&&◌, and-false}
use mathlib.Core.List.{List, [], ◌∷◌}
use Prim.Native.Nat.{ℕ, zero, suc, ◌+◌, ◌≤◌, ◌<◌}
use native.Mathlib.Numerals.{add-one}
use native.Mathlib.Omega.{arith}
use lib.ListN.{length, get_or, take, drop, drop_of_length-le}
use lib.Seq.{drop-cons}
use borrow.Author.Tests.{lt-ltb, le-leb, lt-leb}
use Rattle.std.specs.Prelude.{Some, None}
use Rattle.text.specs.Utf8.{Row, table, within, matches, width_by, rest, nonzero, width}

-- every row ends below the byte, every row begins above it, and it is the row's first byte
abbrev pub Over : ℕ → List Row → Type 0
Over b [] = Unit {0}
Over b ([] ∷ rs) = ⊥
Over b ((r ∷ q) ∷ rs) = (r.1 < b) × Over b rs

abbrev pub Under : ℕ → List Row → Type 0
Under b [] = Unit {0}
Under b ([] ∷ rs) = ⊥
Under b ((r ∷ q) ∷ rs) = (b < r.0) × Under b rs

abbrev pub Leads : ℕ → Row → Type 0
Leads b [] = ⊥
Leads b (r ∷ q) = (r.0 ≤ b) × (b ≤ r.1)

abbrev pub others : Row → Row
others [] = []
others (r ∷ q) = q

module _ (l : List ℕ) where
  inside : (lo hi : ℕ) → 0 < length l → lo ≤ get_or l 0 0 → get_or l 0 0 ≤ hi → within l 0 lo hi ≡ true
  unfolding within
  inside lo hi h a b = rw (lt-ltb 0 (length l) h, le-leb lo (get_or l 0 0) a, le-leb (get_or l 0 0) hi b)

  above : (lo hi : ℕ) → hi < get_or l 0 0 → within l 0 lo hi ≡ false
  unfolding within
  above lo hi h = simp (lt-leb (get_or l 0 0) hi h, and-false)

  below : (lo hi : ℕ) → get_or l 0 0 < lo → within l 0 lo hi ≡ false
  unfolding within
  below lo hi h = simp (lt-leb lo (get_or l 0 0) h, and-false)

  none_fits : (rs : List Row) → Under (get_or l 0 0) rs → width_by rs l ≡ 0
  none_fits [] u = refl
  none_fits ([] ∷ rs) u = absurd u
  none_fits ((r ∷ q) ∷ rs) u = rw (below r.0 r.1 u.0) (none_fits rs u.1)

  row_fits : (rs : List Row) (k : ℕ) → 0 < length l → Over (get_or l 0 0) (take k rs) → Leads (get_or l 0 0) (get_or rs k [])
      → Under (get_or l 0 0) (drop (suc k) rs) → width_by rs l ≡ rest (others (get_or rs k [])) l
  row_fits [] zero h o i u = absurd i
  row_fits [] (suc k) h o i u = absurd i
  row_fits ([] ∷ rs) zero h o i u = absurd i
  row_fits ((r ∷ q) ∷ rs) zero h o i u = rw (inside r.0 r.1 h i.0 i.1, none_fits rs u)
  row_fits ([] ∷ rs) (suc k) h o i u = absurd o
  row_fits ((r ∷ q) ∷ rs) (suc k) h o i u = rw (above r.0 r.1 o.0) (row_fits rs k h o.1 i u)

  past_rows : (rs : List Row) (k : ℕ) → Over (get_or l 0 0) (take k rs) → width_by rs l ≡ width_by (drop k rs) l
  past_rows rs zero o = refl
  past_rows [] (suc k) o = refl
  past_rows ([] ∷ rs) (suc k) o = absurd o
  past_rows ((r ∷ q) ∷ rs) (suc k) o = rw (above r.0 r.1 o.0) (past_rows rs k o.1)

  -- the first byte is that of row k; it stands between the rows before k and the others
  abbrev pub InRow : ℕ → Type 0
  InRow k = (0 < length l) × Over (get_or l 0 0) (take k table) × Leads (get_or l 0 0) (get_or table k []) × Under (get_or l 0 0) (drop (suc k) table)

  abbrev pub Between : ℕ → Type 0
  Between k = Over (get_or l 0 0) (take k table) × Under (get_or l 0 0) (drop k table)

  pub by_row : (k : ℕ) → InRow k → rest (others (get_or table k [])) l ≡ width l
  unfolding width
  by_row k h = sym (row_fits table k h.0 h.1 h.2 h.3)

  pub no_row : (k : ℕ) → Between k → 0 ≡ width l
  unfolding width
  no_row k h = sym (past_rows table k h.0 ∙ none_fits (drop k table) h.1)

pub no_byte : (l : List ℕ) → length l ≡ 0 → 0 ≡ width l
unfolding width within
no_byte [] e = refl
no_byte (b ∷ l) e = absurd (omega arith)

-- ---- a loop over a row: what is left of it decides
module _ (l : List ℕ) (r : Row) (i : ℕ) where
  pub row_step : i < length r
      → matches (i + 1) (drop i r) l ≡ (within l (i + 1) (get_or r i (0, 0)).0 (get_or r i (0, 0)).1 && matches (i + 1 + 1) (drop (i + 1) r) l)
  row_step h =
      let d : drop i r ≡ get_or r i (0, 0) ∷ drop (i + 1) r = rw (add-one) (drop-cons r i (0, 0) h) in
      let e : suc (i + 1) ≡ i + 1 + 1 = omega arith in
      rw (d, e)

  pub row_end : length r ≤ i → matches (i + 1) (drop i r) l ≡ true
  row_end h = rw (drop_of_length-le r h)

-- ---- a width as an option
pub no_width : (n : ℕ) → nonzero n ≡ None → n ≡ 0
no_width zero e = refl
no_width (suc n) e = cc

pub some_width : (n w : ℕ) → nonzero n ≡ Some w → (n ≡ w) × (0 < w)
some_width zero w e = cc
some_width (suc n) w e = let q : suc n ≡ w = cc in (q, omega arith)
