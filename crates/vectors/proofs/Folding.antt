-- Numbers folded from bytes, and letters spelled from a number: a loop's steps. Assumes nothing.
use mathlib.Core.Path.{◌≡◌, refl, ap}
use mathlib.Core.List.{List, [], ◌∷◌}
use Prim.Native.Nat.{ℕ, zero, suc, ◌+◌, ◌*◌, ◌-◌, ◌/◌, ◌%◌, ◌^◌, ◌≤◌, ◌<◌}
use native.Mathlib.Nat.{mul-le-mul_left, not-suc-le-zero}
use native.Mathlib.Numerals.{sub-one}
use native.Mathlib.Omega.{arith}
use lib.ListN.{length, get_or, drop, set, drop_of_length-le}
use borrow.Author.Tests.{ne_eqb}
use Rattle.vectors.specs.Values.{mark_of, folded, spelled}
use Rattle.text.proofs.Lists.{drop_one}

pub fold_step : (base value : ℕ) (s : List ℕ) (i : ℕ) → i < length s
    → folded base value (drop i s) ≡ folded base ((value * base + mark_of base (get_or s i 0)) % 2 ^ 59) (drop (i + 1) s)
unfolding folded
fold_step base value s i h = ap (folded base value) (drop_one s i h)

pub fold_end : (base value : ℕ) (s : List ℕ) (i : ℕ) → length s ≤ i → folded base value (drop i s) ≡ value
unfolding folded
fold_end base value s i h = ap (folded base value) (drop_of_length-le s h)

pub product_below : (value base : ℕ) → base ≤ 32 → value * base ≤ value * 32
product_below value base h = mul-le-mul_left value h

pub spelled_none : (n : ℕ) (l : List ℕ) → spelled n 0 l ≡ l
unfolding spelled
spelled_none zero l = refl
spelled_none (suc n) l = refl

pub spelled_end : (n value : ℕ) (l : List ℕ) → n ≡ 0 → spelled n value l ≡ l
unfolding spelled
spelled_end zero value l e = refl
spelled_end (suc n) value l e = absurd (omega arith)

pub spelled_more : (n value : ℕ) (out : List ℕ) → 0 < n → n ≤ length out → (value ≡ 0 → ⊥)
    → spelled n value (drop n out) ≡ spelled (n - 1) (value / 32) (drop (n - 1) (set out (n - 1) (96 + value % 32)))
unfolding spelled
spelled_more zero value out h k f = absurd (not-suc-le-zero h)
spelled_more (suc n) value out h k f =
    rw (ne_eqb value 0 f, sub-one)
    (ap (spelled n (value / 32)) (front_set out n (96 + value % 32) k))
  where
    front_set : (l : List ℕ) (i x : ℕ) → suc i ≤ length l → x ∷ drop (suc i) l ≡ drop i (set l i x)
    front_set [] i x h = absurd (not-suc-le-zero h)
    front_set (y ∷ l) zero x h = refl
    front_set (y ∷ l) (suc i) x h = front_set l i x (omega arith)
