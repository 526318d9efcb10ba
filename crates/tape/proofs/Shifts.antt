-- A byte at place k of a number, by shifts and or: what sums and products, quotients and remainders give, for every value.
--     joined                                a number of k bits and a byte shifted up to k, by or
--     four_joined                           the number of four bytes
--     taken                                 what stands above the byte shifted out, then what stands below it
--     two_taken, four_taken, span_taken     the bytes of a number of two and of four bytes, and of a span
-- Assumes nothing.
use mathlib.Core.Path.{◌≡◌, sym, ap, ap₂, ◌∙◌}
use mathlib.Core.List.{[], ◌∷◌, ◌++◌}
use Prim.Native.Nat.{ℕ, ◌+◌, ◌*◌, ◌/◌, ◌%◌, ◌^◌, ◌≤◌, ◌<◌}
use native.Mathlib.Nat.{add_comm, div-one}
use native.Mathlib.Omega.{arith}
use lib.Bits.{bit_or, or_shifted_r}
use lib.Pow.{shl_exact, shl-shr, shr-shr, field}
use Rattle.tape.specs.Numbers.{u16_bytes, u32_bytes}

pub joined : (low b k w : ℕ) → low < 2 ^ k → b < 256 → 8 + k ≤ w → bit_or low (b * 2 ^ k % 2 ^ w) ≡ low + b * 2 ^ k
joined low b k w small byte fits =
    ap (bit_or low) (shl_exact 8 k w byte fits) ∙ or_shifted_r b k low small ∙ add_comm (b * 2 ^ k) low

pub four_joined :
    (a b c d : ℕ)
    → a < 256
    → b < 256
    → c < 256
    → d < 256
    → bit_or (bit_or (bit_or a (b * 2 ^ 8 % 2 ^ 32)) (c * 2 ^ 16 % 2 ^ 32)) (d * 2 ^ 24 % 2 ^ 32) ≡ a + b * 256 + c * 65536 + d * 16777216
four_joined a b c d p q r s =
    rw (joined a b 8 32 p q (omega arith), joined (a + b * 256) c 16 32 (omega arith) r (omega arith))
    (joined (a + b * 256 + c * 65536) d 24 32 (omega arith) s (omega arith))

pub taken : (x above k : ℕ) → x * 2 ^ above % 2 ^ (8 + (above + k)) / 2 ^ (above + k) ≡ x / 2 ^ k % 256
taken x above k =
    field (x * 2 ^ above) 8 (above + k)
    ∙ ap (λ (n : ℕ). n % 256) (sym (shr-shr (x * 2 ^ above) above k) ∙ ap (λ (n : ℕ). n / 2 ^ k) (shl-shr x above))

first : (x : ℕ) → x / 2 ^ 0 % 256 ≡ x % 256
first x = ap (λ (n : ℕ). n % 256) (div-one x)

pub two_taken : (x : ℕ) → x * 2 ^ 8 % 2 ^ 16 / 2 ^ 8 ∷ x / 2 ^ 8 ∷ [] ≡ u16_bytes x
two_taken x = λ ι. (taken x 8 0 ∙ first x) ι ∷ x / 256 ∷ []

pub four_taken :
    (x : ℕ)
    → x * 2 ^ 24 % 2 ^ 32 / 2 ^ 24 ∷ x * 2 ^ 16 % 2 ^ 32 / 2 ^ 24 ∷ x * 2 ^ 8 % 2 ^ 32 / 2 ^ 24 ∷ x / 2 ^ 24 ∷ [] ≡ u32_bytes x
four_taken x = λ ι. (taken x 24 0 ∙ first x) ι ∷ taken x 16 8 ι ∷ taken x 8 16 ι ∷ x / 16777216 ∷ []

pub span_taken :
    (s l : ℕ)
    → s * 2 ^ 8 % 2 ^ 16 / 2 ^ 8 ∷ s / 2 ^ 8 ∷ l * 2 ^ 8 % 2 ^ 16 / 2 ^ 8 ∷ l / 2 ^ 8 ∷ [] ≡ u16_bytes s ++ u16_bytes l
span_taken s l = ap₂ ◌++◌ (two_taken s) (two_taken l)
