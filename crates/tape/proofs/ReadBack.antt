-- Numbers on tapes.
--     u16_small, u32_small, u64_small, span_small     what is read off a list of bytes fits its width
--     u16_back, u32_back, u64_back, span_back         reading gives back what was written
-- Assumes nothing.
use mathlib.Core.Path.{◌≡◌, ◌∙◌}
use mathlib.Core.List.{List, ◌++◌}
use Prim.Native.Nat.{ℕ, ◌+◌, ◌*◌, ◌/◌, ◌%◌, ◌^◌, ◌<◌}
use native.Mathlib.Omega.{arith}
use lib.ListN.{get_or}
use Rattle.text.specs.declared.spans.Span.{Span}
use Rattle.tape.specs.Numbers.{u16_at, u32_at, u64_at, span_at, u16_bytes, u32_bytes, u64_bytes, span_bytes}

module _ (t : List ℕ) (bytes : (k : ℕ) → get_or t k 0 < 256) where
  pub u16_small : (i : ℕ) → u16_at t i < 65536
  u16_small i = omega (arith, bytes i, bytes (i + 1))

  pub u32_small : (i : ℕ) → u32_at t i < 2 ^ 32
  u32_small i = omega (arith, bytes i, bytes (i + 1), bytes (i + 2), bytes (i + 3))

  pub u64_small : (i : ℕ) → u64_at t i < 2 ^ 64
  u64_small i = omega (arith, u32_small i, u32_small (i + 4))

  pub span_small : (i : ℕ) → ((span_at t i).start < 65536) × ((span_at t i).len < 65536)
  span_small i = (u16_small i, u16_small (i + 2))

pub u16_back : (x : ℕ) (t : List ℕ) → u16_at (u16_bytes x ++ t) 0 ≡ x
u16_back x t = omega arith

pub u32_back : (x : ℕ) (t : List ℕ) → u32_at (u32_bytes x ++ t) 0 ≡ x
u32_back x t = omega arith

pub u64_back : (x : ℕ) (t : List ℕ) → u64_at (u64_bytes x ++ t) 0 ≡ x
u64_back x t =
    let lo = u32_back (x % 4294967296) (u32_bytes (x / 4294967296) ++ t) in
    let hi = u32_back (x / 4294967296) t in
    (λ ι. lo ι + hi ι * 4294967296) ∙ omega arith

pub span_back : (s : Span) (t : List ℕ) → span_at (span_bytes s ++ t) 0 ≡ s
span_back s t = λ ι. record { start = u16_back s.start (u16_bytes s.len ++ t) ι; len = u16_back s.len t ι }
