-- Operands are little-endian (docs/TAPES.md). S is a span: start u16, length u16.
use Rattle.std.specs.Prelude.{ℕ, ◌+◌, ◌*◌, ◌/◌, ◌%◌, List, [], ◌∷◌, ◌++◌, get_or}
use Rattle.text.specs.declared.spans.Span.{Span}

-- the number of two bytes, the low one first, at a place of a tape
abbrev pub u16_at : List ℕ → ℕ → ℕ
u16_at t i = get_or t i 0 + get_or t (i + 1) 0 * 256

-- the number of four bytes
abbrev pub u32_at : List ℕ → ℕ → ℕ
u32_at t i = get_or t i 0 + get_or t (i + 1) 0 * 256 + get_or t (i + 2) 0 * 65536 + get_or t (i + 3) 0 * 16777216

-- the number of eight bytes
abbrev pub u64_at : List ℕ → ℕ → ℕ
u64_at t i = u32_at t i + u32_at t (i + 4) * 4294967296

abbrev pub span_at : List ℕ → ℕ → Span
span_at t i = record { start = u16_at t i; len = u16_at t (i + 2) }

-- the bytes of a number of two bytes
abbrev pub u16_bytes : ℕ → List ℕ
u16_bytes x = x % 256 ∷ x / 256 ∷ []

-- the bytes of a number of four bytes
abbrev pub u32_bytes : ℕ → List ℕ
u32_bytes x = x % 256 ∷ x / 256 % 256 ∷ x / 65536 % 256 ∷ x / 16777216 ∷ []

-- the bytes of a number of eight bytes
abbrev pub u64_bytes : ℕ → List ℕ
u64_bytes x = u32_bytes (x % 4294967296) ++ u32_bytes (x / 4294967296)

abbrev pub span_bytes : Span → List ℕ
span_bytes s = u16_bytes s.start ++ u16_bytes s.len
