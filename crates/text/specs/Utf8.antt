-- Well-formed UTF-8 and the code points that it stands for, from the Unicode Standard, section 3.9.
use Rattle.std.specs.Prelude.{ℕ, zero, suc, ◌+◌, ◌*◌, ◌-◌, Bool, true, cond, ◌&&◌, List, [], ◌∷◌, length, get_or, leb, ltb}
use Rattle.std.specs.Prelude.{Option}
use Rattle.std.specs.Prelude.{Some, None}

-- a row of Table 3-7: for each byte of a sequence the least and the greatest that it may be
abbrev pub Row : Type 0
Row = List (ℕ × ℕ)

-- Table 3-7, Well-Formed UTF-8 Byte Sequences
abbrev pub table : List Row
table =
    ((0x00, 0x7f) ∷ [])
    ∷ ((0xc2, 0xdf) ∷ (0x80, 0xbf) ∷ [])
    ∷ ((0xe0, 0xe0) ∷ (0xa0, 0xbf) ∷ (0x80, 0xbf) ∷ [])
    ∷ ((0xe1, 0xec) ∷ (0x80, 0xbf) ∷ (0x80, 0xbf) ∷ [])
    ∷ ((0xed, 0xed) ∷ (0x80, 0x9f) ∷ (0x80, 0xbf) ∷ [])
    ∷ ((0xee, 0xef) ∷ (0x80, 0xbf) ∷ (0x80, 0xbf) ∷ [])
    ∷ ((0xf0, 0xf0) ∷ (0x90, 0xbf) ∷ (0x80, 0xbf) ∷ (0x80, 0xbf) ∷ [])
    ∷ ((0xf1, 0xf3) ∷ (0x80, 0xbf) ∷ (0x80, 0xbf) ∷ (0x80, 0xbf) ∷ [])
    ∷ ((0xf4, 0xf4) ∷ (0x80, 0x8f) ∷ (0x80, 0xbf) ∷ (0x80, 0xbf) ∷ [])
    ∷ []

-- the list has a byte at i, from lo to hi
unfoldable pub within : List ℕ → ℕ → ℕ → ℕ → Bool
within l i lo hi = ltb i (length l) && (leb lo (get_or l i 0) && leb (get_or l i 0) hi)

-- the bytes from i on are as the row says
abbrev pub matches : ℕ → Row → List ℕ → Bool
matches i [] l = true
matches i (r ∷ rs) l = within l i r.0 r.1 && matches (suc i) rs l

-- how many bytes the row has that the front of the list fits: 0 where none fits
abbrev pub width_by : List Row → List ℕ → ℕ
width_by [] l = 0
width_by (r ∷ rs) l = cond (matches 0 r l) (length r) (width_by rs l)

-- how many bytes a row has whose first byte fits and whose others are these: 0 where they don't fit
abbrev pub rest : Row → List ℕ → ℕ
rest r l = cond (matches 1 r l) (suc (length r)) 0

-- how many bytes the well-formed sequence at the front has: 0 where there is none
unfoldable pub width : List ℕ → ℕ
width l = width_by table l

-- a number of bytes, where there are some
abbrev pub nonzero : ℕ → Option ℕ
nonzero zero = None
nonzero (suc n) = Some (suc n)

-- Table 3-6, UTF-8 Bit Distribution: the code point of a well-formed sequence
abbrev pub code_of : List ℕ → ℕ
code_of [] = 0
code_of (a ∷ []) = a
code_of (a ∷ b ∷ []) = (a - 0xc0) * 64 + (b - 0x80)
code_of (a ∷ b ∷ c ∷ []) = (a - 0xe0) * 4096 + (b - 0x80) * 64 + (c - 0x80)
code_of (a ∷ b ∷ c ∷ d ∷ l) = (a - 0xf0) * 262144 + (b - 0x80) * 4096 + (c - 0x80) * 64 + (d - 0x80)

-- at the start of a sequence of this width: ill-formed here, or on after it
unfoldable pub after : ℕ → ℕ → (ℕ → Option ℕ) → Option ℕ
after zero at go = Some at
after (suc n) at go = go n

-- the first ill-formed sequence of what is left, which begins at `at`, with n bytes of a sequence still to pass
unfoldable pub ill_from : ℕ → ℕ → List ℕ → Option ℕ
ill_from n at [] = None
ill_from zero at (b ∷ l) = after (width (b ∷ l)) at (λ n. ill_from n (suc at) l)
ill_from (suc n) at (b ∷ l) = ill_from n (suc at) l

-- the start of the first ill-formed sequence
unfoldable pub first_ill : List ℕ → Option ℕ
first_ill l = ill_from 0 0 l
