-- Bytes in hexadecimal, and words as numbers: a word can be compared as a number, and its letters can be read off it again.
use Rattle.std.specs.Prelude.{ℕ, zero, suc, ◌+◌, ◌*◌, ◌-◌, ◌/◌, ◌%◌, ◌^◌, Bool, cond, ◌&&◌, ◌||◌, List, [], ◌∷◌, length, get_or, take, drop, eqb, leb, Option, None, Some, unwrap_or}
use Rattle.text.specs.Bytes.{ascii, same}
use Rattle.vectors.specs.Lines.{is_blank}

-- what a hexadecimal digit counts
abbrev pub digit_of : ℕ → Option ℕ
digit_of b =
    cond (leb 0x30 b && leb b 0x39) (Some (b - 0x30))
    (cond (leb 0x41 b && leb b 0x46) (Some (b - 0x41 + 10))
    (cond (leb 0x61 b && leb b 0x66) (Some (b - 0x61 + 10))
    None))

-- the byte that two digits say, before those of l
abbrev pub paired : Option ℕ → Option ℕ → List ℕ → List ℕ
paired (Some high) (Some low) l = (high * 16 + low) ∷ l
paired (Some high) None l = []
paired None low l = []

-- the bytes that pairs of digits say, up to what is neither a pair nor a blank
unfoldable pub hex_bytes : List ℕ → List ℕ
hex_bytes [] = []
hex_bytes (a ∷ []) = []
hex_bytes (a ∷ b ∷ l) =
    cond (is_blank a) (hex_bytes (b ∷ l))
    (paired (digit_of a) (digit_of b) (hex_bytes l))

-- what a byte counts in a number of a base, 16 where it is no digit, or, in base 32, in a word: the letters of both cases count 1 to 26
unfoldable pub mark_of : ℕ → ℕ → ℕ
mark_of base b = cond (eqb base 32) (b % 32) (unwrap_or (digit_of b) 16)

-- the number that bytes make in a base, behind those that made `value`
unfoldable pub folded : ℕ → ℕ → List ℕ → ℕ
folded base value [] = value
folded base value (b ∷ l) = folded base ((value * base + mark_of base b) % 2 ^ 59) l

-- `U+20AC`, `0xac`
unfoldable pub is_hexadecimal : List ℕ → Bool
is_hexadecimal w = leb 3 (length w) && (same (take 2 w) (ascii "U+") || same (take 2 w) (ascii "0x"))

-- a number in decimal begins with a digit
unfoldable pub is_decimal : List ℕ → Bool
is_decimal w = leb 0x30 (get_or w 0 0) && leb (get_or w 0 0) 0x39

-- the number that a word says; any other word stands from 2 ^ 62 on, by its letters
unfoldable pub value_of : List ℕ → ℕ
value_of w =
    cond (is_hexadecimal w) (folded 16 0 (drop 2 w))
    (cond (is_decimal w) (folded 10 0 w)
    (2 ^ 62 + folded 32 0 w))

-- at most n letters whose marks make `value`, in lower case, before those of l
unfoldable pub spelled : ℕ → ℕ → List ℕ → List ℕ
spelled zero value l = l
spelled (suc n) value l = cond (eqb value 0) l (spelled n (value / 32) ((96 + value % 32) ∷ l))

-- the letters of a word's value, its last n at most
abbrev pub letters_of : ℕ → ℕ → List ℕ
letters_of n value = spelled n (value % 2 ^ 59) []
