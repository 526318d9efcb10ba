-- A line of the programs, as the specification has it: "each word followed by its bytes as space-parted lowercase hex".
use Rattle.std.specs.Prelude.{ℕ, ◌+◌, ◌/◌, ◌%◌, cond, List, [], ◌∷◌, ◌++◌, ltb}

-- the digits 0 to 9, then a to f
unfoldable pub hex_digit : ℕ → ℕ
hex_digit n = cond (ltb n 10) (0x30 + n) (0x57 + n)

abbrev pub hex_of : ℕ → List ℕ
hex_of b = 0x20 ∷ hex_digit (b / 16) ∷ hex_digit (b % 16) ∷ []

unfoldable pub hex_bytes : List ℕ → List ℕ
hex_bytes [] = []
hex_bytes (b ∷ bs) = hex_of b ++ hex_bytes bs

abbrev pub line_of : List ℕ → List ℕ → List ℕ
line_of word bytes = word ++ hex_bytes bytes ++ (0x0a ∷ [])
