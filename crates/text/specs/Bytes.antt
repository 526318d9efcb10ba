-- Lists of bytes: equality with a fixed word, and the first byte that passes a test.
use Rattle.std.specs.Prelude.{ℕ, suc, Bool, cond, List, [], ◌∷◌, leb, bytes_eq}
use Prim.Native.Char.{code}
use Prim.Native.String.{String}
use Prim.Native.String as string
use Rattle.std.specs.Prelude.{Option}
use Rattle.std.specs.Prelude.{Some, None}

-- the bytes of a word of ASCII characters: the code of each
abbrev pub ascii : String → List ℕ
ascii string.[] = []
ascii (string.◌∷◌ c w) = code c ∷ ascii w

-- the two lists have the same bytes: what `==` on slices says
abbrev pub same : List ℕ → List ℕ → Bool
same a b = bytes_eq a b

-- the place of the first byte that passes the test, in a list whose first byte stands at `at`
unfoldable pub find_from : (ℕ → Bool) → ℕ → List ℕ → Option ℕ
find_from p at [] = None
find_from p at (b ∷ l) = cond (p b) (Some at) (find_from p (suc at) l)

abbrev pub find : (ℕ → Bool) → List ℕ → Option ℕ
find p l = find_from p 0 l

-- a byte over 7F
abbrev pub over_ascii : ℕ → Bool
over_ascii b = leb 0x80 b
