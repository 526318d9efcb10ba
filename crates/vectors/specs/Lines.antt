-- The first line of a text, the first word of a line, all its words. A part of a text before or behind a byte.
use Rattle.std.specs.Prelude.{ℕ, zero, suc, ◌+◌, Bool, cond, not, ◌||◌, List, [], ◌∷◌, length, take, drop, eqb, Option, None, Some}
use Rattle.std.specs.List.{prefix_len}
use Rattle.text.specs.Bytes.{find}

-- space, tab, and the CR of a line that ends with CR LF
unfoldable pub is_blank : ℕ → Bool
is_blank b = eqb b 0x20 || eqb b 0x09 || eqb b 0x0d

-- what stands before the place that was found: all where there is none
abbrev pub front : Option ℕ → List ℕ → List ℕ
front (Some n) s = take n s
front None s = s

-- what stands behind it: nothing where there is none
abbrev pub rest : Option ℕ → List ℕ → List ℕ
rest (Some n) s = drop (n + 1) s
rest None s = []

-- the first line without its LF, and what stands behind that: none of an empty text
unfoldable pub line_from : List ℕ → Option (List ℕ × List ℕ)
line_from s = cond (eqb (length s) 0) None (Some (front (find (eqb 0x0a) s) s, rest (find (eqb 0x0a) s) s))

-- a text without the blanks in front
abbrev pub inked : List ℕ → List ℕ
inked s = drop (prefix_len is_blank s) s

-- how many bytes of a word stand in front
abbrev pub ink : List ℕ → ℕ
ink s = prefix_len (λ b. not (is_blank b)) s

-- a text that begins with a word, parted behind it: none where nothing is left
abbrev pub word_of : List ℕ → Option (List ℕ × List ℕ)
word_of s = cond (eqb (length s) 0) None (Some (take (ink s) s, drop (ink s) s))

-- the first word, and what stands behind it
unfoldable pub word_from : List ℕ → Option (List ℕ × List ℕ)
word_from s = word_of (inked s)

-- what stands at the front by `first`, and what stands there behind it
abbrev pub cut_on : (List ℕ → List (List ℕ)) → Option (List ℕ × List ℕ) → List (List ℕ)
cut_on behind None = []
cut_on behind (Some p) = p.0 ∷ behind p.1

-- what `first` cuts off a text, one part behind the other: so many at most
unfoldable pub cut : (List ℕ → Option (List ℕ × List ℕ)) → ℕ → List ℕ → List (List ℕ)
cut first zero s = []
cut first (suc most) s = cut_on (cut first most) (first s)

-- the lines of a text, and the words of one: no more than it has bytes
unfoldable pub lines : List ℕ → List (List ℕ)
lines s = cut line_from (length s) s

unfoldable pub words : List ℕ → List (List ℕ)
words s = cut word_from (length s) s
