-- The specification's "Calls": "Text lines end at LF, CR, U+2028, U+2029. White space is ECMA-262's WhiteSpace. The first line keeps its front, the last its
-- back; blank lines vanish unless the text is one line; lines join by one space." (`fixup_whitespace_and_decode_entities` of jsx_impl.rs.)
use Rattle.std.specs.Prelude.{ℕ, zero, suc, ◌+◌, ◌-◌, cond, List, [], ◌∷◌}
use Rattle.text.specs.declared.spans.Span.{Span}
use Rattle.text.specs.Utf8.{width}
use Rattle.text.specs.Chars.{front_code, is_white_space, is_line_terminator}
use Rattle.text.specs.Spans.{part_of}
use Rattle.definitions.specs.Pragmas.{onto}

-- a character of the text and the place behind it
pub record Placed : Type 0 where
  pub at : ℕ
  pub code : ℕ
  pub next : ℕ

-- the characters of a list that stands at `at` in the text, n bytes of a character still to pass
unfoldable pub chars_from : ℕ → ℕ → List ℕ → List Placed
chars_from n at [] = []
chars_from zero at (b ∷ l) =
    record { at = at; code = front_code (b ∷ l); next = at + width (b ∷ l) } ∷ chars_from (width (b ∷ l) - 1) (suc at) l
chars_from (suc n) at (b ∷ l) = chars_from n (suc at) l

-- the lines, without what ends them
unfoldable pub lines_of : List Placed → List (List Placed)
lines_of [] = [] ∷ []
lines_of (c ∷ cs) = cond (is_line_terminator c.code) ([] ∷ lines_of cs) (onto c (lines_of cs))

-- a line without the white space at its front
unfoldable pub trim_front : List Placed → List Placed
trim_front [] = []
trim_front (c ∷ cs) = cond (is_white_space c.code) (trim_front cs) (c ∷ cs)

-- a character before a line of which the back is trimmed
unfoldable pub before_trimmed : Placed → List Placed → List Placed
before_trimmed c [] = cond (is_white_space c.code) [] (c ∷ [])
before_trimmed c (d ∷ ds) = c ∷ d ∷ ds

-- a line without the white space at its back
unfoldable pub trim_back : List Placed → List Placed
trim_back [] = []
trim_back (c ∷ cs) = before_trimmed c (trim_back cs)

-- the lines behind the first: "the last [keeps] its back"
unfoldable pub later_lines : List (List Placed) → List (List Placed)
later_lines [] = []
later_lines (l ∷ []) = trim_front l ∷ []
later_lines (l ∷ m ∷ ms) = trim_back (trim_front l) ∷ later_lines (m ∷ ms)

-- the place behind the last character of a line, or the one given where it has none
unfoldable pub end_of : ℕ → List Placed → ℕ
end_of n [] = n
end_of n (c ∷ cs) = end_of c.next cs

-- the spans of the lines that are not blank
unfoldable pub spans_of : List (List Placed) → List Span
spans_of [] = []
spans_of ([] ∷ ls) = spans_of ls
spans_of ((c ∷ cs) ∷ ls) = record { start = c.at; len = end_of c.next cs - c.at } ∷ spans_of ls

-- the lines of the text at s: one line stays whole; of several "the first line keeps its front"
unfoldable pub kept_lines : Span → List (List Placed) → List Span
kept_lines s [] = s ∷ []
kept_lines s (l ∷ []) = s ∷ []
kept_lines s (l ∷ m ∷ ms) = spans_of (trim_back l ∷ later_lines (m ∷ ms))

-- the spans of the lines that are left of a text, in order; none where it gives no child
unfoldable pub jsx_text : List ℕ → Span → List Span
jsx_text text s = kept_lines s (lines_of (chars_from 0 s.start (part_of text s)))
