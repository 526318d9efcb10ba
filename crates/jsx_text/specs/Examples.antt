-- Worked examples, computed from the definitions: the lines that are left of a text, and their bytes.
use Rattle.std.specs.Prelude.{ℕ, ◌≡◌, refl, List, [], ◌∷◌, map, length}
use Rattle.text.specs.declared.spans.Span.{Span}
use Rattle.text.specs.Bytes.{ascii}
use Rattle.text.specs.Utf8.{within, width}
use Rattle.text.specs.Chars.{front_code, is_white_space, is_line_terminator}
use Rattle.text.specs.Spans.{part_of}
use Rattle.definitions.specs.Pragmas.{onto}
use Rattle.definitions.specs.JsxText.{chars_from, lines_of, trim_front, before_trimmed, trim_back, later_lines, end_of, spans_of, kept_lines, jsx_text}
use Rattle.definitions.specs.Calls.{bare_code, span_code, bytes_of, call_bytes}
use Rattle.definitions.specs.Store.{bound_by, numbered, numbered_all}
use Rattle.definitions.specs.Lowering.{joined, lower_text, commands_of}
use Rattle.jsx_text.specs.TextBytes.{text_bytes}

abbrev at : ℕ → ℕ → Span
at s n = record { start = s; len = n }

-- a text, the part of it that is JSX text, and the lines that are left
pub record Row : Type 0 where
  pub text : List ℕ
  pub part : Span
  pub left : List Span

infix 5 ◌leaves◌
abbrev ◌leaves◌ : List ℕ → List Span → Row
l leaves ss = record { text = l; part = at 0 (length l); left = ss }

abbrev table : List Row
table =
    -- the specification's examples: "Text of 3 spaces: kept."; "LF: no child."; " a", LF, "b " with single spaces between
    (ascii "   " leaves (at 0 3 ∷ []))
    ∷ (ascii "\n" leaves [])
    ∷ (ascii " a \n b " leaves (at 0 2 ∷ at 5 2 ∷ []))
    -- the empty text is one line
    ∷ (ascii "" leaves (at 0 0 ∷ []))
    -- places are the text's
    ∷ record { text = ascii "<x> a \n b </x>"; part = at 3 7; left = at 3 2 ∷ at 8 2 ∷ [] }
    -- the habits that TypeScript's tsxReactEmitWhitespace shows: one line is kept whole, at an expression's side too
    ∷ (ascii " " leaves (at 0 1 ∷ []))
    ∷ (ascii "  3  " leaves (at 0 5 ∷ []))
    ∷ (ascii " word" leaves (at 0 5 ∷ []))
    -- nothing around an expression on lines of its own, and nothing between tags on two lines
    ∷ (ascii "\n\t" leaves [])
    ∷ (ascii "\n\t\n\t" leaves [])
    ∷ (ascii "\n   " leaves [])
    -- "  3", and "3" on a line of its own
    ∷ (ascii "  3\n\t" leaves (at 0 3 ∷ []))
    ∷ (ascii "\n   3\n   " leaves (at 4 1 ∷ []))
    -- "foo bar", blank lines before, between and behind
    ∷ (ascii "\n\n   foo\n\n   bar\n\n" leaves (at 5 3 ∷ at 13 3 ∷ []))
    -- "hello\ world"
    ∷ (ascii "\n\n   hello\\\n\nworld\n" leaves (at 5 6 ∷ at 13 5 ∷ []))
    -- "  a b c d "
    ∷ (ascii "  a\n  b c   \n   d " leaves (at 0 3 ∷ at 6 3 ∷ at 16 2 ∷ []))
    -- tabs
    ∷ (ascii "\t\ta\t\t\n\t\tb\t\t\n\t\tc\t\t" leaves (at 0 3 ∷ at 8 1 ∷ at 14 3 ∷ []))
    -- "Text lines end at LF, CR, U+2028, U+2029.": CR LF ends two, one of them blank
    ∷ (ascii "a\r\nb" leaves (at 0 1 ∷ at 3 1 ∷ []))
    ∷ (ascii "a\rb" leaves (at 0 1 ∷ at 2 1 ∷ []))
    ∷ ((0x61 ∷ 0xe2 ∷ 0x80 ∷ 0xa8 ∷ 0x62 ∷ []) leaves (at 0 1 ∷ at 4 1 ∷ []))
    ∷ ((0x61 ∷ 0xe2 ∷ 0x80 ∷ 0xa9 ∷ 0x20 ∷ 0x62 ∷ []) leaves (at 0 1 ∷ at 5 1 ∷ []))
    ∷ (ascii "\r\n" leaves [])
    ∷ ((0xe2 ∷ 0x80 ∷ 0xa8 ∷ []) leaves [])
    -- "White space is ECMA-262's WhiteSpace.": U+00A0, U+FEFF and U+3000, VT and FF; space, tab and U+00A0 between two lines
    ∷ ((0x0a ∷ 0xc2 ∷ 0xa0 ∷ 0x61 ∷ 0xc2 ∷ 0xa0 ∷ 0x0a ∷ []) leaves (at 3 1 ∷ []))
    ∷ ((0x0a ∷ 0xef ∷ 0xbb ∷ 0xbf ∷ 0x61 ∷ 0xe3 ∷ 0x80 ∷ 0x80 ∷ 0x0a ∷ []) leaves (at 4 1 ∷ []))
    ∷ ((0x0a ∷ 0x0b ∷ 0x0c ∷ 0x61 ∷ 0x0a ∷ []) leaves (at 3 1 ∷ []))
    ∷ ((0x61 ∷ 0x0a ∷ 0x20 ∷ 0x09 ∷ 0xc2 ∷ 0xa0 ∷ 0x0a ∷ 0x62 ∷ []) leaves (at 0 1 ∷ at 7 1 ∷ []))
    -- U+200B and U+0085 are none, and U+0085 ends no line
    ∷ ((0x0a ∷ 0xe2 ∷ 0x80 ∷ 0x8b ∷ 0x61 ∷ 0xe2 ∷ 0x80 ∷ 0x8b ∷ 0x0a ∷ []) leaves (at 1 7 ∷ []))
    ∷ ((0x61 ∷ 0xc2 ∷ 0x85 ∷ 0x62 ∷ 0x0a ∷ []) leaves (at 0 4 ∷ []))
    -- letters of two bytes
    ∷ ((0xc3 ∷ 0xa9 ∷ 0x0a ∷ 0x20 ∷ 0xc3 ∷ 0xbc ∷ []) leaves (at 0 2 ∷ at 4 2 ∷ []))
    ∷ []

pub lines_left : map (λ r. jsx_text r.text r.part) table ≡ map (λ r. r.left) table
unfolding jsx_text kept_lines lines_of onto chars_from front_code width within part_of is_white_space is_line_terminator
    trim_front trim_back before_trimmed later_lines end_of spans_of
lines_left = refl

-- the bytes of no line, of an empty one, of one, and of three
pub bytes_of_lines :
    map text_bytes ([] ∷ (at 7 0 ∷ []) ∷ (at 0 3 ∷ []) ∷ (at 0 3 ∷ at 258 1 ∷ at 300 513 ∷ []) ∷ [])
    ≡ []
    ∷ (0x8a ∷ 0x8d ∷ [])
    ∷ (0x8a ∷ 0x8b ∷ 0 ∷ 0 ∷ 3 ∷ 0 ∷ 0x8d ∷ [])
    ∷ (0x8a ∷ 0x8b ∷ 0 ∷ 0 ∷ 3 ∷ 0 ∷ 0x8c ∷ 0x8b ∷ 2 ∷ 1 ∷ 1 ∷ 0 ∷ 0x8c ∷ 0x8b ∷ 44 ∷ 1 ∷ 1 ∷ 2 ∷ 0x8d ∷ [])
    ∷ []
unfolding text_bytes lower_text joined commands_of numbered_all numbered bound_by call_bytes bytes_of bare_code span_code
bytes_of_lines = refl
