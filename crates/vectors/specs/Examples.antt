-- Worked examples, computed from the definitions.
use Rattle.std.specs.Prelude.{◌≡◌, refl, [], ◌∷◌, map}
use Rattle.text.specs.Bytes.{ascii, find_from}
use Rattle.vectors.specs.Lines.{is_blank, line_from, word_from, cut, lines, words}
use Rattle.vectors.specs.Values.{mark_of, folded, is_hexadecimal, is_decimal, value_of}

-- no word, one, two with blanks around them, words of one byte, a tab and a CR; LF is no blank
pub words_of_texts :
    map words
    ([]
    ∷ ascii "   "
    ∷ ascii "span"
    ∷ ascii "  span  12 "
    ∷ ascii "a b c"
    ∷ (0x61 ∷ 0x09 ∷ 0x62 ∷ 0x0d ∷ [])
    ∷ (0x61 ∷ 0x0a ∷ 0x62 ∷ [])
    ∷ [])
    ≡ []
    ∷ []
    ∷ (ascii "span" ∷ [])
    ∷ (ascii "span" ∷ ascii "12" ∷ [])
    ∷ (ascii "a" ∷ ascii "b" ∷ ascii "c" ∷ [])
    ∷ ((0x61 ∷ []) ∷ (0x62 ∷ []) ∷ [])
    ∷ ((0x61 ∷ 0x0a ∷ 0x62 ∷ []) ∷ [])
    ∷ []
unfolding words cut word_from is_blank
words_of_texts = refl

-- numbers in three forms, and a word by the marks of its letters
pub values_of_words : map value_of (words (ascii "12 0xff U+20AC ab")) ≡ 12 ∷ 255 ∷ 0x20ac ∷ 0x4000000000000022 ∷ []
unfolding words cut word_from is_blank value_of is_hexadecimal is_decimal folded mark_of
values_of_words = refl

-- no line, an empty one, one that ends and one that doesn't
pub lines_of_texts :
    map lines
    ([]
    ∷ (0x0a ∷ [])
    ∷ (0x61 ∷ 0x0a ∷ [])
    ∷ (0x61 ∷ 0x0a ∷ 0x0a ∷ 0x62 ∷ [])
    ∷ [])
    ≡ []
    ∷ ([] ∷ [])
    ∷ ((0x61 ∷ []) ∷ [])
    ∷ ((0x61 ∷ []) ∷ [] ∷ (0x62 ∷ []) ∷ [])
    ∷ []
unfolding lines cut line_from find_from
lines_of_texts = refl
