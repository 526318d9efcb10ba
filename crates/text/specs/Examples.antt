-- Worked examples, computed from the definitions.
use Rattle.std.specs.Prelude.{ℕ, ◌≡◌, refl, true, false, List, [], ◌∷◌, map, drop, replicate, eqb}
use Rattle.std.specs.Prelude.{Option, Some, None}
use Rattle.text.specs.declared.chars.Char.{Char}
use Rattle.text.specs.declared.spans.Span.{Span}
use Rattle.text.specs.declared.spans.Bounds.TheVariants.{Outside, Cuts, Empty, Good}
use Rattle.text.specs.Bytes.{ascii, same, find_from, find, over_ascii}
use Rattle.text.specs.Utf8.{within, width, after, ill_from, first_ill}
use Rattle.text.specs.Chars.{front_code, char_of, is_white_space, is_line_terminator}
use Rattle.text.specs.Spans.{part_of, cuts_at, bounds_of}

-- ---- well-formed and ill-formed texts

-- Unicode Standard, section 3.9, D92: the code points 004D, 0430, 4E8C and 10302 are 4D D0 B0 E4 BA 8C F0 90 8C 82; F4 80 83 92 is
-- well-formed, C0 AF and E0 9F 80 are not. A text may also stop within a sequence, or go on with a byte that begins none.
pub ill_formed :
    map first_ill
    ([]
    ∷ (0x4d ∷ 0xd0 ∷ 0xb0 ∷ 0xe4 ∷ 0xba ∷ 0x8c ∷ 0xf0 ∷ 0x90 ∷ 0x8c ∷ 0x82 ∷ [])
    ∷ (0xf4 ∷ 0x80 ∷ 0x83 ∷ 0x92 ∷ [])
    ∷ (0x61 ∷ 0xc0 ∷ 0xaf ∷ [])
    ∷ (0xe0 ∷ 0x9f ∷ 0x80 ∷ [])
    ∷ (0xed ∷ 0x9f ∷ 0xbf ∷ 0xed ∷ 0xa0 ∷ 0x80 ∷ [])
    ∷ (0xf4 ∷ 0x8f ∷ 0xbf ∷ 0xbf ∷ 0xf4 ∷ 0x90 ∷ 0x80 ∷ 0x80 ∷ [])
    ∷ (0x61 ∷ 0xe2 ∷ 0x82 ∷ [])
    ∷ (0xe2 ∷ 0x82 ∷ 0xac ∷ 0x80 ∷ [])
    ∷ [])
    ≡ None ∷ None ∷ None ∷ Some 1 ∷ Some 0 ∷ Some 3 ∷ Some 4 ∷ Some 1 ∷ Some 3 ∷ []
unfolding first_ill ill_from after width within
ill_formed = refl

-- the widths at each place of nine bytes
abbrev widths : List ℕ → List ℕ
widths l = map (λ i. width (drop i l)) (0 ∷ 1 ∷ 2 ∷ 3 ∷ 4 ∷ 5 ∷ 6 ∷ 7 ∷ 8 ∷ [])

-- Unicode Standard, section 3.9, Tables 3-8 (not the shortest form), 3-9 (surrogates), 3-10 (other ill-formed sequences) and 3-11
-- (sequences cut off): of these bytes only 41 and 42 begin a well-formed sequence
pub replaced :
    map widths
    ((0xc0 ∷ 0xaf ∷ 0xe0 ∷ 0x80 ∷ 0xbf ∷ 0xf0 ∷ 0x81 ∷ 0x82 ∷ 0x41 ∷ [])
    ∷ (0xed ∷ 0xa0 ∷ 0x80 ∷ 0xed ∷ 0xbf ∷ 0xbf ∷ 0xed ∷ 0xaf ∷ 0x41 ∷ [])
    ∷ (0xf4 ∷ 0x91 ∷ 0x92 ∷ 0x93 ∷ 0xff ∷ 0x41 ∷ 0x80 ∷ 0xbf ∷ 0x42 ∷ [])
    ∷ (0xe1 ∷ 0x80 ∷ 0xe2 ∷ 0xf0 ∷ 0x91 ∷ 0x92 ∷ 0xf1 ∷ 0xbf ∷ 0x41 ∷ [])
    ∷ [])
    ≡ (0 ∷ 0 ∷ 0 ∷ 0 ∷ 0 ∷ 0 ∷ 0 ∷ 0 ∷ 1 ∷ [])
    ∷ (0 ∷ 0 ∷ 0 ∷ 0 ∷ 0 ∷ 0 ∷ 0 ∷ 0 ∷ 1 ∷ [])
    ∷ (0 ∷ 0 ∷ 0 ∷ 0 ∷ 0 ∷ 1 ∷ 0 ∷ 0 ∷ 1 ∷ [])
    ∷ (0 ∷ 0 ∷ 0 ∷ 0 ∷ 0 ∷ 0 ∷ 0 ∷ 0 ∷ 1 ∷ [])
    ∷ []
unfolding width within
replaced = refl

-- ---- characters
abbrev char : ℕ → ℕ → Option Char
char c w = Some (record { code = c; width = w })

-- the dollar, cent and euro signs, U+10348 and U+10FFFF, then RFC 3629, section 7: 2262, 0391, D55C, 65E5, FEFF and 233B4; an
-- ill-formed sequence and an empty text have no character
pub characters :
    map char_of
    ((0x24 ∷ 0xa2 ∷ [])
    ∷ (0xc2 ∷ 0xa2 ∷ 0x24 ∷ [])
    ∷ (0xe2 ∷ 0x82 ∷ 0xac ∷ [])
    ∷ (0xf0 ∷ 0x90 ∷ 0x8d ∷ 0x88 ∷ [])
    ∷ (0xf4 ∷ 0x8f ∷ 0xbf ∷ 0xbf ∷ [])
    ∷ (0xe2 ∷ 0x89 ∷ 0xa2 ∷ [])
    ∷ (0xce ∷ 0x91 ∷ [])
    ∷ (0xed ∷ 0x95 ∷ 0x9c ∷ [])
    ∷ (0xe6 ∷ 0x97 ∷ 0xa5 ∷ [])
    ∷ (0xef ∷ 0xbb ∷ 0xbf ∷ [])
    ∷ (0xf0 ∷ 0xa3 ∷ 0x8e ∷ 0xb4 ∷ [])
    ∷ (0xe0 ∷ 0x9f ∷ 0x80 ∷ [])
    ∷ []
    ∷ [])
    ≡ char 0x24 1
    ∷ char 0xa2 2
    ∷ char 0x20ac 3
    ∷ char 0x10348 4
    ∷ char 0x10ffff 4
    ∷ char 0x2262 3
    ∷ char 0x391 2
    ∷ char 0xd55c 3
    ∷ char 0x65e5 3
    ∷ char 0xfeff 3
    ∷ char 0x233b4 4
    ∷ None
    ∷ None
    ∷ []
unfolding char_of front_code width within
characters = refl

-- ECMA-262, "White Space": TAB, VT, FF, ZWNBSP, and the code points of category Zs in the Unicode Character Database
pub white_space :
    map is_white_space
    (0x09 ∷ 0x0b ∷ 0x0c ∷ 0xfeff ∷ 0x20 ∷ 0xa0 ∷ 0x1680 ∷ 0x2000 ∷ 0x2001 ∷ 0x2002 ∷ 0x2003 ∷ 0x2004 ∷ 0x2005 ∷ 0x2006 ∷ 0x2007
    ∷ 0x2008 ∷ 0x2009 ∷ 0x200a ∷ 0x202f ∷ 0x205f ∷ 0x3000 ∷ [])
    ≡ replicate 21 true
unfolding is_white_space
white_space = refl

-- ECMA-262, "Line Terminators": LF, CR, LS, PS; none of them is white space
pub line_terminators :
    (map is_line_terminator (0x0a ∷ 0x0d ∷ 0x2028 ∷ 0x2029 ∷ []) ≡ replicate 4 true)
    × (map is_white_space (0x0a ∷ 0x0d ∷ 0x2028 ∷ 0x2029 ∷ []) ≡ replicate 4 false)
    × (map is_line_terminator (0x09 ∷ 0x0b ∷ 0x0c ∷ 0x20 ∷ 0xa0 ∷ 0xfeff ∷ []) ≡ replicate 6 false)
unfolding is_white_space is_line_terminator
line_terminators = (refl, refl, refl)

-- neither: NUL, NEL (U+0085), U+180E (once of category Zs), ZWSP (U+200B), WJ (U+2060) and the neighbours of the ranges
pub neither :
    (map is_white_space (0x00 ∷ 0x85 ∷ 0x180e ∷ 0x1fff ∷ 0x200b ∷ 0x2030 ∷ 0x2060 ∷ 0x3001 ∷ []) ≡ replicate 8 false)
    × (map is_line_terminator (0x00 ∷ 0x85 ∷ 0x180e ∷ 0x200b ∷ 0x2027 ∷ 0x202a ∷ []) ≡ replicate 6 false)
unfolding is_white_space is_line_terminator
neither = (refl, refl)

-- ---- spans into a, U+00E9, b: 61 C3 A9 62
abbrev text : List ℕ
text = 0x61 ∷ 0xc3 ∷ 0xa9 ∷ 0x62 ∷ []

abbrev span : ℕ → ℕ → Span
span s n = record { start = s; len = n }

-- Refusal 4: past the end in three ways; cut at the start, at the end, and an empty span within the character; empty
-- spans at the start, between characters and at the end; the character, and the whole text
pub bounds :
    map (bounds_of text)
    (span 3 2 ∷ span 5 0 ∷ span 65535 65535 ∷ span 2 2 ∷ span 0 2 ∷ span 2 0 ∷ span 0 0 ∷ span 3 0 ∷ span 4 0 ∷ span 1 2 ∷ span 0 4
    ∷ [])
    ≡ Outside ∷ Outside ∷ Outside ∷ Cuts ∷ Cuts ∷ Cuts ∷ Empty ∷ Empty ∷ Empty ∷ Good ∷ Good ∷ []
unfolding bounds_of cuts_at
bounds = refl

-- a part reaches as far as the text
pub parts :
    map (part_of text) (span 1 2 ∷ span 3 9 ∷ span 4 1 ∷ span 9 1 ∷ [])
    ≡ (0xc3 ∷ 0xa9 ∷ []) ∷ (0x62 ∷ []) ∷ [] ∷ [] ∷ []
unfolding part_of
parts = refl

-- ---- words, and bytes looked for
pub words :
    map (same (ascii "key")) (ascii "key" ∷ ascii "ref" ∷ ascii "keys" ∷ ascii "ke" ∷ [] ∷ []) ≡ true ∷ false ∷ false ∷ false ∷ false ∷ []
words = refl

pub places :
    (map (find (eqb 0x3a)) (ascii "svg:a:b" ∷ ascii "svg" ∷ [] ∷ []) ≡ Some 3 ∷ None ∷ None ∷ [])
    × (map (find over_ascii) (text ∷ ascii "svg" ∷ (0x7f ∷ 0x80 ∷ []) ∷ []) ≡ Some 1 ∷ None ∷ Some 1 ∷ [])
unfolding find_from
places = (refl, refl)
