-- Characters of a text and their classes, from ECMA-262, "White Space" and "Line Terminators".
use Rattle.std.specs.Prelude.{ℕ, Bool, ◌&&◌, ◌||◌, List, take, eqb, leb, Option, option_map}
use Rattle.text.specs.declared.chars.Char.{Char}
use Rattle.text.specs.Utf8.{width, nonzero, code_of}

-- the code point of the sequence at the front of a text
unfoldable pub front_code : List ℕ → ℕ
front_code l = code_of (take (width l) l)

-- the character at the front of a text, its code point and how many bytes it takes, where a well-formed sequence stands there
unfoldable pub char_of : List ℕ → Option Char
char_of l = option_map (λ w. record { code = front_code l; width = w }) (nonzero (width l))

-- the general category Zs of the Unicode Standard
abbrev pub is_space_separator : ℕ → Bool
is_space_separator c =
    eqb c 0x20
    || eqb c 0xa0
    || eqb c 0x1680
    || (leb 0x2000 c && leb c 0x200a)
    || eqb c 0x202f
    || eqb c 0x205f
    || eqb c 0x3000

-- WhiteSpace: TAB, VT, FF, ZWNBSP and any code point of category Zs
unfoldable pub is_white_space : ℕ → Bool
is_white_space c = eqb c 0x09 || eqb c 0x0b || eqb c 0x0c || eqb c 0xfeff || is_space_separator c

-- LineTerminator: LF, CR, LS and PS
unfoldable pub is_line_terminator : ℕ → Bool
is_line_terminator c = eqb c 0x0a || eqb c 0x0d || eqb c 0x2028 || eqb c 0x2029
