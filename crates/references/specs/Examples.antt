-- Worked examples, computed from the definitions: those of change request 1 and of its readings.
use Rattle.std.specs.Prelude.{◌≡◌, refl, true, false, [], ◌∷◌, map, replicate}
use Rattle.text.specs.Bytes.{ascii}
use Rattle.references.specs.References.{is_of, run, closed, opens_as, opens_in, has_reference}

-- each has a reference: a name, whatever it says, also one that begins with a digit; decimal and hexadecimal numbers, also those that are no character; a plus sign; hexadecimal
-- digits of either case; the second of two ampersands; behind text, and before more
pub references :
    map has_reference
    (ascii "&amp;"
    ∷ ascii "&foo;"
    ∷ ascii "&1;"
    ∷ ascii "&Z9z0A;"
    ∷ ascii "&#65;"
    ∷ ascii "&#+65;"
    ∷ ascii "&#x41;"
    ∷ ascii "&#x+41;"
    ∷ ascii "&#xD800;"
    ∷ ascii "&#xaF09;"
    ∷ ascii "&a&amp;"
    ∷ ascii "&&#1;"
    ∷ ascii "&#&#x&#xf;"
    ∷ ascii "R&D; 1"
    ∷ [])
    ≡ replicate 14 true
unfolding has_reference opens_in opens_as closed run is_of
references = refl

-- plain text: nothing, "Q & A", ampersands side by side; upper-case X; a minus sign; no name, no digits; two plus signs, a plus sign before a name; a letter behind decimal digits, and one that is no
-- hexadecimal digit; a byte over 7F; no semicolon, also because the text ends before it; a semicolon behind something else
pub plain :
    map has_reference
    ([]
    ∷ ascii "Q & A"
    ∷ ascii "a && b"
    ∷ ascii "&"
    ∷ ascii "&#X41;"
    ∷ ascii "&#-1;"
    ∷ ascii "&;"
    ∷ ascii "&#;"
    ∷ ascii "&#+;"
    ∷ ascii "&#x;"
    ∷ ascii "&#x+;"
    ∷ ascii "&#++1;"
    ∷ ascii "&+1;"
    ∷ ascii "&#1a;"
    ∷ ascii "&#xg;"
    ∷ (0x26 ∷ 0xc3 ∷ 0xa9 ∷ 0x3b ∷ [])
    ∷ ascii "&amp"
    ∷ ascii "&#65"
    ∷ ascii "&a b;"
    ∷ ascii "& amp;"
    ∷ ascii "amp;"
    ∷ ascii "&a&;"
    ∷ ascii "&#x#1;"
    ∷ [])
    ≡ replicate 23 false
unfolding has_reference opens_in opens_as closed run is_of
plain = refl
