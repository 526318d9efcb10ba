-- Change request 1: what a character reference is, on the list of its bytes, and whether a text has one.
--
-- "A reference is an ampersand and either one or more ASCII letters and digits, or # and at least one decimal digit, or `#x` and at least one hexadecimal digit, a plus
-- sign allowed before either's digits; then a semicolon."
use Rattle.std.specs.Prelude.{ℕ, suc, Bool, false, cond, ◌&&◌, ◌||◌, List, [], ◌∷◌, length, take, drop, leb, ltb}
use Rattle.text.specs.Bytes.{ascii, same}
use Rattle.references.specs.declared.Kind.{Kind}
use Rattle.references.specs.declared.Kind.TheVariants.{Name, Decimal, Hexadecimal}

-- ---- the bytes between a reference's opening and its semicolon

abbrev pub is_digit : ℕ → Bool
is_digit b = leb 0x30 b && leb b 0x39

-- "ASCII letters and digits"; "decimal digit"; "hexadecimal digit", of either case
unfoldable pub is_of : Kind → ℕ → Bool
is_of Name b = is_digit b || (leb 0x41 b && leb b 0x5a) || (leb 0x61 b && leb b 0x7a)
is_of Decimal b = is_digit b
is_of Hexadecimal b = is_digit b || (leb 0x41 b && leb b 0x46) || (leb 0x61 b && leb b 0x66)

-- how many bytes of the kind stand at the front
unfoldable pub run : Kind → List ℕ → ℕ
run k [] = 0
run k (b ∷ l) = cond (is_of k b) (suc (run k l)) 0

-- ---- references

-- what a reference begins with, and the kind of the bytes behind that
pub record Form : Type 0 where
  pub opening : List ℕ
  pub kind : Kind

abbrev pub forms : List Form
forms =
    record { opening = ascii "&"; kind = Name }
    ∷ record { opening = ascii "&#"; kind = Decimal }
    ∷ record { opening = ascii "&#+"; kind = Decimal }
    ∷ record { opening = ascii "&#x"; kind = Hexadecimal }
    ∷ record { opening = ascii "&#x+"; kind = Hexadecimal }
    ∷ []

-- the word w stands at the front
abbrev pub begins : List ℕ → List ℕ → Bool
begins w l = same (take (length w) l) w

-- "one or more", "at least one" of the kind, "then a semicolon"
unfoldable pub closed : Kind → List ℕ → Bool
closed k l = ltb 0 (run k l) && begins (ascii ";") (drop (run k l) l)

-- a reference of the form stands at the front
unfoldable pub opens_as : Form → List ℕ → Bool
opens_as f l = begins f.opening l && closed f.kind (drop (length f.opening) l)

unfoldable pub opens_in : List Form → List ℕ → Bool
opens_in [] l = false
opens_in (f ∷ fs) l = opens_as f l || opens_in fs l

-- a reference stands at the front
abbrev pub opens_reference : List ℕ → Bool
opens_reference l = opens_in forms l

-- a reference stands somewhere
unfoldable pub has_reference : List ℕ → Bool
has_reference [] = false
has_reference (b ∷ l) = opens_reference (b ∷ l) || has_reference l
