-- How a walk over a text decides whether it has a reference: by the ampersand at its front, which of the forms can open there, and how far no other can.
use Rattle.std.specs.Prelude.{ℕ, ◌+◌, ◌≤◌, ◌≡◌, true, cond, List, length, drop, Option, None, Some}
use Rattle.text.specs.Bytes.{ascii}
use Rattle.references.specs.declared.Kind.{Kind}
use Rattle.references.specs.declared.Kind.TheVariants.{Name, Decimal, Hexadecimal}
use Rattle.references.specs.declared.Opening.{Opening}
use Rattle.references.specs.References.{begins, has_reference}

-- digits behind n bytes, or behind the plus sign that follows these
unfoldable pub signed : Kind → ℕ → List ℕ → Opening
signed k n l = cond (begins (ascii "+") (drop n l)) (record { kind = k; len = n + 1 }) (record { kind = k; len = n })

-- the longest opening that stands at the front of a list that begins with an ampersand
unfoldable pub opening_of : List ℕ → Opening
opening_of l =
    cond (begins (ascii "#") (drop 1 l))
    (cond (begins (ascii "x") (drop 2 l)) (signed Hexadecimal 3 l) (signed Decimal 2 l))
    (record { kind = Name; len = 1 })

-- what is told of the front: a reference stands there; or none does, nor does one begin within so many bytes
abbrev pub Fronts : List ℕ → Option ℕ → Type 0
Fronts l None = has_reference l ≡ true
Fronts l (Some n) = (1 ≤ n) × (n ≤ length l) × (has_reference l ≡ has_reference (drop n l))
