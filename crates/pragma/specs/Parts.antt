-- The pragma in force, and its parts as a walk meets them.
use Rattle.std.specs.Prelude.{ℕ, List, [], ◌∷◌, length, eqb, Option, None}
use Rattle.std.specs.Option.{unwrap_or}
use Rattle.text.specs.Bytes.{find}
use Rattle.text.specs.declared.spans.Span.{Span}
use Rattle.definitions.specs.declared.options.Mode.{Mode}
use Rattle.definitions.specs.declared.options.Mode.TheVariants.{Module, Script, Classic}
use Rattle.definitions.specs.Pragmas.{split}

-- only classic bindings have pragmas
abbrev pub in_force : Mode → Option Span → Option Span
in_force Module p = None
in_force Script p = None
in_force Classic p = p

-- how many bytes stand before the first dot
abbrev pub first_length : List ℕ → ℕ
first_length l = unwrap_or (find (eqb 0x2e) l) (length l)

-- what stands behind a part: nothing, or a dot and the next parts
unfoldable pub parts_behind : List ℕ → List (List ℕ)
parts_behind [] = []
parts_behind (b ∷ l) = split l
