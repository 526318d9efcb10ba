-- Spans into a text: the part that one names, and what can be wrong with one.
use Rattle.std.specs.Prelude.{ℕ, zero, suc, ◌+◌, ◌-◌, Bool, true, false, cond, ◌&&◌, ◌||◌, List, [], ◌∷◌, length, get_or, take, drop, eqb, leb, ltb}
use Rattle.text.specs.declared.spans.Span.{Span}
use Rattle.text.specs.declared.spans.Bounds.{Bounds}
use Rattle.text.specs.declared.spans.Bounds.TheVariants.{Outside, Cuts, Empty, Good}
use Rattle.text.specs.Utf8.{width}

-- the part of a text that a span names, as far as the text goes
unfoldable pub part_of : List ℕ → Span → List ℕ
part_of text s = take s.len (drop s.start text)

-- a byte that can't begin a sequence of Table 3-7
abbrev pub continues : ℕ → Bool
continues b = leb 0x80 b && leb b 0xbf

-- the place i lies within a character: the text goes on there with a byte that continues one
unfoldable pub cuts_at : List ℕ → ℕ → Bool
cuts_at text i = ltb i (length text) && continues (get_or text i 0)

-- Refusals 4, 13 and 14 (docs/TAPES.md, Refusals), "a span that ends beyond the text", "one that cuts a character" and "an empty name": the first of them that a span has. An empty
-- span within a character cuts it.
unfoldable pub bounds_of : List ℕ → Span → Bounds
bounds_of text s =
    cond (ltb (length text) (s.start + s.len)) Outside
    (cond (cuts_at text s.start || cuts_at text (s.start + s.len)) Cuts
    (cond (eqb s.len 0) Empty Good))

-- ---- what cutting a character means in a well-formed text

-- Whether a character begins at i, or the text ends there. n bytes of the character at the front are still to pass; where no sequence is
-- well-formed each byte stands for itself.
unfoldable pub boundary_from : ℕ → List ℕ → ℕ → Bool
boundary_from n [] i = eqb i 0
boundary_from zero (b ∷ l) zero = true
boundary_from (suc n) (b ∷ l) zero = false
boundary_from zero (b ∷ l) (suc i) = boundary_from (width (b ∷ l) - 1) l i
boundary_from (suc n) (b ∷ l) (suc i) = boundary_from n l i

unfoldable pub is_boundary : List ℕ → ℕ → Bool
is_boundary text i = boundary_from 0 text i
