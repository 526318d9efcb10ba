-- The comments of an opening tape.
use Rattle.std.specs.Prelude.{ℕ, cond, List, [], ◌∷◌, eqb}
use Rattle.text.specs.declared.spans.Span.{Span}
use Rattle.tape.specs.Numbers.{span_at}

-- the comments among commands of five bytes
unfoldable pub comments_of : List ℕ → List Span
comments_of [] = []
comments_of (c ∷ []) = []
comments_of (c ∷ s ∷ []) = []
comments_of (c ∷ s ∷ t ∷ []) = []
comments_of (c ∷ s ∷ t ∷ l ∷ []) = []
comments_of (c ∷ s ∷ t ∷ l ∷ m ∷ rest) = cond (eqb c 0x60) (span_at (s ∷ t ∷ l ∷ m ∷ []) 0 ∷ comments_of rest) (comments_of rest)
