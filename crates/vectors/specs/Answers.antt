-- A few values in order: one more, those of a list, and whether two answers are the same.
use Rattle.std.specs.Prelude.{ℕ, ◌+◌, Bool, cond, ◌&&◌, List, fold, take, set, replicate, eqb, leb, ltb}
use Rattle.text.specs.Bytes.{same}
use Rattle.vectors.specs.declared.answers.Answer.{Answer}

abbrev pub empty : Answer
empty = record { n = 0; v = replicate 16 0 }

-- one value more. A seventeenth is not kept, but counted
unfoldable pub with_value : Answer → ℕ → Answer
with_value a x =
    cond (ltb a.n 16) (record { n = a.n + 1; v = set a.v a.n x })
    (record { n = 17; v = a.v })

abbrev pub with_values : Answer → List ℕ → Answer
with_values = fold with_value

-- as many values, all of which were kept, and the same ones
unfoldable pub same_values : Answer → Answer → Bool
same_values a b = eqb a.n b.n && leb a.n 16 && same (take a.n a.v) (take b.n b.v)
