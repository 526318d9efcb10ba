-- A buffer that is read into from a place on: what came stands behind what was there.
use Rattle.std.proofs.Common.{◌≡◌, ℕ, ◌+◌, ◌≤◌, List, ◌++◌, length, take, drop, sym, ap, subst, ◌∙◌, drop_at, length-take-le, Option}
use Rattle.std.proofs.Math.Seq.{take-add, take-append-le}
use Rattle.std.specs.Io.KnownBytes.{Consumes}
use Rattle.std.proofs.KnownBytes.{Consumes-trans}
use borrow.Rule.Slice.PartMut.{put_mid, post_of, take_put}

joined : (at k n : ℕ) (xs ys : List ℕ) → at ≤ length xs → n ≤ length ys → take at xs ++ take n ys ≡ take (at + n) (put_mid at k xs ys)
joined at k n xs ys within fits =
    let all = put_mid at k xs ys in
    let front = take_put at k xs ys within in
    let back = ap (take n) (drop_at (take at xs) (ys ++ post_of at k xs) at (length-take-le at xs within)) ∙ take-append-le n ys (post_of at k xs) fits in
    sym (take-add at n all ∙ ap (λ l. l ++ take n (drop at all)) front ∙ ap (λ l. take at xs ++ l) back)

pub filled_more : (a b c : Option (List ℕ)) (at k n : ℕ) (xs ys : List ℕ) → at ≤ length xs → n ≤ length ys → Consumes a b (take at xs) → Consumes b c (take n ys)
    → Consumes a c (take (at + n) (put_mid at k xs ys))
filled_more a b c at k n xs ys within fits before read = subst (Consumes a c) (joined at k n xs ys within fits) (Consumes-trans a b c _ _ before read)
