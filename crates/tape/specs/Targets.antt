-- Bytes laid into a lent target from a place on, as far as it has room. Writing into an empty target counts and no more.
use Rattle.std.specs.Prelude.{◌≡◌, ℕ, ◌+◌, ◌^◌, min, cond, ltb, List, ◌++◌, length, drop, Err, Ok, Result}
use Rattle.std.proofs.lemmas.List.Edits.{sets}
use Rattle.tape.specs.declared.refusal.Refusal.{Refusal}
use Rattle.tape.specs.declared.refusal.Refusal.TheVariants.{Space}

-- a place in a target. Places stop at 2 ^ 63, which no target reaches, so that counting never overflows
abbrev pub cap : ℕ → ℕ
cap n = min n (2 ^ 63)

-- a target that held o and holds o' has the bytes bs from `at` on, as far as it has room, and r is the place after them
pub record Wrote (o o' : List ℕ) (at r : ℕ) (bs : List ℕ) : Type 0 where
  pub next : r ≡ cap (at + length bs)
  pub holds : o' ≡ sets o at bs

-- a target that held o holds o' where bs is to stand at its front: a target that is too short stays as it is, and r says how many bytes there are
pub record Fitted (bs o : List ℕ) (r : Result ℕ Refusal) (o' : List ℕ) : Type 0 where
  pub value : r ≡ cond (ltb (length o) (length bs)) (Err (Space (length bs))) (Ok (length bs))
  pub holds : o' ≡ cond (ltb (length o) (length bs)) o (bs ++ drop (length bs) o)
