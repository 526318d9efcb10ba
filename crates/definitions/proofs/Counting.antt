-- Counting the elements of a list that pass a test, and tests joined by `&&` and `||`.
--     never                      false is not true
--     both, either_false         what a conjunction's truth and a disjunction's falsehood say of the parts
--     count_nil, count_append    counts of a list's parts
--     count_le                   where one test implies another, no more pass it
-- Assumes nothing.
use mathlib.Core.Path.{◌≡◌, refl, sym, ◌∙◌}
use mathlib.Core.Bool.{Bool, true, false, cond, ◌&&◌, ◌||◌}
use mathlib.Core.List.{List, [], ◌∷◌, ◌++◌}
use Prim.Native.Nat.{ℕ, suc, ◌+◌, ◌≤◌}
use native.Mathlib.Omega.{arith}
use Rattle.definitions.specs.Claim.{count}

-- ---- tests

pub never : {A : Type 0} → false ≡ true → A
never e = let z : ◌≡◌ {A = ℕ} 0 1 = cc in absurd (omega arith)

pub both : (a b : Bool) → (a && b) ≡ true → (a ≡ true) × (b ≡ true)
both true b e = (refl, e)
both false b e = never e

pub either_false : (a b : Bool) → (a || b) ≡ false → (a ≡ false) × (b ≡ false)
either_false true b e = never (sym e)
either_false false b e = (refl, e)

-- ---- counts

module _ {A : Type 0} where
  pub count_nil : (p : A → Bool) → count p [] ≡ 0
  unfolding count
  count_nil p = refl

  pub count_append : (p : A → Bool) (xs ys : List A) → count p (xs ++ ys) ≡ count p xs + count p ys
  unfolding count
  count_append p [] ys = omega arith
  count_append p (x ∷ xs) ys = go (p x) (count_append p xs ys)
    where
      go : (b : Bool) → count p (xs ++ ys) ≡ count p xs + count p ys
          → cond b (suc (count p (xs ++ ys))) (count p (xs ++ ys)) ≡ cond b (suc (count p xs)) (count p xs) + count p ys
      go true h = omega arith
      go false h = h

  pub count_le : (p q : A → Bool) → ((x : A) → p x ≡ true → q x ≡ true) → (xs : List A) → count p xs ≤ count q xs
  unfolding count
  count_le p q h [] = omega arith
  count_le p q h (x ∷ xs) = go (p x) refl (q x) refl (count_le p q h xs)
    where
      go : (a : Bool) → p x ≡ a → (b : Bool) → q x ≡ b → count p xs ≤ count q xs
          → cond a (suc (count p xs)) (count p xs) ≤ cond b (suc (count q xs)) (count q xs)
      go true e true f k = omega arith
      go true e false f k = never (sym f ∙ h x e)
      go false e true f k = omega arith
      go false e false f k = k
