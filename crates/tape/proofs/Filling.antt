-- A list written element by element into a target, as far as place i.
--     Filled, filled_start, filled_next, filled_end
-- Assumes nothing.
use mathlib.Core.Path.{◌≡◌, refl, sym, ap, subst, ◌∙◌}
use mathlib.Core.List.{List, [], ◌∷◌, ◌++◌}
use Prim.Native.Nat.{ℕ, ◌+◌, ◌≤◌, ◌<◌, ◌^◌}
use native.Mathlib.Omega.{arith}
use native.Mathlib.Numerals.{add-one}
use lib.ListN.{length, get_or, take}
use lib.Seq.{take-suc, take_all}
use Rattle.tape.specs.Targets.{Wrote}
use Rattle.tape.proofs.Targets.{wrote_nothing, wrote_then, wrote_length}

pub record Filled (of : List ℕ → List ℕ) (l o o' : List ℕ) (at next i : ℕ) : Type 0 where
  pub inside : i ≤ length l
  pub wrote : Wrote o o' at next (of (take i l))
  pub same : length o' ≡ length o

module _ (of : List ℕ → List ℕ) (l : List ℕ) {o : List ℕ} {at : ℕ} where
  pub filled_start : of [] ≡ [] → at ≤ 2 ^ 63 → Filled of l o o at at 0
  filled_start e h = record { inside = omega arith; wrote = subst (λ (bs : List ℕ). Wrote o o at at bs) (sym e) (wrote_nothing o at h); same = refl }

  pub filled_next : {o₁ o₂ : List ℕ} {next r i : ℕ} {bs : List ℕ} → ((xs : List ℕ) → of (xs ++ (get_or l i 0 ∷ [])) ≡ of xs ++ bs) → length o ≤ 2 ^ 63 → i < length l
      → Filled of l o o₁ at next i → Wrote o₁ o₂ next r bs → Filled of l o o₂ at r (i + 1)
  filled_next {o₁} {o₂} {next} {r} {i} e short h F w =
      let v : Wrote o o₂ at r (of (take (i + 1) l)) =
      subst (λ (bs : List ℕ). Wrote o o₂ at r bs) (sym (ap of (ap (λ (n : ℕ). take n l) (add-one i) ∙ take-suc l i 0 h) ∙ e (take i l))) (wrote_then short F.wrote w) in
      record { inside = omega arith; wrote = v; same = wrote_length v }

  pub filled_end : {o₁ : List ℕ} {next i : ℕ} → Filled of l o o₁ at next i → length l ≤ i → Wrote o o₁ at next (of l)
  filled_end {o₁} {next} {i} F h = subst (λ (xs : List ℕ). Wrote o o₁ at next (of xs)) (take_all i l h) F.wrote
