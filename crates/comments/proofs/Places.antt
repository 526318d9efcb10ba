-- Where the first byte that passes stands: `place_from` by the library's `position`.
--     place_position             from a place of a list on
--     place_past                 behind the list there is none
-- Assumes nothing.
use Rattle.std.specs.Prelude.{Some, None, position}
use Rattle.std.specs.List.{position_from}
use Rattle.std.specs.Option.{option_map}
use Rattle.std.proofs.lemmas.Iterator.Adapters.{position_from-zero}
use mathlib.Core.Path.{◌≡◌, refl, sym, ap, ◌∙◌}
use mathlib.Core.Bool.{Bool, true, false, cond}
use mathlib.Core.List.{List, [], ◌∷◌}
use Prim.Native.Nat.{ℕ, suc, ◌+◌, ◌<◌, ◌≤◌}
use native.Mathlib.Nat.{add-zero}
use native.Mathlib.Omega.{arith}
use lib.ListN.{length, drop, drop_of_length-le}
use Rattle.text.specs.Bytes.{find_from}
use Rattle.definitions.specs.Comments.{place_from}

module _ (p : ℕ → Bool) where
  shifted : (i k : ℕ) (l : List ℕ) → find_from p (i + k) l ≡ option_map (λ j. i + j) (position_from p k l)
  unfolding find_from
  shifted i k [] = refl
  shifted i k (b ∷ l) = go (p b) (shifted i (k + 1) l)
    where
      go : (t : Bool) → find_from p (i + (k + 1)) l ≡ option_map (λ j. i + j) (position_from p (k + 1) l)
          → cond t (Some (i + k)) (find_from p (suc (i + k)) l) ≡ option_map (λ j. i + j) (cond t (Some k) (position_from p (k + 1) l))
      go true ih = refl
      go false ih = let e : suc (i + k) ≡ i + (k + 1) = omega arith in rw e ih

  pub place_position : (s : List ℕ) (i : ℕ) → place_from p s i ≡ option_map (λ j. i + j) (position p (drop i s))
  place_position s i =
      ap (λ k. find_from p k (drop i s)) (sym (add-zero i)) ∙ shifted i 0 (drop i s) ∙ ap (option_map (λ j. i + j)) (sym (position_from-zero p (drop i s)))

  pub place_past : (s : List ℕ) (i : ℕ) → length s < i → place_from p s i ≡ None
  unfolding find_from
  place_past s i h = let past : length s ≤ i = omega arith in rw (drop_of_length-le s past)
