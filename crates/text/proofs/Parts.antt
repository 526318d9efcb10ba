-- The part of a text that a span names, and what its bounds say of it. Assumes nothing.
use mathlib.Core.Path.{◌≡◌, refl, ap}
use mathlib.Core.Bool.{Bool, true, false, cond, ◌||◌}
use mathlib.Core.List.{List}
use Prim.Native.Nat.{ℕ, ◌+◌, ◌-◌, ◌≤◌, ◌<◌}
use Rattle.std.proofs.Common.{min}
use native.Mathlib.Omega.{arith}
use lib.ListN.{length, take, drop, length-take, length-drop}
use Rattle.std.proofs.lemmas.List.{drop_min, take_min}
use lib.Dec.{eqb, ltb}
use borrow.Author.Tests.{ltb-false, eqb-false}
use Rattle.text.specs.declared.spans.Span.{Span}
use Rattle.text.specs.declared.spans.Bounds.{Bounds}
use Rattle.text.specs.declared.spans.Bounds.TheVariants.{Outside, Cuts, Empty, Good}
use Rattle.text.specs.Spans.{part_of, cuts_at, bounds_of}

-- ---- the part that the code takes
module _ (text : List ℕ) (s : Span) where
  pub part_clipped : take (min (s.start + s.len) (length text) - min s.start (length text)) (drop (min s.start (length text)) text) ≡ part_of text s
  unfolding part_of
  part_clipped =
      rw (drop_min s.start text, ← take_min s.len (drop s.start text))
      (ap (λ n. take n (drop s.start text)) (omega (arith, length-drop s.start text)))

  pub part_length : s.start + s.len ≤ length text → length (part_of text s) ≡ s.len
  unfolding part_of
  part_length h = omega (arith, length-take s.len (drop s.start text), length-drop s.start text)

-- ---- what a span's bounds say
-- the bounds, from their tests: past the end, the start cut, the end cut, empty
abbrev bounded : Bool → Bool → Bool → Bool → Bounds
bounded o a b e = cond o Outside (cond (a || b) Cuts (cond e Empty Good))

module _ (text : List ℕ) (s : Span) where
  pub bounds_inside : (bounds_of text s ≡ Outside → ⊥) → s.start + s.len ≤ length text
  unfolding bounds_of
  bounds_inside f = go (ltb (length text) (s.start + s.len)) refl f
    where
      go : (o : Bool) → ltb (length text) (s.start + s.len) ≡ o
          → (bounded o (cuts_at text s.start) (cuts_at text (s.start + s.len)) (eqb s.len 0) ≡ Outside → ⊥)
          → s.start + s.len ≤ length text
      go true e f = absurd (f refl)
      go false e f = ltb-false (length text) (s.start + s.len) e

  pub part_of_length : (bounds_of text s ≡ Outside → ⊥) → length (part_of text s) ≡ s.len
  part_of_length f = part_length text s (bounds_inside f)

  pub bounds_uncut : (bounds_of text s ≡ Outside → ⊥) → (bounds_of text s ≡ Cuts → ⊥)
      → (cuts_at text s.start ≡ false) × (cuts_at text (s.start + s.len) ≡ false)
  unfolding bounds_of
  bounds_uncut f g = go (ltb (length text) (s.start + s.len)) (cuts_at text s.start) (cuts_at text (s.start + s.len)) f g
    where
      go : (o a b : Bool) → (bounded o a b (eqb s.len 0) ≡ Outside → ⊥) → (bounded o a b (eqb s.len 0) ≡ Cuts → ⊥)
          → (a ≡ false) × (b ≡ false)
      go true a b f g = absurd (f refl)
      go false true b f g = absurd (g refl)
      go false false true f g = absurd (g refl)
      go false false false f g = (refl, refl)

  pub good_bounds : bounds_of text s ≡ Good → (bounds_of text s ≡ Outside → ⊥) × (bounds_of text s ≡ Cuts → ⊥)
  good_bounds h = (
    λ e. let z : ◌≡◌ {A = ℕ} 0 1 = cc in omega arith,
    λ e. let z : ◌≡◌ {A = ℕ} 0 1 = cc in omega arith,
  )

  pub empty_bounds : bounds_of text s ≡ Empty → (bounds_of text s ≡ Outside → ⊥) × (bounds_of text s ≡ Cuts → ⊥)
  empty_bounds h = (
    λ e. let z : ◌≡◌ {A = ℕ} 0 1 = cc in omega arith,
    λ e. let z : ◌≡◌ {A = ℕ} 0 1 = cc in omega arith,
  )

  pub good_length : bounds_of text s ≡ Good → 0 < s.len
  unfolding bounds_of
  good_length h = go (ltb (length text) (s.start + s.len)) (cuts_at text s.start) (cuts_at text (s.start + s.len)) (eqb s.len 0) refl h
    where
      go : (o a b e : Bool) → eqb s.len 0 ≡ e → bounded o a b e ≡ Good → 0 < s.len
      go true a b e q h = let z : ◌≡◌ {A = ℕ} 0 1 = cc in absurd (omega arith)
      go false true b e q h = let z : ◌≡◌ {A = ℕ} 0 1 = cc in absurd (omega arith)
      go false false true e q h = let z : ◌≡◌ {A = ℕ} 0 1 = cc in absurd (omega arith)
      go false false false true q h = let z : ◌≡◌ {A = ℕ} 0 1 = cc in absurd (omega arith)
      go false false false false q h = let f : s.len ≡ 0 → ⊥ = eqb-false s.len 0 q in omega arith
