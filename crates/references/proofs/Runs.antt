-- Runs of bytes of one kind.
--     run_is                          how many bytes `take_while` gives
--     run_within, run_bare            a run ends within the list, and has no ampersand
--     closed_none                     nothing is closed where no byte of the kind stands
-- Assumes nothing.
use mathlib.Core.Path.{◌≡◌, refl, sym, ap, ◌∙◌}
use mathlib.Core.Bool.{Bool, true, false, cond}
use mathlib.Core.List.{List, [], ◌∷◌}
use Prim.Native.Nat.{ℕ, suc, ◌+◌, ◌≤◌}
use native.Mathlib.Omega.{arith}
use lib.ListN.{length, drop}
use lib.Dec.{eqb}
use Rattle.std.specs.List.{prefix_len}
use borrow.Author.Tests.{eqb-true}
use Rattle.references.specs.declared.Kind.{Kind}
use Rattle.references.specs.declared.Kind.TheVariants.{Name, Decimal, Hexadecimal}
use Rattle.references.specs.References.{is_of, run, closed, has_reference}
use Rattle.references.proofs.Bare.{never, has_bare}

module _ (k : Kind) where
  add_one_front : (n : ℕ) → 1 + n ≡ suc n
  add_one_front n = omega arith

  -- ---- the library's word for it
  pub run_is : (l : List ℕ) → prefix_len (is_of k) l ≡ run k l
  unfolding run
  run_is [] = refl
  run_is (b ∷ l) = rw (run_is l, add_one_front (run k l))

  -- ---- what a run is
  pub run_within : (l : List ℕ) → run k l ≤ length l
  unfolding run
  run_within [] = omega arith
  run_within (b ∷ l) = go (is_of k b) (run_within l)
    where
      go : (t : Bool) → run k l ≤ length l → cond t (suc (run k l)) 0 ≤ length (b ∷ l)
      go true h = omega arith
      go false h = omega arith

  no_sign : is_of k 0x26 ≡ false
  unfolding is_of
  no_sign = by_kind k
    where
      by_kind : (j : Kind) → is_of j 0x26 ≡ false
      by_kind Name = refl
      by_kind Decimal = refl
      by_kind Hexadecimal = refl

  kind_bare : (b : ℕ) → is_of k b ≡ true → eqb b 0x26 ≡ false
  kind_bare b e = go (eqb b 0x26) refl
    where
      go : (t : Bool) → eqb b 0x26 ≡ t → t ≡ false
      go true h = absurd (never (sym no_sign ∙ (ap (is_of k) (sym (eqb-true b 0x26 h)) ∙ e)))
      go false h = refl

  pub run_bare : (l : List ℕ) → has_reference l ≡ has_reference (drop (run k l) l)
  unfolding run
  run_bare [] = refl
  run_bare (b ∷ l) = go (is_of k b) refl (run_bare l)
    where
      go : (t : Bool) → is_of k b ≡ t → has_reference l ≡ has_reference (drop (run k l) l)
          → has_reference (b ∷ l) ≡ has_reference (drop (cond t (suc (run k l)) 0) (b ∷ l))
      go true e ih = has_bare b l (kind_bare b e) ∙ ih
      go false e ih = refl

  pub closed_none : (b : ℕ) (l : List ℕ) → is_of k b ≡ false → closed k (b ∷ l) ≡ false
  unfolding closed run
  closed_none b l e = rw e
