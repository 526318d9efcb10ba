-- `same`: steps over two lists, and that it tells equal lists from others. Assumes nothing.
use mathlib.Core.Path.{◌≡◌, refl, ap, ◌∙◌}
use mathlib.Core.Bool.{Bool, true, false}
use mathlib.Core.List.{List, ◌∷◌}
use Prim.Native.Nat.{ℕ, ◌+◌, ◌≤◌, ◌<◌}
use lib.ListN.{length, get_or, drop, drop_of_length-le}
use borrow.Author.Tests.{eq-eqb, ne_eqb}
use Rattle.std.proofs.lemmas.Slice.Eq.{bytes_eq-Decides}
use Rattle.text.specs.Bytes.{same}
use Rattle.text.proofs.Lists.{drop_one}

pub same_differ : (a b : List ℕ) (i : ℕ) → i < length a → i < length b → (get_or a i 0 ≡ get_or b i 0 → ⊥)
    → same (drop i a) (drop i b) ≡ false
same_differ a b i h k f = rw (drop_one a i h, drop_one b i k, ne_eqb (get_or a i 0) (get_or b i 0) f)

pub same_step : (a b : List ℕ) (i : ℕ) → i < length a → i < length b → get_or a i 0 ≡ get_or b i 0
    → same (drop i a) (drop i b) ≡ same (drop (i + 1) a) (drop (i + 1) b)
same_step a b i h k e =
    ap (λ (l : List ℕ). same l (drop i b)) (drop_one a i h)
    ∙ (ap (same (get_or a i 0 ∷ drop (i + 1) a)) (drop_one b i k) ∙ rw (eq-eqb (get_or a i 0) (get_or b i 0) e))

pub same_end : (a b : List ℕ) (i : ℕ) → length a ≤ i → length b ≤ i → same (drop i a) (drop i b) ≡ true
same_end a b i h k = rw (drop_of_length-le a h, drop_of_length-le b k)

-- the same bytes are the same list
pub same_eq : (a b : List ℕ) → same a b ≡ true → a ≡ b
same_eq a b = (bytes_eq-Decides a b).0

pub same_lengths : (a b : List ℕ) → (length a ≡ length b → ⊥) → same a b ≡ false
same_lengths a b f = go (same a b) refl
  where
    go : (t : Bool) → same a b ≡ t → same a b ≡ false
    go true e = absurd (f (ap length (same_eq a b e)))
    go false e = e
