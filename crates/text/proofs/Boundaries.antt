-- Characters' boundaries: a well-formed text is cut between its characters exactly where no byte continues one; from a boundary the
-- next character leads to a boundary. Assumes nothing.
use mathlib.Core.Path.{◌≡◌, refl, sym, ◌∙◌}
use mathlib.Core.Bool.{true, false, not}
use mathlib.Core.List.{List, [], ◌∷◌}
use Prim.Native.Nat.{ℕ, zero, suc, ◌+◌, ◌-◌, ◌≤◌, ◌<◌}
use native.Mathlib.Nat.{add-zero, zero-add, suc-add, add-suc, le_of_suc-le-suc, not-suc-le-zero}
use native.Mathlib.Numerals.{sub-one}
use native.Mathlib.Omega.{arith}
use lib.ListN.{length, get_or, drop, length-drop}
use lib.Dec.{leb-suc-suc, eqb-suc-zero}
use borrow.Author.Tests.{lt-ltb}
use Rattle.std.specs.Prelude.{None}
use Rattle.text.specs.Utf8.{width, after, ill_from, first_ill}
use Rattle.text.specs.Spans.{continues, cuts_at, boundary_from, is_boundary}
use Rattle.text.proofs.Sequences.{sequence, width_le}

-- ---- one byte
cuts_first : (b : ℕ) (l : List ℕ) → cuts_at (b ∷ l) 0 ≡ continues b
unfolding cuts_at
cuts_first b l = rw (lt-ltb 0 (suc (length l)) (omega arith))

cuts_next : (b : ℕ) (l : List ℕ) (i : ℕ) → cuts_at (b ∷ l) (suc i) ≡ cuts_at l i
unfolding cuts_at
cuts_next b l i = rw (leb-suc-suc (suc i) (length l))

-- a text without ill-formed sequences begins with a sequence, after which it is well-formed too
pub begins : (b : ℕ) (l : List ℕ) (at : ℕ) → ill_from 0 at (b ∷ l) ≡ None
    → (n : ℕ) × (width (b ∷ l) ≡ suc n) × (ill_from n (suc at) l ≡ None)
unfolding ill_from after
begins b l at e = go (width (b ∷ l)) refl e
  where
    go : (w : ℕ) → width (b ∷ l) ≡ w → after w at (λ n. ill_from n (suc at) l) ≡ None
        → (n : ℕ) × (width (b ∷ l) ≡ suc n) × (ill_from n (suc at) l ≡ None)
    go zero q e = let z : ◌≡◌ {A = ℕ} 0 1 = cc in absurd (omega arith)
    go (suc n) q e = (n, q, e)

-- ---- where a text is cut
-- with n bytes of a character to pass, all of which continue it
cuts_from : (l : List ℕ) (n at i : ℕ) → i ≤ length l → ill_from n at l ≡ None
    → ((k : ℕ) → k < n → continues (get_or l k 0) ≡ true) → cuts_at l i ≡ not (boundary_from n l i)
unfolding ill_from boundary_from cuts_at
cuts_from [] n at zero h e t = refl
cuts_from [] n at (suc i) h e t = absurd (not-suc-le-zero h)
cuts_from (b ∷ l) zero at zero h e t = let s = begins b l at e in cuts_first b l ∙ (sequence (b ∷ l) s.0 s.1).first
cuts_from (b ∷ l) (suc n) at zero h e t = cuts_first b l ∙ t 0 (omega arith)
cuts_from (b ∷ l) zero at (suc i) h e t =
    let s = begins b l at e in
    let rec = cuts_from l s.0 (suc at) i (le_of_suc-le-suc h) s.2 (λ k j. (sequence (b ∷ l) s.0 s.1).after k j) in
    cuts_next b l i ∙ rw (s.1, sub-one) rec
cuts_from (b ∷ l) (suc n) at (suc i) h e t =
    cuts_next b l i ∙ cuts_from l n (suc at) i (le_of_suc-le-suc h) e (λ k j. t (suc k) (omega arith))

pub cuts_boundary : (text : List ℕ) (i : ℕ) → first_ill text ≡ None → i ≤ length text
    → cuts_at text i ≡ not (is_boundary text i)
unfolding first_ill is_boundary
cuts_boundary text i e h = cuts_from text 0 0 i h e (λ k j. absurd (not-suc-le-zero j))

-- ---- from a boundary on, a text is a text of its own
pub never : false ≡ true → ⊥
never e = let z : ◌≡◌ {A = ℕ} 0 1 = cc in omega arith

boundary_shift : (l : List ℕ) (n i j : ℕ) → boundary_from n l i ≡ true → boundary_from n l (i + j) ≡ boundary_from 0 (drop i l) j
unfolding boundary_from
boundary_shift [] n zero j e = rw zero-add
boundary_shift [] n (suc i) j e = absurd (never (sym (eqb-suc-zero i) ∙ e))
boundary_shift (b ∷ l) zero zero j e = rw zero-add
boundary_shift (b ∷ l) (suc n) zero j e = absurd (never e)
boundary_shift (b ∷ l) zero (suc i) j e = rw (suc-add i j) (boundary_shift l (width (b ∷ l) - 1) i j e)
boundary_shift (b ∷ l) (suc n) (suc i) j e = rw (suc-add i j) (boundary_shift l n i j e)

ill_shift : (l : List ℕ) (n at i : ℕ) → ill_from n at l ≡ None → boundary_from n l i ≡ true
    → ill_from 0 (at + i) (drop i l) ≡ None
unfolding boundary_from ill_from
ill_shift [] n at zero e h = refl
ill_shift [] n at (suc i) e h = refl
ill_shift (b ∷ l) zero at zero e h = rw add-zero e
ill_shift (b ∷ l) (suc n) at zero e h = absurd (never h)
ill_shift (b ∷ l) zero at (suc i) e h =
    let s = begins b l at e in rw (add-suc at i, ← suc-add at i) (ill_shift l s.0 (suc at) i s.2 (rw (s.1, sub-one) at h))
ill_shift (b ∷ l) (suc n) at (suc i) e h = rw (add-suc at i, ← suc-add at i) (ill_shift l n (suc at) i e h)

-- where the list stands in a text is of no account
ill_anywhere : (l : List ℕ) (n at to : ℕ) → ill_from n at l ≡ None → ill_from n to l ≡ None
unfolding ill_from after
ill_anywhere [] n at to e = refl
ill_anywhere (b ∷ l) zero at to e = let s = begins b l at e in rw s.1 (ill_anywhere l s.0 (suc at) (suc to) s.2)
ill_anywhere (b ∷ l) (suc n) at to e = ill_anywhere l n (suc at) (suc to) e

module _ (text : List ℕ) (i : ℕ) (h : is_boundary text i ≡ true) where
  pub boundary_rest : (j : ℕ) → is_boundary text (i + j) ≡ is_boundary (drop i text) j
  unfolding is_boundary
  boundary_rest j = boundary_shift text 0 i j h

  pub rest_well_formed : first_ill text ≡ None → first_ill (drop i text) ≡ None
  unfolding is_boundary first_ill
  rest_well_formed e = ill_anywhere (drop i text) 0 (0 + i) 0 (ill_shift text 0 0 i e h)

-- ---- the boundaries of a text
pub boundary_start : (text : List ℕ) → is_boundary text 0 ≡ true
unfolding is_boundary boundary_from
boundary_start [] = refl
boundary_start (b ∷ l) = refl

-- after the n bytes that are to pass
boundary_pass : (l : List ℕ) (n : ℕ) → n ≤ length l → boundary_from n l n ≡ true
unfolding boundary_from
boundary_pass [] zero h = refl
boundary_pass [] (suc n) h = absurd (not-suc-le-zero h)
boundary_pass (b ∷ l) zero h = refl
boundary_pass (b ∷ l) (suc n) h = boundary_pass l n (le_of_suc-le-suc h)

boundary_after : (l : List ℕ) (n : ℕ) → width l ≡ suc n → is_boundary l (suc n) ≡ true
unfolding is_boundary boundary_from
boundary_after [] n e = absurd (omega (arith, e, width_le []))
boundary_after (b ∷ l) n e = rw (e, sub-one) (boundary_pass l n (omega (arith, e, width_le (b ∷ l))))

-- after the first character
boundary_first : (l : List ℕ) → is_boundary l (width l) ≡ true
boundary_first l = go (width l) refl
  where
    go : (w : ℕ) → width l ≡ w → is_boundary l w ≡ true
    go zero e = boundary_start l
    go (suc n) e = boundary_after l n e

pub boundary_next : (text : List ℕ) (i : ℕ) → is_boundary text i ≡ true → is_boundary text (i + width (drop i text)) ≡ true
boundary_next text i h = boundary_rest text i h (width (drop i text)) ∙ boundary_first (drop i text)

boundary_last : (l : List ℕ) (n : ℕ) → boundary_from n l (length l) ≡ true
unfolding boundary_from
boundary_last [] n = refl
boundary_last (b ∷ l) zero = boundary_last l (width (b ∷ l) - 1)
boundary_last (b ∷ l) (suc n) = boundary_last l n

pub boundary_end : (text : List ℕ) → is_boundary text (length text) ≡ true
unfolding is_boundary
boundary_end text = boundary_last text 0

-- a character stands at every boundary before the end
pub width_positive : (text : List ℕ) (i : ℕ) → first_ill text ≡ None → is_boundary text i ≡ true → i < length text
    → 0 < width (drop i text)
unfolding first_ill
width_positive text i e h k = go (drop i text) (omega (arith, length-drop i text)) (rest_well_formed text i h e)
  where
    go : (l : List ℕ) → 0 < length l → first_ill l ≡ None → 0 < width l
    go [] k e = absurd (not-suc-le-zero k)
    go (b ∷ l) k e = let s = begins b l 0 e in omega (arith, s.1)
