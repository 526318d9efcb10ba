-- Lines of a text and words of a line, cut off one after another.
--     cut_same                      a number that is no less than the text's length serves as well
--     cut_few                       there are no more parts than bytes
--     no_line, first_line           the lines by the first of them
--     few_lines, few_words          no more of them than bytes
--     no_word, first_word           the words by the first of them
-- Assumes nothing.
use Rattle.std.specs.Prelude.{None, Option, Some}
use mathlib.Core.Path.{◌≡◌, refl, sym, ap, subst, ◌∙◌}
use mathlib.Core.Bool.{Bool, true, false, cond}
use mathlib.Core.List.{List, [], ◌∷◌}
use Prim.Native.Nat.{ℕ, zero, suc, ◌+◌, ◌≤◌, ◌<◌}
use native.Mathlib.Omega.{arith}
use lib.Dec.{eqb}
use lib.ListN.{length, get_or, take, drop, length-drop}
use lib.Seq.{length-take-le}
use borrow.Author.Tests.{ne_eqb}
use Rattle.std.specs.List.{prefix_len}
use Rattle.std.proofs.lemmas.List.Sums.{prefix_len-le-length}
use Rattle.text.specs.Bytes.{find}
use Rattle.text.proofs.Searching.{Hit, find_found}
use Rattle.vectors.specs.Lines.{is_blank, rest, line_from, inked, ink, word_from, cut_on, cut, lines, words}

-- no more pass than there are
pub prefix_inside : (p : ℕ → Bool) (xs : List ℕ) → prefix_len p xs ≤ length xs
prefix_inside p xs = prefix_len-le-length p xs

-- a byte that was found stands in the text
pub found_inside : (b : ℕ) (s : List ℕ) (n : ℕ) → find (eqb b) s ≡ Some n → n < length s
found_inside b s n e = let h : Hit (eqb b) s n = find_found (eqb b) s n e in h.inside

pub found_front : (b : ℕ) (s : List ℕ) (n : ℕ) → find (eqb b) s ≡ Some n → n ≡ length (take n s)
found_front b s n e = sym (length-take-le n s (omega (arith, found_inside b s n e)))

-- ---- what is cut off takes a byte at least

abbrev Shortens : (List ℕ → Option (List ℕ × List ℕ)) → Type 0
Shortens first = (s : List ℕ) (p : List ℕ × List ℕ) → first s ≡ Some p → length p.1 < length s

module _ (first : List ℕ → Option (List ℕ × List ℕ)) (shorter : Shortens first) where
  pub cut_same : (m n : ℕ) (s : List ℕ) → length s ≤ m → length s ≤ n → cut first m s ≡ cut first n s
  unfolding cut
  cut_same zero zero s h k = refl
  cut_same zero (suc n) s h k = go (first s) refl
    where
      go : (f : Option (List ℕ × List ℕ)) → first s ≡ f → [] ≡ cut_on (cut first n) f
      go None e = refl
      go (Some p) e = absurd (omega (arith, shorter s p e))
  cut_same (suc m) zero s h k = go (first s) refl
    where
      go : (f : Option (List ℕ × List ℕ)) → first s ≡ f → cut_on (cut first m) f ≡ []
      go None e = refl
      go (Some p) e = absurd (omega (arith, shorter s p e))
  cut_same (suc m) (suc n) s h k = go (first s) refl (cut_same m n)
    where
      go : (f : Option (List ℕ × List ℕ)) → first s ≡ f
          → ((r : List ℕ) → length r ≤ m → length r ≤ n → cut first m r ≡ cut first n r) → cut_on (cut first m) f ≡ cut_on (cut first n) f
      go None e same = refl
      go (Some p) e same =
          let less = shorter s p e in
          ap (λ (l : List (List ℕ)). p.0 ∷ l) (same p.1 (omega (arith, less)) (omega (arith, less)))

  cut_none : (s : List ℕ) → first s ≡ None → cut first (length s) s ≡ []
  unfolding cut
  cut_none s e = go (length s)
    where
      go : (n : ℕ) → cut first n s ≡ []
      go zero = refl
      go (suc n) = rw e

  cut_first : (s w r : List ℕ) → first s ≡ Some (w, r) → cut first (length s) s ≡ w ∷ cut first (length r) r
  unfolding cut
  cut_first s w r e = go (length s) refl
    where
      less : length r < length s
      less = shorter s (w, r) e

      go : (n : ℕ) → n ≡ length s → cut first n s ≡ w ∷ cut first (length r) r
      go zero q = absurd (omega (arith, less))
      go (suc n) q = rw e (ap (λ (l : List (List ℕ)). w ∷ l) (cut_same n (length r) r (omega (arith, less)) (omega arith)))

  cut_few : (n : ℕ) (s : List ℕ) → length (cut first n s) ≤ n
  unfolding cut
  cut_few zero s = omega arith
  cut_few (suc n) s = go (first s) (cut_few n)
    where
      go : (f : Option (List ℕ × List ℕ)) → ((r : List ℕ) → length (cut first n r) ≤ n) → length (cut_on (cut first n) f) ≤ suc n
      go None h = omega arith
      go (Some p) h = omega (arith, h p.1)

-- ---- lines

-- a part is cut off unless nothing is left
parted : (k n : ℕ) (p q : List ℕ × List ℕ) → cond (eqb k 0) None (Some q) ≡ Some p → (0 < k → length q.1 < n) → length p.1 < n
parted zero n p q e h = let z : ◌≡◌ {A = ℕ} 0 1 = cc in absurd (omega arith)
parted (suc k) n p q e h =
    let f : eqb (suc k) 0 ≡ false = ne_eqb (suc k) 0 (λ z. omega arith) in
    let g : Some q ≡ Some p = sym (ap (λ (t : Bool). cond t None (Some q)) f) ∙ e in
    let same : q ≡ p = cc in
    subst (λ (r : List ℕ × List ℕ). length r.1 < n) same (h (omega arith))

rest_shorter : (f : Option ℕ) (s : List ℕ) → 0 < length s → length (rest f s) < length s
rest_shorter None s h = h
rest_shorter (Some n) s h = omega (arith, length-drop (n + 1) s)

line_shortens : Shortens line_from
unfolding line_from
line_shortens s p e = parted (length s) (length s) p _ e (rest_shorter (find (eqb 0x0a) s) s)

pub no_line : (s : List ℕ) → line_from s ≡ None → lines s ≡ []
unfolding lines
no_line = cut_none line_from line_shortens

pub first_line : (s w r : List ℕ) → line_from s ≡ Some (w, r) → lines s ≡ w ∷ lines r
unfolding lines
first_line = cut_first line_from line_shortens

pub few_lines : (s : List ℕ) → length (lines s) ≤ length s
unfolding lines
few_lines s = cut_few line_from line_shortens (length s) s

-- ---- words

-- a blank in front is passed
pub inked_more : (b : ℕ) (l : List ℕ) → is_blank b ≡ true → inked (b ∷ l) ≡ inked l
inked_more b l e =
    let n : 1 + prefix_len is_blank l ≡ suc (prefix_len is_blank l) = omega arith in
    ap (λ (t : Bool). drop (cond t (1 + prefix_len is_blank l) 0) (b ∷ l)) e ∙ ap (λ (k : ℕ). drop k (b ∷ l)) n

pub inked_all : (b : ℕ) (l : List ℕ) → is_blank b ≡ false → inked (b ∷ l) ≡ b ∷ l
inked_all b l e = ap (λ (t : Bool). drop (cond t (1 + prefix_len is_blank l) 0) (b ∷ l)) e

-- what is left begins with no blank, and with a word
pub inked_front : (s : List ℕ) → 0 < length (inked s) → is_blank (get_or (inked s) 0 0) ≡ false
inked_front [] h = absurd (omega arith)
inked_front (b ∷ l) h = go (is_blank b) refl (inked_front l)
  where
    go : (t : Bool) → is_blank b ≡ t → (0 < length (inked l) → is_blank (get_or (inked l) 0 0) ≡ false) → is_blank (get_or (inked (b ∷ l)) 0 0) ≡ false
    go true e f =
        let q = inked_more b l e in
        subst (λ (m : List ℕ). is_blank (get_or m 0 0) ≡ false) (sym q) (f (subst (λ (m : List ℕ). 0 < length m) q h))
    go false e f = subst (λ (m : List ℕ). is_blank (get_or m 0 0) ≡ false) (sym (inked_all b l e)) e

ink_first : (s : List ℕ) → 0 < length (inked s) → 0 < ink (inked s)
ink_first s h = go (inked s) h (inked_front s h)
  where
    go : (l : List ℕ) → 0 < length l → is_blank (get_or l 0 0) ≡ false → 0 < ink l
    go [] k e = absurd (omega arith)
    go (b ∷ l) k e = rw e (omega arith)

word_shortens : Shortens word_from
unfolding word_from
word_shortens s p e =
    parted (length (inked s)) (length s) p _ e
    (λ h. omega (arith, ink_first s h, length-drop (ink (inked s)) (inked s), length-drop (prefix_len is_blank s) s))

pub no_word : (s : List ℕ) → word_from s ≡ None → words s ≡ []
unfolding words
no_word = cut_none word_from word_shortens

pub first_word : (s w r : List ℕ) → word_from s ≡ Some (w, r) → words s ≡ w ∷ words r
unfolding words
first_word = cut_first word_from word_shortens

pub few_words : (s : List ℕ) → length (words s) ≤ length s
unfolding words
few_words s = cut_few word_from word_shortens (length s) s
