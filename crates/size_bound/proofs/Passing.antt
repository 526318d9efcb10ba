-- One pass over a tape, from command to command by their first bytes.
--     texts             what the lengths of the texts come to that are met on the way
--     texts_front       the command in front, and those behind it
--     bound_front       of a command that is whole, and what is behind it
--     passed_most       how much is passed at once
--     no_text, ..       the text at a place; texts_step, texts_end: from a place on
-- Assumes nothing.
use mathlib.Core.Path.{◌≡◌, refl, ap, ◌∙◌}
use mathlib.Core.List.{List, [], ◌∷◌}
use Prim.Native.Nat.{ℕ, zero, suc, ◌+◌, ◌*◌, ◌-◌, ◌≤◌, ◌<◌}
use native.Mathlib.Omega.{arith}
use lib.ListN.{length, get_or, drop, length-drop, drop_of_length-le}
use lib.Seq.{drop-cons, drop-drop, get_or-drop}
use borrow.Author.Tests.{lt-ltb, le-ltb, eq-eqb, ne_eqb}
use Rattle.tape.specs.Numbers.{u16_at}
use Rattle.commands.specs.Sizes.{command_size}
use Rattle.commands.proofs.Lengths.{size_most}
use Rattle.size_bound.specs.SizeBound.{text_length, texts_behind, size_bound}

abbrev pub texts : List ℕ → ℕ
texts t = texts_behind 0 t

behind_drop : (n : ℕ) (t : List ℕ) → texts_behind n t ≡ texts (drop n t)
unfolding texts_behind
behind_drop zero t = refl
behind_drop (suc n) [] = refl
behind_drop (suc n) (b ∷ t) = behind_drop n t

pub texts_front : (b : ℕ) (t : List ℕ) → texts (b ∷ t) ≡ text_length (b ∷ t) + texts (drop (command_size b - 1) t)
unfolding texts_behind
texts_front b t = ap (λ (n : ℕ). text_length (b ∷ t) + n) (behind_drop (command_size b - 1) t)

-- a command of the code k, with n bytes of operands that are there
pub bound_front : (b k n : ℕ) (t : List ℕ) → b ≡ k → command_size k - 1 ≡ n → n ≤ length t → 4 + 4 * n + 6 * text_length (b ∷ t) + size_bound (drop n t) ≤ size_bound (b ∷ t)
unfolding size_bound
bound_front b k n t e f h =
    let g : command_size b - 1 ≡ n = ap (λ (c : ℕ). command_size c - 1) e ∙ f in
    let p : texts (drop (command_size b - 1) t) ≡ texts (drop n t) = ap (λ (m : ℕ). texts (drop m t)) g in
    omega (arith, texts_front b t, length-drop n t)

-- what is passed at a code
pub passed_most : (n code : ℕ) → n ≡ 1 + (command_size code - 1) → n ≤ 9
passed_most n code e = omega (arith, e, size_most code)

-- ---- at a place of the tape

module _ (tape : List ℕ) (at : ℕ) (inside : at < length tape) where
  from_place : drop at tape ≡ get_or tape at 0 ∷ drop (suc at) tape
  from_place = drop-cons tape at 0 inside

  pub no_text : (get_or tape at 0 ≡ 0x50 → ⊥) → text_length (drop at tape) ≡ 0
  unfolding text_length
  no_text h = rw (from_place, ne_eqb _ 0x50 h) refl

  pub cut_text : get_or tape at 0 ≡ 0x50 → length tape - at < 5 → text_length (drop at tape) ≡ 0
  unfolding text_length
  cut_text e h =
      let g : length (drop (suc at) tape) < 4 = omega (arith, length-drop (suc at) tape) in
      rw (from_place, eq-eqb _ 0x50 e, lt-ltb (length (drop (suc at) tape)) 4 g) refl

  pub whole_text : get_or tape at 0 ≡ 0x50 → 5 ≤ length tape - at → u16_at tape (at + 3) ≡ text_length (drop at tape)
  unfolding text_length
  whole_text e h =
      let g : 4 ≤ length (drop (suc at) tape) = omega (arith, length-drop (suc at) tape) in
      let n : suc at + 2 ≡ at + 3 = omega arith in
      let m : suc at + 3 ≡ at + 3 + 1 = omega arith in
      let low : get_or (drop (suc at) tape) 2 0 ≡ get_or tape (at + 3) 0 = get_or-drop (suc at) tape 2 0 ∙ ap (λ (i : ℕ). get_or tape i 0) n in
      let high : get_or (drop (suc at) tape) 3 0 ≡ get_or tape (at + 3 + 1) 0 = get_or-drop (suc at) tape 3 0 ∙ ap (λ (i : ℕ). get_or tape i 0) m in
      rw (from_place, eq-eqb _ 0x50 e, le-ltb (length (drop (suc at) tape)) 4 g) (omega arith)

  pub texts_step : texts (drop at tape) ≡ text_length (drop at tape) + texts (drop (at + (1 + (command_size (get_or tape at 0) - 1))) tape)
  texts_step =
      let n = command_size (get_or tape at 0) - 1 in
      let same : suc at + n ≡ at + (1 + n) = omega arith in
      let e : drop n (drop (suc at) tape) ≡ drop (at + (1 + n)) tape = drop-drop n (suc at) tape ∙ ap (λ (m : ℕ). drop m tape) same in
      rw from_place (texts_front (get_or tape at 0) (drop (suc at) tape) ∙ ap (λ (l : List ℕ). text_length (get_or tape at 0 ∷ drop (suc at) tape) + texts l) e)

-- past the end there are none
pub texts_end : (tape : List ℕ) (at : ℕ) → length tape ≤ at → texts (drop at tape) ≡ 0
unfolding texts_behind
texts_end tape at h = ap texts (drop_of_length-le tape {i = at} h)
