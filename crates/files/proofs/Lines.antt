-- Digits of a number as the code writes them, and lines in a lent buffer.
--     more_digits                           a number's digits, the last one behind the others
--     refusal_wrote                         a refusal's line, part by part
--     digits_behind                         the digits of one byte
--     line_unfit, line_fits, line_front     a line, where the buffer has room for it and where not
--     line_handed                           a line that is handed on from the front of the buffer
-- Assumes nothing.
use Rattle.std.proofs.Common.{◌≡◌, refl, subst, List, [], ◌∷◌, ℕ, ◌+◌, ◌-◌, ◌/◌, ◌%◌, ◌≤◌, ◌<◌, ◌^◌, arith, length, take, drop, ◌⊎◌, inl, inr, Result, Ok, Err, IsErr, OnOk, Bool, false, true}
use native.Mathlib.Nat.{sub-zero}
use Rattle.std.proofs.Math.Seq.{take_at}
use Rattle.std.proofs.lemmas.Bool.{cases_lt}
use Rattle.text.specs.Bytes.{ascii}
use Rattle.tape.specs.declared.refusal.Refusal.{Refusal}
use Rattle.tape.specs.Refusals.{number_of, figure_of}
use Rattle.tape.specs.Targets.{Wrote}
use Rattle.tape.proofs.Targets.{wrote_then, wrote_room, wrote_length}
use Rattle.std.specs.Fmt.{decimal}
use Rattle.std.proofs.lemmas.Fmt.{decimal_step}
use Rattle.printing.specs.Lines.{hex_bytes}
use Rattle.files.specs.Lines.{Prints, hex_pair}
use Rattle.files.specs.Refusals.{refusal_line}

-- ---- lines

-- a number's digits, the last one behind the others
pub more_digits : (n : ℕ) {o o₁ o₂ : List ℕ} {at next r : ℕ} → 10 ≤ n → n < 2 ^ 64 → length o ≤ 2 ^ 63 → Wrote o o₁ at next (decimal (n / 10))
    → Wrote o₁ o₂ next r ((0x30 + n % 10) ∷ []) → Wrote o o₂ at r (decimal n)
more_digits n h k short v w = rw (decimal_step n h k) (wrote_then short v w)

pub refusal_wrote : (x : Refusal) (n f : ℕ) {o o₁ o₂ o₃ o₄ o₅ : List ℕ} {a b c d e : ℕ} → n ≡ number_of x → f ≡ figure_of x → length o ≤ 2 ^ 63
    → Wrote o o₁ 0 a (ascii "refused ") → Wrote o₁ o₂ a b (decimal n) → Wrote o₂ o₃ b c (ascii " ") → Wrote o₃ o₄ c d (decimal f)
    → Wrote o₄ o₅ d e (0x0a ∷ []) → Wrote o o₅ 0 e (refusal_line x)
refusal_wrote x n f i j short p q r s t = rw (← i, ← j) (wrote_then short (wrote_then short (wrote_then short (wrote_then short p q) r) s) t)

-- the two digits behind the space
pub digits_behind : (b : ℕ) {o : List ℕ} {r : ℕ} → Wrote (0 ∷ 0 ∷ 0 ∷ []) o 0 r (hex_bytes (b ∷ [])) → take 2 (drop 1 o) ≡ hex_pair b
unfolding hex_bytes
digits_behind b w = rw w.holds refl

-- a line that was written from the start of the buffer: its front is the line, where the buffer has room for it
module _ (line : List ℕ) {o o₁ : List ℕ} {r : ℕ} (w : Wrote o o₁ 0 r line) where
  pub line_unfit : {b : Bool} → b ≡ false → Prints line o o₁ b
  line_unfit e = record { holds = w.holds; unfit = λ h. e }

  module _ (short : length o < 2 ^ 63) (h : r ≤ length o) where
    pub line_fits : {b : Bool} → Prints line o o₁ b
    line_fits = record { holds = w.holds; unfit = λ k. absurd (omega (arith, w.next)) }

    pub line_front : take (r - 0) (drop 0 o₁) ≡ line
    line_front =
        let x = wrote_room short h w in
        let e : length line ≡ r = omega (arith, x.0) in
        rw (sub-zero r, x.1) (take_at line (drop r o) r e)

-- a line that was written from the start of the buffer, and the buffer's front then handed on: what was handed is the line, where the buffer had room for it
pub line_handed : {T E : Type 0} (r : Result T E) (line : List ℕ) {o o₁ : List ℕ} {n : ℕ} (P : List ℕ → Type 0) → Wrote o o₁ 0 n line → length o < 2 ^ 63
    → (length o₁ < n → IsErr r) → OnOk r (P (take n o₁)) → OnOk r (P line)
line_handed (Err e) line P w short unfit done = tt
line_handed (Ok x) line {o} {o₁} {n} P w short unfit done =
    let h : n ≤ length o = inside (cases_lt (length o₁) n) in
    subst P (front h) done
  where
    inside : (length o₁ < n) ⊎ (n ≤ length o₁) → n ≤ length o
    inside (inl k) = let e : false ≡ true = unfit k in absurd (cc)
    inside (inr k) = omega (arith, wrote_length w)

    front : n ≤ length o → take n o₁ ≡ line
    front h =
        let x = wrote_room short h w in
        let e : length line ≡ n = omega (arith, x.0) in
        rw x.1 (take_at line (drop n o) n e)
