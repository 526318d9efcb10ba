-- Sizes packed in rows, computed for each code.
--     at_half, no_row     the row that was chosen, by the code's upper half; from the code 60 on there is no command
--     digit               a row's digit, found by shifts, is its code's size
-- Assumes nothing.
use mathlib.Core.Path.{◌≡◌, refl, sym, ap, subst, ◌∙◌}
use mathlib.Core.Bool.{Bool, true, ◌&&◌}
use mathlib.Core.Logic.{⊎_elim, ◌⊎◌, inl, inr}
use Prim.Native.Nat.{ℕ, zero, suc, ◌+◌, ◌-◌, ◌*◌, ◌/◌, ◌%◌, ◌^◌, ◌≤◌, ◌<◌}
use native.Mathlib.Omega.{arith}
use lib.Dec.{T, eqb, eqb→eq}
use Rattle.text.proofs.Sequences.{both}
use Rattle.commands.specs.Sizes.{root_commands, size_in, command_size}

-- ---- a claim computed for every number below a bound

all_below : (ℕ → Bool) → ℕ → Bool
all_below p zero = true
all_below p (suc n) = p n && all_below p n

last_or_below : (k n : ℕ) → k < suc n → (k ≡ n) ⊎ (k < n)
last_or_below zero zero h = inl refl
last_or_below zero (suc n) h = inr (omega arith)
last_or_below (suc k) zero h = absurd (omega arith)
last_or_below (suc k) (suc n) h = ⊎_elim (λ e. inl (ap suc e)) (λ l. inr (omega arith)) (last_or_below k n (omega arith))

each : (p : ℕ → Bool) (n k : ℕ) → all_below p n ≡ true → k < n → p k ≡ true
unfolding all_below
each p zero k h below = absurd (omega arith)
each p (suc n) k h below =
    let t = both (p n) (all_below p n) h in
    ⊎_elim (λ e. ap p e ∙ t.0) (λ l. each p n k t.1 l) (last_or_below k n below)

same : (x y : ℕ) → eqb x y ≡ true → x ≡ y
same x y h = eqb→eq x y (subst T (sym h) tt)

-- ---- rows

-- n sizes from a code on as hexadecimal digits, the first one's last
unfoldable pub packed : ℕ → ℕ → ℕ
packed zero code = 0
packed (suc n) code = command_size code + 16 * packed n (suc code)

-- the sixteen codes with this upper half
unfoldable pub row_of : ℕ → ℕ
row_of half = packed 16 (half * 16)

pub at_half : (k : ℕ) {row half : ℕ} → half ≡ k → row ≡ row_of k → row ≡ row_of half
at_half k e r = r ∙ ap row_of (sym e)

abbrev row_less : ℕ → Bool
row_less k = eqb (row_of (6 + k)) 0

pub no_row : (half : ℕ) {row : ℕ} → 6 ≤ half → half < 16 → row ≡ 0 → row ≡ row_of half
unfolding all_below row_of packed command_size size_in root_commands
no_row half low high r =
    let split : half ≡ 6 + (half - 6) = omega arith in
    r ∙ sym (ap row_of split ∙ same (row_of (6 + (half - 6))) 0 (each row_less 10 (half - 6) refl (omega arith)))

abbrev digit_of : ℕ → ℕ → ℕ
digit_of row code = row / 2 ^ (code * 16 % 256 / 4) * 2 ^ 60 % 2 ^ 64 / 2 ^ 60

abbrev fits : ℕ → Bool
fits code = eqb (digit_of (row_of (code / 16)) code) (command_size code)

pub digit : (row code : ℕ) → code < 256 → row ≡ row_of (code / 16) → row / 2 ^ (code * 16 % 256 / 4) * 2 ^ 60 % 2 ^ 64 / 2 ^ 60 ≡ command_size code
unfolding all_below row_of packed command_size size_in root_commands
digit row code below r = ap (λ (n : ℕ). digit_of n code) r ∙ same (digit_of (row_of (code / 16)) code) (command_size code) (each fits 256 code refl below)
