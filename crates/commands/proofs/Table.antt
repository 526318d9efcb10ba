-- The table of sizes, computed for each code: it holds the size of each below 60, and from there on there is no command. Assumes nothing.
use mathlib.Core.Path.{◌≡◌, refl, sym, ap, subst, ◌∙◌}
use mathlib.Core.Bool.{Bool, true, ◌&&◌}
use mathlib.Core.Logic.{⊎_elim, ◌⊎◌, inl, inr}
use Prim.Native.Nat.{ℕ, zero, suc, ◌+◌, ◌-◌, ◌≤◌, ◌<◌}
use native.Mathlib.Omega.{arith}
use lib.ListN.{get_or}
use lib.Dec.{T, eqb, eqb→eq, eqb-suc-zero}
use Rattle.std.specs.Prelude.{None, Some, cond}
use Rattle.std.specs.Option.{unwrap_or}
use Rattle.text.specs.Utf8.{nonzero}
use Rattle.text.proofs.Sequences.{both}
use Rattle.commands.specs.declared.sizes.TheConstants.{SIZES}
use Rattle.commands.specs.Sizes.{root_commands, size_in, command_size}

-- ---- a claim computed for every number below a bound

all_below : (ℕ → Bool) → ℕ → Bool
all_below p zero = true
all_below p (suc n) = p n && all_below p n

last_or_below : (k n : ℕ) → k < suc n → (k ≡ n) ⊎ (k < n)
last_or_below zero zero h = inl refl
last_or_below zero (suc n) h = inr (omega arith)
last_or_below (suc k) zero h = absurd (omega arith)
last_or_below (suc k) (suc n) h = ⊎_elim (λ e. inl (ap suc e)) (λ l. inr (omega arith)) (last_or_below k n (omega arith))

each : (p : ℕ → Bool) (n k : ℕ) → all_below p n ≡ true → k < n → p k ≡ true
unfolding all_below
each p zero k h below = absurd (omega arith)
each p (suc n) k h below =
    let t = both (p n) (all_below p n) h in
    ⊎_elim (λ e. ap p e ∙ t.0) (λ l. each p n k t.1 l) (last_or_below k n below)

same : (x y : ℕ) → eqb x y ≡ true → x ≡ y
same x y h = eqb→eq x y (subst T (sym h) tt)

-- ---- the table

abbrev fits : ℕ → Bool
fits code = eqb (get_or SIZES code 0) (command_size code)

pub listed : (code : ℕ) → code < 96 → get_or SIZES code 0 ≡ command_size code
unfolding all_below command_size size_in root_commands
listed code below = same (get_or SIZES code 0) (command_size code) (each fits 96 code refl below)

abbrev none : ℕ → Bool
none k = eqb 0 (command_size (96 + k))

pub unlisted : (code : ℕ) → 96 ≤ code → code < 256 → 0 ≡ command_size code
unfolding all_below command_size size_in root_commands
unlisted code low high =
    let split : 96 + (code - 96) ≡ code = omega arith in
    same 0 (command_size (96 + (code - 96))) (each none 160 (code - 96) refl (omega arith)) ∙ ap command_size split

-- ---- a size as an option
pub some_size : (n : ℕ) → (n ≡ 0 → ⊥) → Some n ≡ nonzero n
some_size zero f = absurd (f refl)
some_size (suc n) f = refl

pub size_or_none : (n : ℕ) → nonzero n ≡ cond (eqb n 0) None (Some n)
size_or_none zero = refl
size_or_none (suc n) = rw (eqb-suc-zero n)

pub size_or_one : (n : ℕ) → unwrap_or (nonzero n) 1 ≡ 1 + (n - 1)
size_or_one zero = refl
size_or_one (suc n) = omega arith
