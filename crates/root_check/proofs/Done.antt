-- A tape that was found good reads.
-- Assumes nothing.
use mathlib.Core.Path.{◌≡◌, refl}
use Prim.Native.Nat.{ℕ}
use native.Mathlib.Omega.{arith}
use Rattle.definitions.specs.Judging.{Parsed, done, stop}
use Rattle.std.specs.Prelude.{Ok}
use Rattle.root_check.specs.Checking.{checked}

pub checked_good : {A : Type 0} (p : Parsed A) → checked p ≡ Ok tt → (a : A) × (u : ℕ) × (p ≡ done a u)
unfolding checked
checked_good (done a u) e = (a, u, refl)
checked_good (stop f q) e = let z : ◌≡◌ {A = ℕ} 0 1 = cc in absurd (omega arith)
