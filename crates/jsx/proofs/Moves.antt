-- How far an object literal's step and a child's step go.
--     literal_moves     a literal written over an attribute is within the tape and moves on
--     kids_fit          no more children are counted than bytes are passed
-- Assumes nothing.
use Rattle.std.specs.Prelude.{None}
use mathlib.Core.Path.{◌≡◌, sym, subst}
use mathlib.Core.List.{List}
use Prim.Native.Nat.{ℕ, ◌+◌, ◌≤◌}
use native.Mathlib.Omega.{arith}
use lib.ListN.{length}
use Rattle.emit.proofs.Readings.{Rest}
use Rattle.parts.specs.declared.jsx_impl.Props.{Props}
use Rattle.jsx.specs.Parts.{KeyWithin, AttributeMoves}

pub literal_moves : {len : ℕ} (r : Props) → (r.key ≡ None) × (3 ≤ r.used) × (r.used ≤ len) → AttributeMoves len r
literal_moves r F = (F.2, omega (arith, F.1), subst (KeyWithin r.used) (sym F.0) tt)

pub kids_fit : {t q : List ℕ} (left : Rest t q) {count more used : ℕ} → count ≤ left.passed → used ≤ length q → more ≤ used → count + more ≤ length t
kids_fit left few inside fewer = omega (arith, left.size, few, inside, fewer)
