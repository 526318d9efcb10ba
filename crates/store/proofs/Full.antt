-- A store that has no number for another import stays as it is.
-- Assumes nothing.
use Rattle.std.specs.Prelude.{None}
use mathlib.Core.Path.{◌≡◌, refl}
use mathlib.Core.Bool.{Bool, true, false, cond}
use Prim.Native.Nat.{ℕ}
use native.Mathlib.Omega.{arith}
use lib.Dec.{ltb}
use Rattle.definitions.specs.declared.records.Import.{Import}
use Rattle.definitions.specs.Store.{is_bound}
use Rattle.store.specs.declared.module_imports.Store.{Store}
use Rattle.store.specs.Adding.{things, full_of, found_in, made_in, added}

pub full_stays : (s : Store) (i : Import) → (added s i).number ≡ None → (added s i).store ≡ s
unfolding added
full_stays s i = go (ltb 8 s.count) (is_bound (things s) i) (ltb s.count 8)
  where
    go : (over there room : Bool) → (cond over (full_of s) (cond there (found_in s i) (cond room (made_in s i) (full_of s)))).number ≡ None
        → (cond over (full_of s) (cond there (found_in s i) (cond room (made_in s i) (full_of s)))).store ≡ s
    go true there room e = refl
    go false true room e = refl
    go false false true e = let z : ◌≡◌ {A = ℕ} 0 1 = cc in absurd (omega arith)
    go false false false e = refl
