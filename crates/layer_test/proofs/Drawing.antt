-- Draws as a loop makes them: one more, and none left. Assumes nothing.
use mathlib.Core.Path.{◌≡◌, ap}
use Prim.Native.Nat.{ℕ, suc, ◌+◌, ◌-◌, ◌≤◌, ◌<◌}
use native.Mathlib.Omega.{arith}
use Rattle.layer_test.specs.Random.{next_of, drawn}

pub drawn_more : (n i state : ℕ) → i < n → drawn (n - i) state ≡ drawn (n - (i + 1)) (next_of state)
unfolding drawn
drawn_more n i state h = let e : n - i ≡ suc (n - (i + 1)) = omega arith in ap (λ (k : ℕ). drawn k state) e

pub drawn_end : (n i state : ℕ) → n ≤ i → drawn (n - i) state ≡ state
unfolding drawn
drawn_end n i state h = let e : n - i ≡ 0 = omega arith in ap (λ (k : ℕ). drawn k state) e
