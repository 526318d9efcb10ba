-- What reading a state gives as a test and a state in one: the test is that of the bytes, and the state is theirs where it holds.
--     answered             for any bytes
--     answered_packed      for those that packing makes of a state
-- Assumes nothing.
use mathlib.Core.Path.{◌≡◌, refl, ap}
use mathlib.Core.Bool.{Bool, true, false, cond, ◌&&◌}
use mathlib.Core.List.{List}
use Prim.Native.Nat.{ℕ}
use lib.ListN.{length}
use lib.Dec.{eqb}
use Rattle.definitions.specs.declared.state.State.{State}
use Rattle.packing.specs.Packed.{packed, state_at, good, if_good, unpacked, no_state}
use Rattle.packing.specs.UnpackedAnswer.{unpacked_answer}
use Rattle.packing.proofs.Inverse.{unpacked_packed}

pub answered : (t : List ℕ)
    → unpacked_answer (unpacked t) ≡ record { good = eqb (length t) 102 && good t; state = cond (eqb (length t) 102 && good t) (state_at t) no_state }
unfolding unpacked_answer unpacked
answered t = go (eqb (length t) 102 && good t)
  where
    go : (b : Bool) → unpacked_answer (if_good b (state_at t)) ≡ record { good = b; state = cond b (state_at t) no_state }
    go true = refl
    go false = refl

pub answered_packed : (s : State) → length s.records ≡ 8 → unpacked_answer (unpacked (packed s)) ≡ record { good = true; state = s }
unfolding unpacked_answer
answered_packed s e = ap unpacked_answer (unpacked_packed s e)
