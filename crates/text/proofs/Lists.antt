-- What the code's tests, parts of slices and one element more are in the definitions' terms. Assumes nothing.
use mathlib.Core.Path.{◌≡◌, sym, ◌∙◌}
use mathlib.Core.List.{List, ◌∷◌}
use Prim.Native.Nat.{ℕ, ◌+◌, ◌-◌, ◌<◌}
use native.Mathlib.Numerals.{add-one}
use native.Mathlib.Omega.{arith}
use lib.ListN.{length, get_or, take, drop, length-drop}
use lib.Seq.{take_all, drop-cons}

-- what a call's answer is by its contract, and by the branch that was taken
pub told : {A : Type 0} {r x b : A} → r ≡ x → r ≡ b → x ≡ b
told p q = sym p ∙ q

-- `&s[a..]` is the list from a on
pub tail_part : (l : List ℕ) (a : ℕ) → take (length l - a) (drop a l) ≡ drop a l
tail_part l a = take_all (length l - a) (drop a l) (omega (arith, length-drop a l))

-- a list from place i on is the element there and the list from the next place on
pub drop_one : (l : List ℕ) (i : ℕ) → i < length l → drop i l ≡ get_or l i 0 ∷ drop (i + 1) l
drop_one l i h = rw (add-one, drop-cons l i 0)
