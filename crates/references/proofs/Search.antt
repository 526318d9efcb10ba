-- The search's turns, over the parts `&rest[n..]` that the code hands on, where the next ampersand stands at n.
--     sign_inside, sign_there       it stands there
--     found_reference, found_bare   what it opens
-- Assumes nothing.
use Rattle.std.specs.Prelude.{None, Some}
use mathlib.Core.Path.{◌≡◌, ap, ◌∙◌}
use mathlib.Core.Bool.{true}
use mathlib.Core.List.{List}
use Prim.Native.Nat.{ℕ, ◌+◌, ◌-◌, ◌≤◌, ◌<◌}
use native.Mathlib.Omega.{arith}
use lib.ListN.{length, take, drop, length-drop}
use lib.Seq.{drop-drop}
use lib.Dec.{eqb}
use Rattle.text.specs.Bytes.{ascii, find}
use Rattle.text.proofs.Lists.{tail_part}
use Rattle.text.proofs.Searching.{find_found}
use Rattle.references.specs.References.{begins, has_reference}
use Rattle.references.specs.Walks.{Fronts}
use Rattle.references.proofs.Bare.{sign_found, sign_begins}

-- the list from place i on, as the code has it
abbrev from : List ℕ → ℕ → List ℕ
from s i = take (length s - i) (drop i s)

module _ (l : List ℕ) (n : ℕ) (e : find (eqb 0x26) l ≡ Some n) where
  pub sign_inside : n < length l
  sign_inside = (find_found (eqb 0x26) l n e).inside

  pub sign_there : begins (ascii "&") (from l n) ≡ true
  sign_there = rw (tail_part l n) (sign_begins l n e)

  pub sign_passed : has_reference l ≡ has_reference (from l n)
  sign_passed = rw (tail_part l n) (sign_found l n e)

  pub found_reference : Fronts (from l n) None → has_reference l ≡ true
  found_reference f = sign_passed ∙ f

  pub found_bare : (m : ℕ) → Fronts (from l n) (Some m)
      → (1 ≤ m) × (n + m ≤ length l) × (has_reference l ≡ has_reference (from l (n + m)))
  found_bare m f =
      let g : Fronts (drop n l) (Some m) = rw (tail_part l n) at f in (
        g.0,
        omega (arith, g.1, length-drop n l, sign_inside),
        rw (tail_part l (n + m)) (sign_found l n e ∙ (g.2 ∙ ap has_reference (drop-drop m n l))),
      )
