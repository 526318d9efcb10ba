-- Runs of bytes within bounds: what `fold` says of a block, a byte more or less in front, and the blocks that a search may pass. Assumes nothing.
use mathlib.Core.Path.{◌≡◌, refl, sym, ap, subst, ◌∙◌}
use mathlib.Core.Bool.{Bool, true, false, not, ◌&&◌}
use mathlib.Core.List.{List, [], ◌∷◌}
use mathlib.Core.Logic.{⊎_elim}
use Prim.Native.Nat.{ℕ, zero, suc, ◌+◌, ◌-◌, ◌≤◌, ◌<◌}
use native.Mathlib.Nat.{eq-or-lt_of_le, le_of_suc-le-suc, not-suc-le-zero}
use native.Mathlib.Omega.{arith}
use lib.Dec.{leb}
use borrow.Author.Tests.{leb-true, le-leb}
use lib.ListN.{length, get_or, drop, length-drop}
use lib.Seq.{get_or-drop, drop-length}
use Rattle.std.specs.Prelude.{None}
use Rattle.std.specs.List.{fold}
use Rattle.text.specs.Bytes.{find_from, find}
use Rattle.text.proofs.Searching.{find_run, find_behind}
use Rattle.text.proofs.Sequences.{both}
use Rattle.jsx_text.specs.Marks.{Run}

within_folded : (lo hi : ℕ) (l : List ℕ) (all : Bool) → fold (λ all x. (all && leb lo x) && leb x hi) all l ≡ true
    → (all ≡ true) × ((k : ℕ) → k < length l → (lo ≤ get_or l k 0) × (get_or l k 0 ≤ hi))
within_folded lo hi [] all e = (e, λ k h. absurd (not-suc-le-zero h))
within_folded lo hi (x ∷ l) all e =
    let r = within_folded lo hi l ((all && leb lo x) && leb x hi) e in
    let upper = both (all && leb lo x) (leb x hi) r.0 in
    let lower = both all (leb lo x) upper.0 in
    (lower.0, each (leb-true lo x lower.1) (leb-true x hi upper.1) r.1)
  where
    each : lo ≤ x → x ≤ hi → ((k : ℕ) → k < length l → (lo ≤ get_or l k 0) × (get_or l k 0 ≤ hi))
        → (k : ℕ) → k < length (x ∷ l) → (lo ≤ get_or (x ∷ l) k 0) × (get_or (x ∷ l) k 0 ≤ hi)
    each a b f zero h = (a, b)
    each a b f (suc k) h = f k (le_of_suc-le-suc h)

pub run_folded : (l : List ℕ) (lo hi : ℕ) → fold (λ all x. (all && leb lo x) && leb x hi) true l ≡ true → Run l lo hi 0 (length l)
run_folded l lo hi e =
    record { forward = omega arith; inside = omega arith; each = λ k p q. (within_folded lo hi l true e).1 k q }

module _ (l : List ℕ) (lo hi from : ℕ) where
  pub run_front : (to : ℕ) → lo ≤ get_or l from 0 → get_or l from 0 ≤ hi → Run l lo hi (from + 1) to → Run l lo hi from to
  run_front to a b r = record { forward = omega (arith, r.forward); inside = r.inside; each = each }
    where
      each : (k : ℕ) → from ≤ k → k < to → (lo ≤ get_or l k 0) × (get_or l k 0 ≤ hi)
      each k p q =
          ⊎_elim (λ e. subst (λ (n : ℕ). (lo ≤ get_or l n 0) × (get_or l n 0 ≤ hi)) e (a, b)) (λ h. r.each k (omega arith) q) (eq-or-lt_of_le p)

  pub run_tail : (to : ℕ) → Run l lo hi from to → from < to → Run l lo hi (from + 1) to
  run_tail to r h = record { forward = omega arith; inside = r.inside; each = λ k p q. r.each k (omega arith) q }

-- ---- a run, as a search for a byte outside its bounds sees it

abbrev pub outside : ℕ → ℕ → ℕ → Bool
outside lo hi b = not (leb lo b && leb b hi)

outside_not : (lo hi b : ℕ) → lo ≤ b → b ≤ hi → outside lo hi b ≡ false
outside_not lo hi b h k = rw (le-leb lo b h, le-leb b hi k)

within_bounds : (lo hi b : ℕ) → outside lo hi b ≡ false → (lo ≤ b) × (b ≤ hi)
within_bounds lo hi b e =
    let t = both (leb lo b) (leb b hi) (go (leb lo b && leb b hi) e) in
    (leb-true lo b t.0, leb-true b hi t.1)
  where
    go : (t : Bool) → not t ≡ false → t ≡ true
    go true e = refl
    go false e = sym e

-- a run has none
pub run_found : (lo hi : ℕ) (l : List ℕ) → Run l lo hi 0 (length l) → find (outside lo hi) l ≡ None
unfolding find_from
run_found lo hi l r =
    find_run (outside lo hi) (length l) 0 l (omega arith) (λ k h. let w = r.each k (omega arith) h in outside_not lo hi (get_or l k 0) w.0 w.1)
    ∙ rw (drop-length l)

-- the search may begin behind n bytes, so these are a run
pub run_passed : (l : List ℕ) (lo hi from n : ℕ) → from + n ≤ length l
    → find (outside lo hi) (drop from l) ≡ find_from (outside lo hi) n (drop n (drop from l)) → Run l lo hi from (from + n)
run_passed l lo hi from n h e = record { forward = omega arith; inside = h; each = each }
  where
    each : (k : ℕ) → from ≤ k → k < from + n → (lo ≤ get_or l k 0) × (get_or l k 0 ≤ hi)
    each k p q =
        let g : from + (k - from) ≡ k = omega arith in
        let same : get_or (drop from l) (k - from) 0 ≡ get_or l k 0 = get_or-drop from l (k - from) 0 ∙ ap (λ (x : ℕ). get_or l x 0) g in
        rw same at (within_bounds lo hi _ (find_behind (outside lo hi) n (drop from l) e (k - from) (omega arith) (omega (arith, length-drop from l))))
