-- The walk over a text that looks for an ill-formed sequence: a sequence passed, a run of ASCII passed, the end. Assumes nothing.
use mathlib.Core.Path.{◌≡◌, refl, sym, ap, ◌∙◌}
use mathlib.Core.Bool.{false}
use mathlib.Core.List.{List, [], ◌∷◌}
use Prim.Native.Nat.{ℕ, zero, suc, ◌+◌, ◌-◌, ◌≤◌, ◌<◌}
use native.Mathlib.Nat.{add-zero, add-suc, suc-add, le_of_suc-le-suc, not-suc-le-zero}
use native.Mathlib.Omega.{arith}
use lib.ListN.{length, get_or, take, drop, length-drop}
use lib.Seq.{drop-drop, drop-length}
use borrow.Author.Tests.{leb-false}
use Rattle.std.specs.Prelude.{Option}
use Rattle.std.specs.Prelude.{Some, None}
use Rattle.text.specs.Bytes.{find, over_ascii}
use Rattle.text.specs.Utf8.{width, nonzero, after, ill_from, first_ill}
use Rattle.text.proofs.Lists.{tail_part}
use Rattle.text.proofs.Searching.{find_found, find_none}
use Rattle.text.proofs.Rows.{by_row, no_width, some_width}
use Rattle.text.proofs.Sequences.{width_le}

-- ---- at the front of a list
-- n bytes of a sequence are passed
pub ill_pass : (n at : ℕ) (l : List ℕ) → n ≤ length l → ill_from n at l ≡ ill_from 0 (at + n) (drop n l)
unfolding ill_from
ill_pass zero at [] h = refl
ill_pass zero at (b ∷ l) h = rw add-zero
ill_pass (suc n) at [] h = absurd (not-suc-le-zero h)
ill_pass (suc n) at (b ∷ l) h = ill_pass n (suc at) l (le_of_suc-le-suc h) ∙ rw (suc-add at n, add-suc at n)

pub ill_here : (at : ℕ) (l : List ℕ) → 0 < length l → width l ≡ 0 → ill_from 0 at l ≡ Some at
unfolding ill_from after
ill_here at [] h e = absurd (not-suc-le-zero h)
ill_here at (b ∷ l) h e = rw e

pub ill_on : (n at : ℕ) (l : List ℕ) → width l ≡ suc n → ill_from 0 at l ≡ ill_from 0 (at + suc n) (drop (suc n) l)
unfolding ill_from after
ill_on n at [] e = absurd (omega (arith, e, width_le []))
ill_on n at (b ∷ l) e =
    let h : n ≤ length l = omega (arith, e, width_le (b ∷ l)) in
    rw (e, add-suc at n, ← suc-add at n) (ill_pass n (suc at) l h)

-- n bytes below 80 are passed
pub ill_run : (n at : ℕ) (l : List ℕ) → n ≤ length l → ((k : ℕ) → k < n → over_ascii (get_or l k 0) ≡ false)
    → ill_from 0 at l ≡ ill_from 0 (at + n) (drop n l)
ill_run zero at l h f = rw add-zero
ill_run (suc n) at [] h f = absurd (not-suc-le-zero h)
ill_run (suc n) at (b ∷ l) h f =
    let lt : b < 0x80 = leb-false 0x80 b (f 0 (omega arith)) in
    let one : 1 ≡ width (b ∷ l) = by_row (b ∷ l) 0 (omega arith) in
    let rec : ill_from 0 (suc at) l ≡ ill_from 0 (suc at + n) (drop n l) =
    ill_run n (suc at) l (le_of_suc-le-suc h) (λ k j. f (suc k) (omega arith)) in
    ill_on 0 at (b ∷ l) (sym one) ∙ (rw (add-suc at 0, add-zero at, add-suc at n, ← suc-add at n) rec)

-- ---- the code's loop over a text
-- nothing before place i is ill-formed, and a sequence begins there or the text ends
pub record Come (s : List ℕ) (i : ℕ) : Type 0 where
  pub inside : i ≤ length s
  pub same : first_ill s ≡ ill_from 0 i (drop i s)

pub come_start : (s : List ℕ) → Come s 0
unfolding first_ill
come_start s = record { inside = omega arith; same = refl }

module _ (s : List ℕ) (i : ℕ) (come : Come s i) where
  -- the part from i on is searched for a byte over 7F
  module _ (f : Option ℕ) (e : f ≡ find over_ascii (take (length s - i) (drop i s))) where
    over : find over_ascii (drop i s) ≡ f
    over = sym (e ∙ ap (find over_ascii) (tail_part s i))

    pub come_plain : f ≡ None → first_ill s ≡ None
    unfolding ill_from
    come_plain z =
        come.same ∙ ill_run (length (drop i s)) i (drop i s) (omega arith) (find_none over_ascii (drop i s) 0 (over ∙ z))
        ∙ rw (drop-length (drop i s))

    pub come_run : (n : ℕ) → f ≡ Some n → (i + n < length s) × Come s (i + n)
    come_run n z =
        let t = find_found over_ascii (drop i s) n (over ∙ z) in
        let h : i + n < length s = omega (arith, t.inside, length-drop i s) in (
          h,
          record {
            inside = omega arith;
            same = come.same ∙ ill_run n i (drop i s) (omega (arith, t.inside)) t.before ∙ ap (ill_from 0 (i + n)) (drop-drop n i s);
          },
        )

  -- the width of the sequence with which that part begins is known
  module _ (w : ℕ) (e : w ≡ width (take (length s - i) (drop i s))) (h : i < length s) where
    at_i : width (drop i s) ≡ w
    at_i = sym (e ∙ ap width (tail_part s i))

    pub come_stop : w ≡ 0 → first_ill s ≡ Some i
    come_stop z = come.same ∙ ill_here i (drop i s) (omega (arith, length-drop i s)) (at_i ∙ z)

    pub come_step : (w ≡ 0 → ⊥) → Come s (i + w)
    come_step nz = go w at_i nz
      where
        go : (v : ℕ) → width (drop i s) ≡ v → (v ≡ 0 → ⊥) → Come s (i + v)
        go zero q f = absurd (f refl)
        go (suc n) q f =
            record {
              inside = omega (arith, q, length-drop i s, width_le (drop i s));
              same = come.same ∙ ill_on n i (drop i s) q ∙ ap (ill_from 0 (i + suc n)) (drop-drop (suc n) i s);
            }

-- ---- the code's loop: what is left of the text
pub record Left (s rest : List ℕ) : Type 0 where
  pub come : Come s (length s - length rest)
  pub from : rest ≡ drop (length s - length rest) s

pub left_start : (s : List ℕ) → Left s s
left_start s =
    let e : length s - length s ≡ 0 = omega arith in
    record { come = rw e (come_start s); from = rw e }

module _ (s rest : List ℕ) (left : Left s rest) where
  here : rest ≡ take (length s - (length s - length rest)) (drop (length s - length rest) s)
  here = left.from ∙ sym (tail_part s (length s - length rest))

  -- the walk comes past n more bytes
  left_on : (n : ℕ) → n ≤ length rest → Come s (length s - length rest + n) → Left s (take (length rest - n) (drop n rest))
  left_on n h come =
      let f : length rest ≡ length s - (length s - length rest) = ap length left.from ∙ length-drop (length s - length rest) s in
      let e : length s - length (drop n rest) ≡ length s - length rest + n = omega (arith, length-drop n rest) in
      rw (tail_part rest n) (record {
        come = rw e come;
        from = ap (drop n) left.from ∙ (drop-drop n (length s - length rest) s ∙ ap (λ k. drop k s) (sym e));
      })

  pub left_plain : find over_ascii rest ≡ None → first_ill s ≡ None
  left_plain e = come_plain s (length s - length rest) left.come (find over_ascii rest) (ap (find over_ascii) here) e

  pub left_run : (n : ℕ) → find over_ascii rest ≡ Some n → (n < length rest) × Left s (take (length rest - n) (drop n rest))
  left_run n e =
      let p = come_run s (length s - length rest) left.come (find over_ascii rest) (ap (find over_ascii) here) n e in
      let h : n < length rest = (find_found over_ascii rest n e).inside in
      (h, left_on n (omega arith) p.1)

  pub left_stop : 0 < length rest → nonzero (width rest) ≡ None → first_ill s ≡ Some (length s - length rest)
  left_stop h e =
      come_stop s (length s - length rest) left.come (width rest) (ap width here)
      (omega (arith, ap length left.from, length-drop (length s - length rest) s))
      (no_width (width rest) e)

  pub left_step : 0 < length rest → (w : ℕ) → nonzero (width rest) ≡ Some w → (0 < w) × (w ≤ length rest) × Left s (take (length rest - w) (drop w rest))
  left_step h w e =
      let q = some_width (width rest) w e in
      let k : w ≤ length rest = omega (arith, q.0, width_le rest) in (
        q.1,
        k,
        left_on w k (come_step s (length s - length rest) left.come w (rw (← q.0) (ap width here))
            (omega (arith, ap length left.from, length-drop (length s - length rest) s))
            (λ z. omega (arith, z, q.1))),
      )
