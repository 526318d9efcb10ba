-- A well-formed text ends well-formed where it is cut at a boundary, so a span that cuts no character names a well-formed text.
-- Assumes nothing.
use mathlib.Core.Path.{◌≡◌, refl, sym, ap, ◌∙◌}
use mathlib.Core.Bool.{Bool, true, false, cond, ◌&&◌, not}
use mathlib.Core.List.{List, [], ◌∷◌}
use Prim.Native.Nat.{ℕ, zero, suc, ◌+◌, ◌≤◌, ◌<◌}
use native.Mathlib.Nat.{le_of_suc-le-suc, not-suc-le-zero}
use native.Mathlib.Numerals.{sub-one}
use native.Mathlib.Omega.{arith}
use lib.ListN.{length, get_or, take, drop, length-take}
use lib.Seq.{get_or-take}
use lib.Dec.{ltb, leb}
use borrow.Author.Tests.{ltb-true, ltb-false, lt-ltb, le-ltb}
use Rattle.std.specs.Prelude.{None}
use Rattle.text.specs.declared.spans.Span.{Span}
use Rattle.text.specs.declared.spans.Bounds.TheVariants.{Outside, Cuts}
use Rattle.text.specs.Utf8.{Row, table, within, matches, width_by, width, after, ill_from, first_ill}
use Rattle.text.specs.Spans.{part_of, cuts_at, bounds_of, boundary_from, is_boundary}
use Rattle.text.proofs.Sequences.{both, byte_within, width_le}
use Rattle.text.proofs.Parts.{bounds_inside, bounds_uncut}
use Rattle.text.proofs.Boundaries.{never, cuts_boundary, begins, boundary_rest, rest_well_formed}

-- ---- a row fits the first k bytes of a list where it fits the list and is no longer than that
module _ (k : ℕ) (l : List ℕ) where
  within_take : (i lo hi : ℕ) → i < k → within (take k l) i lo hi ≡ within l i lo hi
  unfolding within
  within_take i lo hi h =
      rw (get_or-take k l i 0 h)
      (ap (λ (t : Bool). t && (leb lo (get_or l i 0) && leb (get_or l i 0) hi)) (go (ltb i (length l)) refl))
    where
      go : (t : Bool) → ltb i (length l) ≡ t → ltb i (length (take k l)) ≡ ltb i (length l)
      go true e = rw e (lt-ltb i (length (take k l)) (omega (arith, length-take k l, ltb-true i (length l) e)))
      go false e = rw e (le-ltb i (length (take k l)) (omega (arith, length-take k l, ltb-false i (length l) e)))

  within_cut : (i lo hi : ℕ) → within (take k l) i lo hi ≡ true → within l i lo hi ≡ true
  within_cut i lo hi e = sym (within_take i lo hi (omega (arith, (byte_within (take k l) i lo hi e).0, length-take k l))) ∙ e

  matches_take : (i : ℕ) (r : Row) → i + length r ≤ k → matches i r (take k l) ≡ matches i r l
  matches_take i [] h = refl
  matches_take i (r ∷ q) h = rw (within_take i r.0 r.1 (omega arith), matches_take (suc i) q (omega arith))

  matches_cut : (i : ℕ) (r : Row) → matches i r (take k l) ≡ true → matches i r l ≡ true
  matches_cut i [] e = refl
  matches_cut i (r ∷ q) e =
      let p = both (within (take k l) i r.0 r.1) (matches (suc i) q (take k l)) e in
      rw (within_cut i r.0 r.1 p.0, matches_cut (suc i) q p.1)

  width_rows : (rs : List Row) → width_by rs l ≤ k → width_by rs (take k l) ≡ width_by rs l
  width_rows [] h = refl
  width_rows (r ∷ rs) h = go (matches 0 r l) refl (matches 0 r (take k l)) refl h (width_rows rs)
    where
      go : (t : Bool) → matches 0 r l ≡ t → (u : Bool) → matches 0 r (take k l) ≡ u → cond t (length r) (width_by rs l) ≤ k
          → (width_by rs l ≤ k → width_by rs (take k l) ≡ width_by rs l)
          → cond u (length r) (width_by rs (take k l)) ≡ cond t (length r) (width_by rs l)
      go true e true f h ih = refl
      go true e false f h ih = let z : false ≡ true = sym f ∙ (matches_take 0 r (omega arith) ∙ e) in absurd (never z)
      go false e true f h ih = absurd (never (sym e ∙ matches_cut 0 r f))
      go false e false f h ih = ih h

  pub width_take : width l ≤ k → width (take k l) ≡ width l
  unfolding width
  width_take h = width_rows table h

-- ---- a text cut at a boundary
boundary_past : (l : List ℕ) (n i : ℕ) → n ≤ length l → boundary_from n l i ≡ true → n ≤ i
unfolding boundary_from
boundary_past l zero i h e = omega arith
boundary_past [] (suc n) i h e = absurd (not-suc-le-zero h)
boundary_past (b ∷ l) (suc n) zero h e = absurd (never e)
boundary_past (b ∷ l) (suc n) (suc i) h e = omega (arith, boundary_past l n i (le_of_suc-le-suc h) e)

ill_take : (l : List ℕ) (n at i : ℕ) → ill_from n at l ≡ None → boundary_from n l i ≡ true → ill_from n at (take i l) ≡ None
unfolding ill_from boundary_from after
ill_take [] n at zero e h = refl
ill_take [] n at (suc i) e h = refl
ill_take (b ∷ l) zero at zero e h = refl
ill_take (b ∷ l) (suc n) at zero e h = refl
ill_take (b ∷ l) zero at (suc i) e h =
    let s = begins b l at e in
    let w : s.0 ≤ i = boundary_past l s.0 i (omega (arith, s.1, width_le (b ∷ l))) (rw (s.1, sub-one) at h) in
    let f : width (b ∷ take i l) ≡ suc s.0 = width_take (suc i) (b ∷ l) (omega (arith, s.1)) ∙ s.1 in
    rw f (ill_take l s.0 (suc at) i s.2 (rw (s.1, sub-one) at h))
ill_take (b ∷ l) (suc n) at (suc i) e h = ill_take l n (suc at) i e h

pub front_well_formed : (text : List ℕ) (i : ℕ) → first_ill text ≡ None → is_boundary text i ≡ true → first_ill (take i text) ≡ None
unfolding first_ill is_boundary
front_well_formed text i e h = ill_take text 0 0 i e h

-- ---- the part that a span names
module _ (text : List ℕ) (s : Span) (good : first_ill text ≡ None)
    (inside : bounds_of text s ≡ Outside → ⊥) (whole : bounds_of text s ≡ Cuts → ⊥) where
  at_boundary : (i : ℕ) → i ≤ length text → cuts_at text i ≡ false → is_boundary text i ≡ true
  at_boundary i h e = go (is_boundary text i) (sym (cuts_boundary text i good h) ∙ e)
    where
      go : (t : Bool) → not t ≡ false → t ≡ true
      go true e = refl
      go false e = absurd (never (sym e))

  pub start_boundary : is_boundary text s.start ≡ true
  start_boundary = at_boundary s.start (omega (arith, bounds_inside text s inside)) (bounds_uncut text s inside whole).0

  pub end_boundary : is_boundary text (s.start + s.len) ≡ true
  end_boundary = at_boundary (s.start + s.len) (bounds_inside text s inside) (bounds_uncut text s inside whole).1

  pub part_well_formed : first_ill (part_of text s) ≡ None
  unfolding part_of
  part_well_formed =
      front_well_formed (drop s.start text) s.len (rest_well_formed text s.start start_boundary good)
      (sym (boundary_rest text s.start start_boundary s.len) ∙ end_boundary)
