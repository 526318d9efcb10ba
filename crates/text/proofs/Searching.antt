-- `find`, for any test p: a loop's steps, and what its answer says of every byte. Assumes nothing.
use mathlib.Core.Path.{◌≡◌, refl, ap, sym, ◌∙◌}
use mathlib.Core.Bool.{Bool, true, false, cond, not, ◌&&◌}
use mathlib.Core.List.{List, [], ◌∷◌, ◌++◌}
use Prim.Native.Nat.{ℕ, zero, suc, ◌+◌, ◌-◌, ◌≤◌, ◌<◌}
use native.Mathlib.Nat.{add-zero, add-suc, suc-add, sub-zero, le_of_suc-le-suc, not-suc-le-zero}
use native.Mathlib.Numerals.{add-one}
use native.Mathlib.Omega.{arith}
use lib.ListN.{length, get_or, drop, length-drop, length-append, get_or-append, drop_of_length-le}
use lib.Seq.{drop-drop, drop-append_seam}
use lib.Dec.{eqb}
use borrow.Author.Tests.{eqb-false, ne_eqb, not-true, lt-leb}
use lib.Bits.{bit_or, or_add_and, and_le_l, and_le_r}
use Rattle.std.specs.Prelude.{Option, Some, None}
use Rattle.std.specs.List.{fold, position, position_from}
use Rattle.std.specs.Option.{option_map}
use Rattle.std.proofs.lemmas.Iterator.Adapters.{position_from-zero}
use Rattle.text.specs.Bytes.{find_from, find, over_ascii}
use Rattle.text.proofs.Lists.{drop_one}

module _ (p : ℕ → Bool) where
  -- ---- from place i of a list
  pub find_hit : (s : List ℕ) (i : ℕ) → i < length s → p (get_or s i 0) ≡ true → find_from p i (drop i s) ≡ Some i
  unfolding find_from
  find_hit s i h e = rw (drop_one s i h, e)

  pub find_step : (s : List ℕ) (i : ℕ) → i < length s → p (get_or s i 0) ≡ false
      → find_from p i (drop i s) ≡ find_from p (i + 1) (drop (i + 1) s)
  unfolding find_from
  find_step s i h e = ap (find_from p i) (drop_one s i h) ∙ rw (e, add-one)

  pub find_end : (s : List ℕ) (i : ℕ) → length s ≤ i → find_from p i (drop i s) ≡ None
  unfolding find_from
  find_end s i h = rw (drop_of_length-le s h)

  -- ---- what an answer says: j bytes fail, and the next one passes
  pub record Hit (l : List ℕ) (j : ℕ) : Type 0 where
    pub inside : j < length l
    pub passes : p (get_or l j 0) ≡ true
    pub before : (k : ℕ) → k < j → p (get_or l k 0) ≡ false

  pub hit_more : (b : ℕ) (l : List ℕ) (j : ℕ) → p b ≡ false → Hit l j → Hit (b ∷ l) (suc j)
  hit_more b l j e h = record { inside = omega (arith, h.inside); passes = h.passes; before = go }
    where
      go : (k : ℕ) → k < suc j → p (get_or (b ∷ l) k 0) ≡ false
      go zero q = e
      go (suc k) q = h.before k (le_of_suc-le-suc q)

  pub find_at : (l : List ℕ) (at j : ℕ) → find_from p at l ≡ Some j → (at ≤ j) × Hit l (j - at)
  unfolding find_from
  find_at [] at j e = let z : ◌≡◌ {A = ℕ} 0 1 = cc in absurd (omega arith)
  find_at (b ∷ l) at j e = go (p b) refl e (find_at l (suc at) j)
    where
      go : (t : Bool) → p b ≡ t → cond t (Some at) (find_from p (suc at) l) ≡ Some j
          → (find_from p (suc at) l ≡ Some j → (suc at ≤ j) × Hit l (j - suc at)) → (at ≤ j) × Hit (b ∷ l) (j - at)
      go true h q ih =
          let z : at ≡ j = cc in
          let d : j - at ≡ 0 = omega arith in
          (omega arith, rw d (record { inside = omega arith; passes = h; before = λ k r. absurd (not-suc-le-zero r) }))
      go false h q ih =
          let r : (suc at ≤ j) × Hit l (j - suc at) = ih q in
          let d : j - at ≡ suc (j - suc at) = omega arith in
          (omega arith, rw d (hit_more b l (j - suc at) h r.1))

  pub find_found : (l : List ℕ) (j : ℕ) → find p l ≡ Some j → Hit l j
  find_found l j e = rw (sub-zero j) at (find_at l 0 j e).1

  pub find_none : (l : List ℕ) (at : ℕ) → find_from p at l ≡ None → (k : ℕ) → k < length l → p (get_or l k 0) ≡ false
  unfolding find_from
  find_none [] at e k h = absurd (not-suc-le-zero h)
  find_none (b ∷ l) at e k h = go (p b) refl e (find_none l (suc at)) k h
    where
      go : (t : Bool) → p b ≡ t → cond t (Some at) (find_from p (suc at) l) ≡ None
          → (find_from p (suc at) l ≡ None → (k : ℕ) → k < length l → p (get_or l k 0) ≡ false)
          → (k : ℕ) → k < length (b ∷ l) → p (get_or (b ∷ l) k 0) ≡ false
      go true q e ih k h = let z : ◌≡◌ {A = ℕ} 0 1 = cc in absurd (omega arith)
      go false q e ih zero h = q
      go false q e ih (suc k) h = ih e k (le_of_suc-le-suc h)

  -- ---- many bytes at once
  pub find_run : (n at : ℕ) (l : List ℕ) → n ≤ length l → ((k : ℕ) → k < n → p (get_or l k 0) ≡ false)
      → find_from p at l ≡ find_from p (at + n) (drop n l)
  unfolding find_from
  find_run zero at l h f = rw add-zero
  find_run (suc n) at [] h f = absurd (not-suc-le-zero h)
  find_run (suc n) at (b ∷ l) h f =
      rw (f 0 (omega arith), add-suc at n, ← suc-add at n) (find_run n (suc at) l (le_of_suc-le-suc h) (λ k j. f (suc k) (omega arith)))

  -- ---- where the list stands: each place so much further
  find_shift : (a k : ℕ) (l : List ℕ) → find_from p (a + k) l ≡ option_map (λ j. a + j) (find_from p k l)
  unfolding find_from
  find_shift a k [] = refl
  find_shift a k (b ∷ l) = go (p b) (find_shift a (suc k) l)
    where
      go : (t : Bool) → find_from p (a + suc k) l ≡ option_map (λ j. a + j) (find_from p (suc k) l)
          → cond t (Some (a + k)) (find_from p (suc (a + k)) l) ≡ option_map (λ j. a + j) (cond t (Some k) (find_from p (suc k) l))
      go true ih = refl
      go false ih = rw (← add-suc a k) ih

  pub find_past : (a : ℕ) (l : List ℕ) → find_from p a l ≡ option_map (λ j. a + j) (find p l)
  find_past a l = rw (add-zero a) at (find_shift a 0 l)

  -- what was passed of the list from place a on
  pub find_further : (s : List ℕ) (a b : ℕ) → find p (drop a s) ≡ find_from p b (drop b (drop a s))
      → find_from p a (drop a s) ≡ find_from p (a + b) (drop (a + b) s)
  find_further s a b e =
      find_past a (drop a s) ∙ ap (option_map (λ j. a + j)) e ∙ sym (find_shift a b (drop b (drop a s))) ∙ ap (find_from p (a + b)) (drop-drop b a s)

  -- none of the bytes that the search may begin behind passes
  pub find_behind : (n : ℕ) (l : List ℕ) → find p l ≡ find_from p n (drop n l) → (k : ℕ) → k < n → k < length l → p (get_or l k 0) ≡ false
  find_behind n l e k h q = go (find p l) refl
    where
      go : (f : Option ℕ) → find p l ≡ f → p (get_or l k 0) ≡ false
      go None g = find_none l 0 g k q
      go (Some j) g = (find_found l j g).before k (omega (arith, (find_at (drop n l) n j (sym e ∙ g)).0))

  -- the library's word for it
  find_is : (k : ℕ) (l : List ℕ) → position_from p k l ≡ find_from p k l
  unfolding find_from
  find_is k [] = refl
  find_is k (b ∷ l) = rw (add-one, find_is (suc k) l)

  pub position_is : (l : List ℕ) → position p l ≡ find p l
  position_is l = position_from-zero p l ∙ find_is 0 l

-- a block stands at place i, and the rest behind it
module _ (s block rest : List ℕ) (i : ℕ) (h : i ≤ length s) (q : drop i s ≡ block ++ rest) where
  pub block_inside : i + length block ≤ length s
  block_inside = omega (arith, length-append block rest, ap length q, length-drop i s)

  pub block_behind : rest ≡ drop (i + length block) s
  block_behind = sym (drop-append_seam block rest) ∙ ap (drop (length block)) (sym q) ∙ drop-drop (length block) i s

  -- none of its bytes passes
  pub find_block : (p : ℕ → Bool) → find p block ≡ None → find_from p i (drop i s) ≡ find_from p (i + length block) (drop (i + length block) s)
  find_block p e =
      find_run p (length block) i (drop i s) (omega (arith, length-append block rest, ap length q))
      (λ k j. rw (q, get_or-append block rest 0 k j) (find_none p block 0 e k j))
      ∙ ap (find_from p (i + length block)) (drop-drop (length block) i s)

-- bytes joined by `|`
pub or_below : (a b : ℕ) → bit_or a b < 0x80 → (a < 0x80) × (b < 0x80)
or_below a b h = omega (arith, or_add_and a b, and_le_l a b, and_le_r a b)

-- a test joined by `&` with that a byte is not b
pub both_lack : (all : Bool) (x b : ℕ) → (all && not (eqb x b)) ≡ true → (all ≡ true) × (eqb b x ≡ false)
both_lack true x b e = (refl, ne_eqb b x (λ h. eqb-false x b (not-true (eqb x b) e) (sym h)))
both_lack false x b e = let z : ◌≡◌ {A = ℕ} 0 1 = cc in absurd (omega arith)

-- what `fold` says of a block: no byte is b, all are below 80
pub fold_lacks : (b : ℕ) (l : List ℕ) (at : ℕ) (all : Bool) → fold (λ all x. all && not (eqb x b)) all l ≡ true
    → (all ≡ true) × (find_from (eqb b) at l ≡ None)
unfolding find_from
fold_lacks b [] at all e = (e, refl)
fold_lacks b (x ∷ l) at all e =
    let r = fold_lacks b l (suc at) (all && not (eqb x b)) e in
    let o = both_lack all x b r.0 in
    (o.0, rw o.1 r.1)

pub fold_below : (l : List ℕ) (at all : ℕ) → fold (λ all x. bit_or all x) all l < 0x80
    → (all < 0x80) × (find_from over_ascii at l ≡ None)
unfolding find_from
fold_below [] at all e = (e, refl)
fold_below (x ∷ l) at all e =
    let r = fold_below l (suc at) (bit_or all x) e in
    let o = or_below all x r.0 in
    (o.0, rw (lt-leb 0x80 x o.1) r.1)
