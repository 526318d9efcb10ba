-- Pairs of digits one after another, and what the loop of `hex_bytes` keeps. Assumes nothing.
use Rattle.std.specs.Prelude.{Some}
use mathlib.Core.Path.{◌≡◌, refl, sym, ap, subst, ◌∙◌}
use mathlib.Core.Bool.{Bool, true, false}
use mathlib.Core.List.{List, [], ◌∷◌, ◌++◌, append-nil, append_assoc}
use Prim.Native.Nat.{ℕ, ◌+◌, ◌*◌, ◌-◌, ◌≤◌, ◌<◌}
use native.Mathlib.Numerals.{add-one}
use native.Mathlib.Omega.{arith}
use lib.ListN.{length, get_or, take, drop, set, length-set}
use lib.Seq.{take_all, take_at, take-suc-set, length-take-le}
use Rattle.vectors.specs.Lines.{is_blank, inked}
use Rattle.text.proofs.Lists.{drop_one, tail_part}
use Rattle.vectors.specs.Values.{digit_of, paired, hex_bytes}
use Rattle.vectors.proofs.Cutting.{inked_more, inked_all, inked_front}

-- blanks in front say nothing
hex_inked : (s : List ℕ) → hex_bytes s ≡ hex_bytes (inked s)
unfolding hex_bytes
hex_inked [] = refl
hex_inked (a ∷ []) = go (is_blank a) refl
  where
    go : (t : Bool) → is_blank a ≡ t → [] ≡ hex_bytes (inked (a ∷ []))
    go true e = ap hex_bytes (sym (inked_more a [] e))
    go false e = ap hex_bytes (sym (inked_all a [] e))
hex_inked (a ∷ b ∷ l) = go (is_blank a) refl (hex_inked (b ∷ l))
  where
    go : (t : Bool) → is_blank a ≡ t → hex_bytes (b ∷ l) ≡ hex_bytes (inked (b ∷ l)) → hex_bytes (a ∷ b ∷ l) ≡ hex_bytes (inked (a ∷ b ∷ l))
    go true e f = rw e f ∙ ap hex_bytes (sym (inked_more a (b ∷ l) e))
    go false e f = ap hex_bytes (sym (inked_all a (b ∷ l) e))

pub no_pair : (s l : List ℕ) → l ≡ inked s → length l < 2 → hex_bytes s ≡ []
unfolding hex_bytes
no_pair s l e h = hex_inked s ∙ ap hex_bytes (sym e) ∙ go l h
  where
    go : (l : List ℕ) → length l < 2 → hex_bytes l ≡ []
    go [] h = refl
    go (a ∷ []) h = refl
    go (a ∷ b ∷ l) h = absurd (omega arith)

-- a pair, by what its two bytes count
pub at_pair : (s l : List ℕ) → l ≡ inked s → 2 ≤ length l
    → hex_bytes s ≡ paired (digit_of (get_or l 0 0)) (digit_of (get_or l 1 0)) (hex_bytes (drop 2 l))
unfolding hex_bytes
at_pair s l e h = hex_inked s ∙ ap hex_bytes (sym e) ∙ go l h unblank
  where
    unblank : is_blank (get_or l 0 0) ≡ false
    unblank =
        subst (λ (m : List ℕ). is_blank (get_or m 0 0) ≡ false) (sym e)
        (inked_front s (subst (λ (m : List ℕ). 0 < length m) e (omega (arith, h))))

    go : (l : List ℕ) → 2 ≤ length l → is_blank (get_or l 0 0) ≡ false
        → hex_bytes l ≡ paired (digit_of (get_or l 0 0)) (digit_of (get_or l 1 0)) (hex_bytes (drop 2 l))
    go [] h q = absurd (omega arith)
    go (a ∷ []) h q = absurd (omega arith)
    go (a ∷ b ∷ l) h q = rw q

pub first_pair : (s l : List ℕ) (x y : ℕ) → l ≡ inked s → 2 ≤ length l → digit_of (get_or l 0 0) ≡ Some x → digit_of (get_or l 1 0) ≡ Some y
    → hex_bytes s ≡ (x * 16 + y) ∷ hex_bytes (take (length l - 2) (drop 2 l))
first_pair s l x y e h p q = at_pair s l e h ∙ rw (p, q) (ap (λ (m : List ℕ). (x * 16 + y) ∷ hex_bytes m) (sym (tail_part l 2)))

-- a pair at a place of the text where no blank stands
pub hex_pair : (s : List ℕ) (i x y : ℕ) → i + 2 ≤ length s → is_blank (get_or s i 0) ≡ false → digit_of (get_or s i 0) ≡ Some x
    → digit_of (get_or s (i + 1) 0) ≡ Some y → hex_bytes (drop i s) ≡ (x * 16 + y) ∷ hex_bytes (drop (i + 2) s)
unfolding hex_bytes
hex_pair s i x y h ink p q = ap hex_bytes two_front ∙ rw (ink, p, q)
  where
    two_front : drop i s ≡ get_or s i 0 ∷ get_or s (i + 1) 0 ∷ drop (i + 2) s
    two_front =
        let e : i + 1 + 1 ≡ i + 2 = omega arith in
        drop_one s i (omega arith) ∙ rw (drop_one s (i + 1) (omega arith), e)

-- `left` is what is left of the text, and n bytes of a target of m hold what was read of it says
pub record Came (s : List ℕ) (m : ℕ) (out : List ℕ) (n : ℕ) (left : List ℕ) : Type 0 where
  pub room : n ≤ length out
  pub kept : length out ≡ m
  pub so_far : take n out ++ hex_bytes left ≡ hex_bytes s

-- what `hex_bytes` promises of the n bytes that it put
abbrev pub Put : List ℕ → ℕ → List ℕ → ℕ → Type 0
Put s m out n = ((n ≤ length out) × (n ≡ length (take n out))) × (take n out ≡ take m (hex_bytes s))

pub came_end : {s : List ℕ} {m : ℕ} {out : List ℕ} {n : ℕ} {left : List ℕ} → Came s m out n left → hex_bytes left ≡ [] → Put s m out n
came_end {s} {m} {out} {n} c e =
    let k : length (take n out) ≡ n = length-take-le n out c.room in
    let long : length out ≡ m = c.kept in
    let whole : take n out ≡ hex_bytes s =
    sym (append-nil (take n out)) ∙ (ap (λ (l : List ℕ). take n out ++ l) (sym e) ∙ c.so_far)
    in
    ((c.room, sym k), sym (take_all m (take n out) (omega (arith, c.room))) ∙ ap (take m) whole)

pub came_full : {s : List ℕ} {m : ℕ} {out : List ℕ} {n : ℕ} {left : List ℕ} → Came s m out n left → length out ≤ n → Put s m out n
came_full {s} {m} {out} {n} {left} c h =
    let k : length (take n out) ≡ n = length-take-le n out c.room in
    let q : length (take n out) ≡ m = omega (arith, c.room, c.kept) in
    ((c.room, sym k), sym (take_at (take n out) (hex_bytes left) m q) ∙ ap (take m) c.so_far)

pub came_pair : {s : List ℕ} {m : ℕ} {out : List ℕ} {n : ℕ} {left : List ℕ} (x : ℕ) (behind : List ℕ) → Came s m out n left → n < length out
    → hex_bytes left ≡ x ∷ hex_bytes behind → Came s m (set out n x) (n + 1) behind
came_pair {out = out} {n = n} x behind c r more =
    let long : length (set out n x) ≡ length out = length-set out n x in
    record {
      room = omega arith;
      kept = long ∙ c.kept;
      so_far = rw (add-one, take-suc-set out n x r, append_assoc) (ap (λ (l : List ℕ). take n out ++ l) (sym more) ∙ c.so_far);
    }
