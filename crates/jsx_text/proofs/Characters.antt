-- The fold over a text's characters, from a place of its bytes on.
--     rest_from, on_mark                   what the fold gives from there on; the same by what stands there
--     ascii_char                           the character at a byte below 80
--     at_character, at_plain, at_spaces    a character, a run of plain ASCII and a run of spaces are passed
--     Passed, passed                       whatever the code says that stands there
-- Assumes nothing.
use Rattle.std.specs.Prelude.{None, Some, Option, option_map, unwrap_or}
use mathlib.Core.Path.{◌≡◌, refl, sym, ap, subst, ◌∙◌}
use mathlib.Core.Bool.{Bool, true, false, cond}
use mathlib.Core.Logic.{⊎_elim}
use mathlib.Core.List.{List, [], ◌∷◌, ◌++◌}
use Prim.Native.Nat.{ℕ, zero, suc, ◌+◌, ◌-◌, ◌≤◌, ◌<◌}
use native.Mathlib.Nat.{add-zero, add_assoc, add-suc, suc-add, eq-or-lt_of_le, le_of_suc-le-suc, not-suc-le-zero}
use native.Mathlib.Numerals.{sub-one}
use native.Mathlib.Omega.{arith}
use lib.ListN.{length, get_or, drop, length-drop}
use lib.Seq.{drop-drop, get_or-drop}
use borrow.Author.Tests.{ne_eqb, lt-leb}
use Rattle.text.specs.declared.chars.Char.{Char}
use Rattle.text.specs.declared.spans.Span.{Span}
use Rattle.text.specs.Bytes.{over_ascii}
use Rattle.text.specs.Utf8.{width, nonzero, ill_from, first_ill}
use Rattle.text.specs.Chars.{front_code, char_of, is_white_space, is_line_terminator}
use Rattle.text.proofs.Lists.{drop_one, tail_part}
use Rattle.text.proofs.Rows.{by_row}
use Rattle.text.proofs.Walking.{Come, come_step, ill_here, ill_run}
use Rattle.text.proofs.Sequences.{width_le}
use Rattle.definitions.specs.JsxText.{Placed, chars_from}
use Rattle.jsx_text.specs.declared.Mark.{Mark}
use Rattle.jsx_text.specs.declared.Mark.TheVariants.{Ink, White, Terminator}
use Rattle.jsx_text.specs.Marks.{marked, Run, Plain, Marks, character, ill, plain, spaces}
use Rattle.jsx_text.proofs.Runs.{run_tail}
use Rattle.jsx_text.proofs.Folding.{Line, opening, blank, inked, with_ink, ended, lines_from}

-- ---- characters

-- n bytes of a character are passed
chars_pass : (n at : ℕ) (l : List ℕ) → n ≤ length l → chars_from n at l ≡ chars_from 0 (at + n) (drop n l)
unfolding chars_from
chars_pass zero at [] h = refl
chars_pass zero at (b ∷ l) h = rw add-zero
chars_pass (suc n) at [] h = absurd (not-suc-le-zero h)
chars_pass (suc n) at (b ∷ l) h = chars_pass n (suc at) l (le_of_suc-le-suc h) ∙ rw (suc-add at n, add-suc at n)

-- the character at the front of a list, where one stands there
abbrev pub front : List ℕ → Char
front l = record { code = front_code l; width = width l }

pub char_front : (l : List ℕ) → 0 < width l → char_of l ≡ Some (front l)
unfolding char_of
char_front l h = go (width l) h
  where
    go : (w : ℕ) → 0 < w → option_map {U = Char} (λ (v : ℕ). record { code = front_code l; width = v }) (nonzero w) ≡ Some (record { code = front_code l; width = w })
    go zero k = absurd (omega arith)
    go (suc n) k = refl

char_none : (l : List ℕ) → char_of l ≡ None → width l ≡ 0
unfolding char_of
char_none l e = go (width l) e
  where
    go : (w : ℕ) → option_map {U = Char} (λ (v : ℕ). record { code = front_code l; width = v }) (nonzero w) ≡ None → w ≡ 0
    go zero k = refl
    go (suc n) k = let z : ◌≡◌ {A = ℕ} 0 1 = cc in absurd (omega arith)

-- the same, that stands at `at`
abbrev first : ℕ → List ℕ → Placed
first at l = record { at = at; code = front_code l; next = at + width l }

chars_first : (w at : ℕ) (l : List ℕ) → width l ≡ w → 0 < w → chars_from 0 at l ≡ first at l ∷ chars_from 0 (at + w) (drop w l)
unfolding chars_from
chars_first zero at l e h = absurd (omega arith)
chars_first (suc n) at [] e h = absurd (omega (arith, e, width_le []))
chars_first (suc n) at (b ∷ l) e h =
    let k : n ≤ length l = omega (arith, e, width_le (b ∷ l)) in
    ap (λ (m : ℕ). first at (b ∷ l) ∷ chars_from (m - 1) (suc at) l) e
    ∙ ap (λ (cs : List Placed). first at (b ∷ l) ∷ cs) (rw (sub-one, add-suc at n, ← suc-add at n) (chars_pass n (suc at) l k))

-- ---- the fold from a place on

-- the spans from place i of the text's part on
unfoldable pub rest_from : Span → List ℕ → Line → ℕ → List Span
rest_from s chars l i = lines_from s l (s.start + i) (chars_from 0 (s.start + i) (drop i chars))

-- the spans from there on, by what stands there
unfoldable pub on_mark : Span → List ℕ → Line → ℕ → Mark → List Span
on_mark s chars l i (Ink w) = rest_from s chars (with_ink s l (s.start + i) (s.start + (i + w))) (i + w)
on_mark s chars l i (White w) = rest_from s chars l (i + w)
on_mark s chars l i (Terminator w) = ended l ++ rest_from s chars blank (i + w)

module _ (s : Span) (chars : List ℕ) where
  at_character : (l : Line) (i : ℕ) → 0 < width (drop i chars) → rest_from s chars l i ≡ on_mark s chars l i (marked (front (drop i chars)))
  unfolding rest_from lines_from marked on_mark
  at_character l i h =
      rw (
        chars_first (width (drop i chars)) (s.start + i) (drop i chars) refl h,
        add_assoc s.start i (width (drop i chars)),
        drop-drop (width (drop i chars)) i chars,
      )
      (go (is_line_terminator (front_code (drop i chars))) (is_white_space (front_code (drop i chars))))
    where
      go : (t w : Bool)
          → cond t (ended l ++ rest_from s chars blank (i + width (drop i chars)))
          (rest_from s chars (cond w l (with_ink s l (s.start + i) (s.start + (i + width (drop i chars))))) (i + width (drop i chars)))
          ≡ on_mark s chars l i (cond t (Terminator (width (drop i chars))) (cond w (White (width (drop i chars))) (Ink (width (drop i chars)))))
      go true w = refl
      go false true = refl
      go false false = refl

-- ---- ASCII

ascii_first : (b : ℕ) (l : List ℕ) → b < 0x80 → front (b ∷ l) ≡ record { code = b; width = 1 }
unfolding front_code
ascii_first b l h = let one : 1 ≡ width (b ∷ l) = by_row (b ∷ l) 0 (omega arith) in rw (← one)

pub ascii_char : (l : List ℕ) (i : ℕ) → i < length l → get_or l i 0 < 0x80 → front (drop i l) ≡ record { code = get_or l i 0; width = 1 }
ascii_char l i h k = rw (drop_one l i h) (ascii_first (get_or l i 0) (drop (i + 1) l) k)

ink_mark : (b : ℕ) → 0x20 < b → b < 0x80 → marked (record { code = b; width = 1 }) ≡ Ink 1
unfolding marked is_line_terminator is_white_space
ink_mark b h k =
    rw (
      ne_eqb b 0x0a (λ e. omega arith),
      ne_eqb b 0x0d (λ e. omega arith),
      ne_eqb b 0x2028 (λ e. omega arith),
      ne_eqb b 0x2029 (λ e. omega arith),
      ne_eqb b 0x09 (λ e. omega arith),
      ne_eqb b 0x0b (λ e. omega arith),
      ne_eqb b 0x0c (λ e. omega arith),
      ne_eqb b 0xfeff (λ e. omega arith),
      ne_eqb b 0x20 (λ e. omega arith),
      ne_eqb b 0xa0 (λ e. omega arith),
      ne_eqb b 0x1680 (λ e. omega arith),
      lt-leb 0x2000 b (omega arith),
      ne_eqb b 0x202f (λ e. omega arith),
      ne_eqb b 0x205f (λ e. omega arith),
      ne_eqb b 0x3000 (λ e. omega arith),
    )

space_mark : marked (record { code = 0x20; width = 1 }) ≡ White 1
unfolding marked is_line_terminator is_white_space
space_mark = refl

module _ (s : Span) (chars : List ℕ) where
  at_ascii : (l : Line) (i : ℕ) → i < length chars → get_or chars i 0 < 0x80
      → rest_from s chars l i ≡ on_mark s chars l i (marked (record { code = get_or chars i 0; width = 1 }))
  at_ascii l i h k =
      let e : front (drop i chars) ≡ record { code = get_or chars i 0; width = 1 } = ascii_char chars i h k in
      let w : width (drop i chars) ≡ 1 = ap (λ c. c.width) e in
      rw (← e) (at_character s chars l i (omega (arith, w)))

  at_space : (l : Line) (i : ℕ) → i < length chars → get_or chars i 0 ≡ 0x20 → rest_from s chars l i ≡ rest_from s chars l (i + 1)
  unfolding on_mark
  at_space l i h e = at_ascii l i h (omega arith) ∙ rw (e, space_mark)

  at_ink : (l : Line) (i : ℕ) → i < length chars → 0x20 < get_or chars i 0 → get_or chars i 0 < 0x80
      → rest_from s chars l i ≡ rest_from s chars (with_ink s l (s.start + i) (s.start + (i + 1))) (i + 1)
  unfolding on_mark
  at_ink l i h a b = at_ascii l i h b ∙ rw (ink_mark (get_or chars i 0) a b)

  -- ---- runs
  at_spaces : (n i : ℕ) (l : Line) → Run chars 0x20 0x20 i (i + n) → rest_from s chars l i ≡ rest_from s chars l (i + n)
  at_spaces zero i l r = rw add-zero
  at_spaces (suc n) i l r =
      let b = r.each i (omega arith) (omega arith) in
      let e : i + 1 + n ≡ i + suc n = omega arith in
      let q : Run chars 0x20 0x20 (i + 1) (i + 1 + n) = rw e (run_tail chars 0x20 0x20 i (i + suc n) r (omega arith)) in
      at_space l i (omega (arith, r.inside)) (omega (arith, b.0, b.1)) ∙ (at_spaces n (i + 1) l q ∙ rw e)

  -- the last byte is ink
  at_run : (n i : ℕ) (f : Bool) (a z : ℕ) → Run chars 0x20 0x7f i (i + suc n) → 0x20 < get_or chars (i + n) 0
      → rest_from s chars (inked f a z) i ≡ rest_from s chars (inked f a (s.start + (i + suc n))) (i + suc n)
  unfolding with_ink
  at_run zero i f a z r h =
      let b = r.each i (omega arith) (omega arith) in
      let k : 0x20 < get_or chars i 0 = rw add-zero at h in
      at_ink (inked f a z) i (omega (arith, r.inside)) k (omega (arith, b.1))
  at_run (suc n) i f a z r h =
      let b = r.each i (omega arith) (omega arith) in
      let e : i + 1 + suc n ≡ i + suc (suc n) = omega arith in
      let g : i + 1 + n ≡ i + suc n = omega arith in
      let q : Run chars 0x20 0x7f (i + 1) (i + 1 + suc n) = rw e (run_tail chars 0x20 0x7f i (i + suc (suc n)) r (omega arith)) in
      let k : 0x20 < get_or chars (i + 1 + n) 0 = rw g h in
      let on : (y : ℕ) → rest_from s chars (inked f a y) (i + 1) ≡ rest_from s chars (inked f a (s.start + (i + suc (suc n)))) (i + suc (suc n)) =
      λ y. rw (← e) (at_run n (i + 1) f a y q k) in
      let h : i < length chars = omega (arith, r.inside) in
      ⊎_elim (λ p. at_space (inked f a z) i h (sym p) ∙ on z)
      (λ p. at_ink (inked f a z) i h p (omega (arith, b.1)) ∙ on (s.start + (i + 1)))
      (eq-or-lt_of_le b.0)

  -- from a line with ink on
  on_run : (n i : ℕ) (l : Line) (a z : ℕ) → Run chars 0x20 0x7f i (i + suc n) → 0x20 < get_or chars (i + n) 0
      → rest_from s chars (with_ink s l a z) i ≡ rest_from s chars (with_ink s l a (s.start + (i + suc n))) (i + suc n)
  unfolding with_ink
  on_run n i opening a z r h = at_run n i true s.start z r h
  on_run n i blank a z r h = at_run n i false a z r h
  on_run n i (inked f b y) a z r h = at_run n i f b z r h

  at_plain : (n i : ℕ) (l : Line) → Plain chars i (i + n) → rest_from s chars l i ≡ on_mark s chars l i (Ink n)
  unfolding on_mark
  at_plain zero i l p = absurd (omega (arith, p.some))
  at_plain (suc zero) i l p =
      at_ink l i (omega (arith, p.run.inside)) p.first (omega (arith, (p.run.each i (omega arith) (omega arith)).1))
  at_plain (suc (suc n)) i l p =
      let r = p.run in
      let e : i + 1 + suc n ≡ i + suc (suc n) = omega arith in
      let g : i + 1 + n ≡ i + suc (suc n) - 1 = omega arith in
      let q : Run chars 0x20 0x7f (i + 1) (i + 1 + suc n) = rw e (run_tail chars 0x20 0x7f i (i + suc (suc n)) r (omega arith)) in
      let k : 0x20 < get_or chars (i + 1 + n) 0 = rw g p.last in
      at_ink l i (omega (arith, r.inside)) p.first (omega (arith, (r.each i (omega arith) (omega arith)).1))
      ∙ rw (← e) (on_run n (i + 1) l (s.start + i) (s.start + (i + 1)) q k)

-- ---- what stands at a place is passed

some_same : {a b : Char} → ◌≡◌ {A = Option Char} (Some a) (Some b) → a ≡ b
some_same {a} e = ap (λ (o : Option Char). unwrap_or o a) e

unfoldable pub size_of : Mark → ℕ
size_of (Ink w) = w
size_of (White w) = w
size_of (Terminator w) = w

size_marked : (l : List ℕ) → size_of (marked (front l)) ≡ width l
unfolding marked size_of
size_marked l = go (is_line_terminator (front_code l)) (is_white_space (front_code l))
  where
    go : (t w : Bool) → size_of (cond t (Terminator (width l)) (cond w (White (width l)) (Ink (width l)))) ≡ width l
    go true w = refl
    go false true = refl
    go false false = refl

pub record Passed (s : Span) (chars : List ℕ) (l : Line) (i : ℕ) (m : Mark) : Type 0 where
  pub some : 0 < size_of m
  pub come : Come chars (i + size_of m)
  pub same : rest_from s chars l i ≡ on_mark s chars l i m

module _ (s : Span) (chars : List ℕ) (l : Line) (i : ℕ) (good : first_ill chars ≡ None) (come : Come chars i) (h : i < length chars) where
  -- a run of bytes below 80 is passed
  come_ascii : (n lo hi : ℕ) → hi < 0x80 → Run chars lo hi i (i + n) → Come chars (i + n)
  come_ascii n lo hi k r = record {
    inside = r.inside;
    same = come.same ∙ ill_run n i (drop i chars) (omega (arith, r.inside, length-drop i chars)) plainly ∙ ap (ill_from 0 (i + n)) (drop-drop n i chars);
  }
    where
      plainly : (j : ℕ) → j < n → over_ascii (get_or (drop i chars) j 0) ≡ false
      plainly j q =
          rw (get_or-drop i chars j 0)
          (lt-leb 0x80 (get_or chars (i + j) 0) (omega (arith, (r.each (i + j) (omega arith) (omega arith)).1)))

  width_some : width (drop i chars) ≡ 0 → ⊥
  width_some z = never (sym good ∙ come.same ∙ ill_here i (drop i chars) (omega (arith, length-drop i chars)) z)
    where
      never : None ≡ Some i → ⊥
      never e = let z : ◌≡◌ {A = ℕ} 0 1 = cc in omega arith

  character_passed : Passed s chars l i (marked (front (drop i chars)))
  character_passed =
      let w : 0 < width (drop i chars) = omega (arith, width_some) in record {
        some = omega (arith, size_marked (drop i chars));
        come = rw (size_marked (drop i chars)) (come_step chars i come (width (drop i chars)) (ap width (sym (tail_part chars i))) h width_some);
        same = at_character s chars l i w;
      }

  -- there is a character
  front_is : (c : Char) → char_of (drop i chars) ≡ Some c → 0 < width (drop i chars) → front (drop i chars) ≡ c
  front_is c e w = some_same (sym (char_front (drop i chars) w) ∙ e)

  pub passed : (m : Mark) → Marks chars i m → Passed s chars l i m
  unfolding size_of on_mark
  passed m (character {c} e f) =
      let w : 0 < width (drop i chars) = omega (arith, width_some) in
      subst (Passed s chars l i) (ap marked (front_is c e w) ∙ f) character_passed
  passed m (ill e) = absurd (width_some (char_none (drop i chars) e))
  passed (Ink n) (plain p) = record { some = omega (arith, p.some); come = come_ascii n 0x20 0x7f (omega arith) p.run; same = at_plain s chars n i l p }
  passed (White n) (spaces k r) = record { some = k; come = come_ascii n 0x20 0x20 (omega arith) r; same = at_spaces s chars n i l r }
