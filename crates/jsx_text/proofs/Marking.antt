-- What the code tells of the place where it looks: a character, a run of plain ASCII, a run of spaces. Assumes nothing.
use mathlib.Core.Path.{◌≡◌, sym, ap, ◌∙◌}
use mathlib.Core.List.{List}
use Prim.Native.Nat.{ℕ, ◌+◌, ◌-◌, ◌<◌}
use native.Mathlib.Omega.{arith}
use lib.ListN.{length, get_or, take, drop}
use Rattle.text.specs.declared.chars.Char.{Char}
use Rattle.std.specs.Prelude.{None, Some}
use Rattle.text.specs.Utf8.{width}
use Rattle.text.specs.Chars.{char_of}
use Rattle.text.proofs.Lists.{tail_part}
use Rattle.jsx_text.specs.declared.Mark.{Mark}
use Rattle.jsx_text.specs.declared.Mark.TheVariants.{Ink, White}
use Rattle.jsx_text.specs.Marks.{marked, Run, Plain, Marks, character, ill, plain, spaces}
use Rattle.jsx_text.proofs.Runs.{run_front}
use Rattle.jsx_text.proofs.Characters.{char_front, ascii_char}

module _ (l : List ℕ) (i : ℕ) where
  pub marks_ill : char_of (take (length l - i) (drop i l)) ≡ None → Marks l i (Ink 1)
  marks_ill e = ill (sym (ap char_of (tail_part l i)) ∙ e)

  pub marks_character : (c : Char) (m : Mark) → char_of (take (length l - i) (drop i l)) ≡ Some c → m ≡ marked c → Marks l i m
  marks_character c m e f = character (sym (ap char_of (tail_part l i)) ∙ e) (sym f)

  pub marks_ascii : (m : Mark) → i < length l → get_or l i 0 < 0x80 → m ≡ marked (record { code = get_or l i 0; width = 1 }) → Marks l i m
  marks_ascii m h k f =
      let here = ascii_char l i h k in
      let w : width (drop i l) ≡ 1 = ap (λ c. c.width) here in
      character (char_front (drop i l) (omega (arith, w)) ∙ ap Some here) (sym f)

  pub marks_plain : (to : ℕ) → Plain l i to → Marks l i (Ink (to - i))
  marks_plain to p = let e : i + (to - i) ≡ to = omega (arith, p.some) in plain {n = to - i} (rw e p)

  pub marks_spaces : (to : ℕ) → get_or l i 0 ≡ 0x20 → Run l 0x20 0x20 (i + 1) to → Marks l i (White (to - i))
  marks_spaces to b r =
      let e : i + (to - i) ≡ to = omega (arith, r.forward) in
      spaces {n = to - i} (omega (arith, r.forward)) (rw e (run_front l 0x20 0x20 i to (omega arith) (omega arith) r))
