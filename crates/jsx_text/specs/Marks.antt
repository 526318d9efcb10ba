-- What is taken off a JSX text in one step, and how many bytes it has: one character, or a run of plain ASCII.
use Rattle.std.specs.Prelude.{◌≡◌, None, Some, cond, List, ℕ, ◌+◌, ◌-◌, ◌≤◌, ◌<◌, length, get_or, drop}
use Rattle.text.specs.declared.chars.Char.{Char}
use Rattle.text.specs.Chars.{char_of, is_white_space, is_line_terminator}
use Rattle.jsx_text.specs.declared.Mark.{Mark}
use Rattle.jsx_text.specs.declared.Mark.TheVariants.{Ink, White, Terminator}

-- what a character is to a line
unfoldable pub marked : Char → Mark
marked c =
    cond (is_line_terminator c.code) (Terminator c.width)
    (cond (is_white_space c.code) (White c.width) (Ink c.width))

-- the bytes of l from a place to another are from lo to hi
pub record Run (l : List ℕ) (lo hi from to : ℕ) : Type 0 where
  pub forward : from ≤ to
  pub inside : to ≤ length l
  pub each : (k : ℕ) → from ≤ k → k < to → (lo ≤ get_or l k 0) × (get_or l k 0 ≤ hi)

-- bytes from 20 to 7F, of which neither the first nor the last is a space
pub record Plain (l : List ℕ) (from to : ℕ) : Type 0 where
  pub some : from < to
  pub run : Run l 0x20 0x7f from to
  pub first : 0x20 < get_or l from 0
  pub last : 0x20 < get_or l (to - 1) 0

-- what a mark that was taken at place i of l says
pub data Marks (l : List ℕ) (i : ℕ) : Mark → Type 0 where
  character : {c : Char} {m : Mark} → char_of (drop i l) ≡ Some c → marked c ≡ m → Marks l i m
  ill : char_of (drop i l) ≡ None → Marks l i (Ink 1)
  plain : {n : ℕ} → Plain l i (i + n) → Marks l i (Ink n)
  spaces : {n : ℕ} → 0 < n → Run l 0x20 0x20 i (i + n) → Marks l i (White n)
