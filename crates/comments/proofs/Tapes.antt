-- The comments of an opening tape, command by command.
--     comments_front                     at the front of a tape
--     comment_here, comment_elsewhere    where a command of five bytes stands at the front
--     comments_short                     where none does
-- Assumes nothing.
use mathlib.Core.Path.{◌≡◌, refl}
use mathlib.Core.Bool.{cond}
use mathlib.Core.List.{List, [], ◌∷◌, ◌++◌}
use Prim.Native.Nat.{ℕ, ◌-◌, ◌≤◌, ◌<◌}
use native.Mathlib.Omega.{arith}
use lib.ListN.{length, get_or, take, drop}
use lib.Dec.{eqb}
use borrow.Author.Tests.{ne_eqb}
use Rattle.tape.specs.Numbers.{span_at}
use Rattle.comments.specs.Tapes.{comments_of}

pub comments_front : (t : List ℕ) → 5 ≤ length t
    → comments_of t ≡ cond (eqb (get_or t 0 0) 0x60) (span_at t 1 ∷ comments_of (drop 5 t)) (comments_of (drop 5 t))
unfolding comments_of
comments_front [] h = absurd (omega arith)
comments_front (a ∷ []) h = absurd (omega arith)
comments_front (a ∷ b ∷ []) h = absurd (omega arith)
comments_front (a ∷ b ∷ c ∷ []) h = absurd (omega arith)
comments_front (a ∷ b ∷ c ∷ d ∷ []) h = absurd (omega arith)
comments_front (a ∷ b ∷ c ∷ d ∷ k ∷ t) h = refl

-- what the code takes for a command's operand
abbrev pub operand : List ℕ → List ℕ
operand c = take (length c - 1) (drop 1 c)

-- a command and what stands behind it
module _ (command rest : List ℕ) (five : length command ≡ 5) where
  parts : comments_of (command ++ rest) ≡ cond (eqb (get_or command 0 0) 0x60) (span_at (operand command) 0 ∷ comments_of rest) (comments_of rest)
  unfolding comments_of
  parts = go command five
    where
      go : (x : List ℕ) → length x ≡ 5 → comments_of (x ++ rest) ≡ cond (eqb (get_or x 0 0) 0x60) (span_at (operand x) 0 ∷ comments_of rest) (comments_of rest)
      go [] h = absurd (omega arith)
      go (a ∷ []) h = absurd (omega arith)
      go (a ∷ b ∷ []) h = absurd (omega arith)
      go (a ∷ b ∷ c ∷ []) h = absurd (omega arith)
      go (a ∷ b ∷ c ∷ d ∷ []) h = absurd (omega arith)
      go (a ∷ b ∷ c ∷ d ∷ k ∷ []) h = refl
      go (a ∷ b ∷ c ∷ d ∷ k ∷ l ∷ x) h = absurd (omega arith)

  pub comment_here : get_or command 0 0 ≡ 0x60 → comments_of (command ++ rest) ≡ span_at (operand command) 0 ∷ comments_of rest
  comment_here e = rw (parts, e)

  pub comment_elsewhere : (get_or command 0 0 ≡ 0x60 → ⊥) → comments_of (command ++ rest) ≡ comments_of rest
  comment_elsewhere f = rw (parts, ne_eqb (get_or command 0 0) 0x60 f)

pub comments_short : (t : List ℕ) → length t < 5 → comments_of t ≡ []
unfolding comments_of
comments_short [] h = refl
comments_short (a ∷ []) h = refl
comments_short (a ∷ b ∷ []) h = refl
comments_short (a ∷ b ∷ c ∷ []) h = refl
comments_short (a ∷ b ∷ c ∷ d ∷ []) h = refl
comments_short (a ∷ b ∷ c ∷ d ∷ k ∷ t) h = absurd (omega arith)
