-- A line of a JSX text, written in two or three steps. Assumes nothing.
use mathlib.Core.Path.{◌≡◌}
use mathlib.Core.Bool.{Bool, cond}
use mathlib.Core.List.{List, [], ◌∷◌}
use Prim.Native.Nat.{ℕ, ◌≤◌, ◌^◌}
use borrow.Author.Tests.{eq-eqb, ne_eqb}
use lib.ListN.{length}
use Rattle.text.specs.declared.spans.Span.{Span}
use Rattle.tape.specs.Numbers.{span_bytes}
use Rattle.tape.specs.Targets.{Wrote}
use Rattle.tape.proofs.Targets.{wrote_then}
use Rattle.jsx_text.specs.TextBytes.{line_bytes}

module _ (later : Bool) (s : Span) (b : ℕ) (e : b ≡ cond later 0x8c 0x8a) (o o₁ : List ℕ) (at r₁ : ℕ) (w : Wrote o o₁ at r₁ (b ∷ [])) where
  pub wrote_empty_line : s.len ≡ 0 → Wrote o o₁ at r₁ (line_bytes later s)
  unfolding line_bytes
  wrote_empty_line z = rw (eq-eqb s.len 0 z, ← e) w

  pub wrote_line : (s.len ≡ 0 → ⊥) → length o ≤ 2 ^ 63 → (o₂ : List ℕ) (r₂ : ℕ) → Wrote o₁ o₂ r₁ r₂ (0x8b ∷ span_bytes s) → Wrote o o₂ at r₂ (line_bytes later s)
  unfolding line_bytes
  wrote_line nz short o₂ r₂ p = rw (ne_eqb s.len 0 nz, ← e) (wrote_then short w p)
