-- The digits of bytes, byte by byte.
-- Assumes nothing.
use mathlib.Core.Path.{◌≡◌, sym, ap, ◌∙◌}
use mathlib.Core.List.{List, [], ◌∷◌, ◌++◌, append_assoc, append-nil}
use Prim.Native.Nat.{ℕ}
use Rattle.printing.specs.Lines.{hex_of, hex_bytes}

pub hex_snoc : (xs : List ℕ) (b : ℕ) → hex_bytes (xs ++ (b ∷ [])) ≡ hex_bytes xs ++ hex_of b
unfolding hex_bytes
hex_snoc [] b = append-nil (hex_of b)
hex_snoc (x ∷ xs) b = ap (λ (r : List ℕ). hex_of x ++ r) (hex_snoc xs b) ∙ sym (append_assoc (hex_of x) (hex_bytes xs) (hex_of b))
