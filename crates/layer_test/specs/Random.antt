-- What is drawn by chance, and the checksum of it: numbers below 2 ^ 32.
use Rattle.std.specs.Prelude.{ℕ, zero, suc, ◌+◌, ◌*◌, ◌%◌, ◌^◌}

-- a linear congruential generator
abbrev pub next_of : ℕ → ℕ
next_of state = (state * 1664525 + 1013904223) % 2 ^ 32

-- its state behind so many draws
unfoldable pub drawn : ℕ → ℕ → ℕ
drawn zero state = state
drawn (suc n) state = drawn n (next_of state)

abbrev pub mixed : ℕ → ℕ → ℕ
mixed sum value = (sum * 31 + value) % 2 ^ 32
