-- "text or tape over 65,535 bytes": how long each may be.
use Rattle.std.specs.Prelude.{ℕ}

abbrev pub max_length : ℕ
max_length = 65535
