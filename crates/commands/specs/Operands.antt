-- What stands behind a command's code.
use Rattle.std.specs.Prelude.{ℕ, cond, List, length, ltb, Result, Err}
use Rattle.commands.specs.declared.error.CommandError.{CommandError}
use Rattle.commands.specs.declared.error.CommandError.TheVariants.{Cut}

-- a command whose operands take n bytes: it is cut off where t, which follows it, has fewer
abbrev pub operands : {A : Type 0} → ℕ → List ℕ → Result A CommandError → Result A CommandError
operands n t whole = cond (ltb (length t) n) (Err Cut) whole
