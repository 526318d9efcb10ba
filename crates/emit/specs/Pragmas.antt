-- The pragmas of classic settings, by their numbers on the call tape.
use Rattle.std.specs.Prelude.{ℕ}
use Rattle.emit.specs.declared.jsx_impl.Pragma.{Pragma}
use Rattle.emit.specs.declared.jsx_impl.Pragma.TheVariants.{Callee, Fragment}

abbrev pub pragma_number : Pragma → ℕ
pragma_number Callee = 0
pragma_number Fragment = 1
