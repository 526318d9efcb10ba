-- The number of a thing among those bound, where it is one of them.
use Rattle.std.specs.Prelude.{ℕ, cond, List, None, Option, Some}
use Rattle.definitions.specs.declared.records.Import.{Import}
use Rattle.definitions.specs.Store.{number_in, is_bound}

unfoldable pub place_of : List Import → Import → Option ℕ
place_of js i = cond (is_bound js i) (Some (number_in js i)) None
