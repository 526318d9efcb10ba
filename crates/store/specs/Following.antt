-- What soundness says of the records, one after the other.
use Rattle.std.specs.Prelude.{ℕ, suc, Bool, true, not, ◌&&◌, List, [], ◌∷◌, ◌++◌, eqb}
use Rattle.definitions.specs.declared.options.Settings.{Settings}
use Rattle.definitions.specs.declared.records.Import.{Import}
use Rattle.definitions.specs.declared.records.Record.{Record}
use Rattle.definitions.specs.Store.{is_bound, can_bind}

-- a record that may stand at place k, behind the things seen: "records not numbered without gaps, a repeated pair, or a record its mode cannot make"
abbrev pub may_follow : Settings → ℕ → List Import → Record → Bool
may_follow s k seen r = eqb r.binding k && not (is_bound seen r.import) && can_bind s r.import

unfoldable pub following : Settings → ℕ → List Import → List Record → Bool
following s k seen [] = true
following s k seen (r ∷ rs) = may_follow s k seen r && following s (suc k) (seen ++ r.import ∷ []) rs
