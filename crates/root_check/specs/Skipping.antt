-- The commands of a root tape by their codes alone, whatever place they stand in: how many elements and fragments are open behind each, and how far a
-- walk from command to command goes.
use Rattle.std.specs.Prelude.{ℕ, zero, suc, ◌+◌, ◌-◌, cond, ◌||◌, List, length, get_or, drop, eqb, ltb, Err, None, Ok, Option, Result, Some}
use Rattle.commands.specs.declared.error.CommandError.{CommandError}
use Rattle.commands.specs.declared.root.PropertyCommand.{PropertyCommand}
use Rattle.commands.specs.declared.root.PropertyCommand.TheVariants as properties
use Rattle.commands.specs.Root.{property_command}
use Rattle.commands.specs.Sizes.{command_size}

-- how many bytes the command with this code takes, if it stands within an element or a fragment; what a root stands in, 01 and 02, comes before them
unfoldable pub size_within : ℕ → Option ℕ
size_within code = cond (ltb code 0x10 || eqb (command_size code) 0) None (Some (command_size code))

-- how many elements and fragments are open behind the command with this code, with n open before it
unfoldable pub open_behind : ℕ → ℕ → ℕ
open_behind code n = cond (eqb code 0x10 || eqb code 0x11) (suc n) (cond (eqb code 0x1f) (n - 1) n)

-- ---- how far a walk goes

-- by the size of the command in front of t and the number open behind it: nothing is passed where no whole command stands, and nothing more than the
-- command where nothing is open behind it. `next s` is what is passed s bytes further on
unfoldable pub passed_by : Option ℕ → ℕ → List ℕ → (ℕ → ℕ) → ℕ
passed_by None levels t next = 0
passed_by (Some s) levels t next = cond (ltb (length t) s) 0 (s + cond (eqb levels 0) 0 (next s))

-- in at most f commands, with n open before the first
unfoldable pub passed_in : ℕ → ℕ → List ℕ → ℕ
passed_in zero n t = 0
passed_in (suc f) n t =
    passed_by (size_within (get_or t 0 0)) (open_behind (get_or t 0 0) n) t (λ s. passed_in f (open_behind (get_or t 0 0) n) (drop s t))

-- from a value on: no walk takes more commands than there are bytes
abbrev pub value_passed : List ℕ → ℕ
value_passed t = passed_in (length t) 0 t

-- properties by the command in front, and behind it: up to the 35 that ends them and with it, or to a place where none stands
unfoldable pub properties_passed_by : Result PropertyCommand CommandError → (ℕ → ℕ) → ℕ
properties_passed_by (Err e) behind = 0
properties_passed_by (Ok properties.End) behind = 1
properties_passed_by (Ok (properties.Property e)) behind = 3 + behind 3
properties_passed_by (Ok (properties.Named e s)) behind = 7 + behind 7

unfoldable pub properties_passed_in : ℕ → List ℕ → ℕ
properties_passed_in zero t = 0
properties_passed_in (suc f) t = properties_passed_by (property_command t) (λ n. properties_passed_in f (drop n t))

abbrev pub properties_passed : List ℕ → ℕ
properties_passed t = properties_passed_in (length t) t
