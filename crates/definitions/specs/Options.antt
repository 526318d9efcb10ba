-- docs/TAPES.md, "Opening tape": the options that the opening tape gives (options.rs).
use Rattle.std.specs.Prelude.{ℕ, ◌/◌, ◌%◌, ◌^◌, Bool, cond, ◌||◌, eqb}
use Rattle.definitions.specs.declared.options.Flags.{Flags}
use Rattle.definitions.specs.declared.options.Mode.{Mode}
use Rattle.definitions.specs.declared.options.Mode.TheVariants.{Module, Script, Classic}
use Rattle.definitions.specs.declared.options.PragmaRoot.{PragmaRoot}
use Rattle.definitions.specs.declared.options.PragmaRoot.TheVariants as root

-- bit i of a number
abbrev pub bit : ℕ → ℕ → Bool
bit i n = eqb (n / 2 ^ i % 2) 1

-- "Flag bits from 0: jsx_plugin, self plugin, source plugin, classic, development, throw_if_namespace, pure, module."
unfoldable pub flags_of : ℕ → Flags
flags_of n =
    record {
      jsx_plugin = bit 0 n;
      self_plugin = bit 1 n;
      source_plugin = bit 2 n;
      classic = bit 3 n;
      development = bit 4 n;
      throw_if_namespace = bit 5 n;
      pure = bit 6 n;
      «module» = bit 7 n;
    }

-- `conform` (options.rs): development turns the three plugins on
unfoldable pub conform : Flags → Flags
conform f =
    record {
      jsx_plugin = f.jsx_plugin || f.development;
      self_plugin = f.self_plugin || f.development;
      source_plugin = f.source_plugin || f.development;
      classic = f.classic;
      development = f.development;
      throw_if_namespace = f.throw_if_namespace;
      pure = f.pure;
      «module» = f.«module»;
    }

-- ---- the numbers of a bindings mode and of a pragma's root, as a state's bytes tell them (packing)

unfoldable pub mode_number : Mode → ℕ
mode_number Module = 0
mode_number Script = 1
mode_number Classic = 2

unfoldable pub mode_by : ℕ → Mode
mode_by n = cond (eqb n 0) Module (cond (eqb n 1) Script Classic)

unfoldable pub root_by : ℕ → PragmaRoot
root_by n = cond (eqb n 0) root.Default (cond (eqb n 1) root.This (cond (eqb n 2) root.ImportMeta root.Identifier))
