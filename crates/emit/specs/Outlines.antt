-- What lowering asks of the settings, and that one byte can tell it: the bits that the opening tape's flags have for the same things, of which 3, 6 and 7
-- stand for what follows from the options (classic, pure, module).
use Rattle.std.specs.Prelude.{ℕ, ◌+◌, Bool, false, cond, None}
use Rattle.definitions.specs.declared.options.Form.{Form}
use Rattle.definitions.specs.declared.options.PragmaRoot.TheVariants as roots
use Rattle.definitions.specs.declared.options.Mode.{Mode}
use Rattle.definitions.specs.declared.options.Mode.TheVariants.{Module, Script, Classic}
use Rattle.definitions.specs.declared.options.Settings.{Settings}
use Rattle.definitions.specs.Options.{bit}

abbrev pub no_form : Form
no_form = record { root = roots.Default; tail = 0 }

-- settings of which these are known, with all else left out
abbrev pub outlined : Bool → Bool → Bool → Bool → Bool → Mode → Settings
outlined self source development throws pure mode =
    record {
      options =
          record {
            flags =
                record {
                  jsx_plugin = false;
                  self_plugin = self;
                  source_plugin = source;
                  classic = false;
                  development = development;
                  throw_if_namespace = throws;
                  pure = false;
                  «module» = false;
                };
            pragma = None;
            pragma_frag = None;
            import_source = None;
            ts_pragma = None;
            ts_pragma_frag = None;
          };
      pure = pure;
      mode = mode;
      pragma = no_form;
      pragma_frag = no_form;
    }

-- what lowering asks of settings, handed on
abbrev pub asked : {A : Type 0} → (Bool → Bool → Bool → Bool → Bool → Mode → A) → Settings → A
asked of s =
    of
    s.options.flags.self_plugin
    s.options.flags.source_plugin
    s.options.flags.development
    s.options.flags.throw_if_namespace
    s.pure
    s.mode

abbrev pub outline : Settings → Settings
outline = asked outlined

-- the mode that a byte tells
abbrev pub mode_in : ℕ → Mode
mode_in n = cond (bit 3 n) Classic (cond (bit 7 n) Module Script)

-- the settings that a byte tells
abbrev pub settings_in : ℕ → Settings
settings_in n = outlined (bit 1 n) (bit 2 n) (bit 4 n) (bit 5 n) (bit 6 n) (mode_in n)

-- the mode's bits
abbrev pub mode_bits : Mode → ℕ
mode_bits Module = 128
mode_bits Script = 0
mode_bits Classic = 8

-- the byte of such settings, and of what lowering asks of settings
abbrev pub outlined_byte : Bool → Bool → Bool → Bool → Bool → Mode → ℕ
outlined_byte self source development throws pure mode =
    cond self 2 0 + cond source 4 0 + cond development 16 0 + cond throws 32 0 + cond pure 64 0 + mode_bits mode

abbrev pub outline_byte : Settings → ℕ
outline_byte = asked outlined_byte
