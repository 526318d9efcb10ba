-- A job's state as 102 bytes, for callers that keep it where only bytes are kept. Numbers are little-endian, as on tapes.
--     0         the flags, bit by bit as on the opening tape
--     1         five options of five bytes: pragma, fragment pragma, import source, TypeScript pragma, TypeScript fragment pragma
--     26, 27    whether calls are pure (0, 1), the bindings mode (0 module, 1 script, 2 classic)
--     28, 37    the forms of both pragmas, nine bytes each: the root (0 to 3) and how many parts follow it
--     46        eight records of four bytes: what it is (0 named, 1 required, 2 the file name), source, name, binding
--     78        three numbers of eight bytes: how many records are in use, and the fills of the call and notice targets
use Rattle.std.specs.Prelude.{ℕ, ◌+◌, ◌*◌, Bool, true, false, cond, ◌&&◌, List, [], ◌∷◌, ◌++◌, length, get_or, replicate, eqb, ltb, None, Option, Some, Err, Ok, Result}
use Rattle.text.specs.declared.spans.Span.{Span}
use Rattle.tape.specs.declared.refusal.Refusal.{Refusal}
use Rattle.tape.specs.declared.refusal.Refusal.TheVariants.{Space}
use Rattle.tape.specs.Numbers.{u64_at, span_at, u64_bytes, span_bytes}
use Rattle.definitions.specs.declared.options.Flags.{Flags}
use Rattle.definitions.specs.declared.options.Options.{Options}
use Rattle.definitions.specs.declared.options.Mode.TheVariants.{Script}
use Rattle.definitions.specs.declared.options.PragmaRoot.TheVariants as root
use Rattle.definitions.specs.declared.options.Form.{Form}
use Rattle.definitions.specs.declared.options.Settings.{Settings}
use Rattle.definitions.specs.declared.records.Import.{Import}
use Rattle.definitions.specs.declared.records.Import.TheVariants.{Named, Default, FileName}
use Rattle.definitions.specs.declared.records.Record.{Record}
use Rattle.definitions.specs.declared.state.State.{State}
use Rattle.definitions.specs.Options.{flags_of, mode_number, mode_by, root_by}
use Rattle.definitions.specs.States.{root_number}
use Rattle.definitions.specs.Entries.{laid, no_record}

-- ---- a state's bytes

unfoldable pub weight : Bool → ℕ
weight true = 1
weight false = 0

unfoldable pub flags_byte : Flags → ℕ
flags_byte f =
    weight f.jsx_plugin
    + weight f.self_plugin * 2
    + weight f.source_plugin * 4
    + weight f.classic * 8
    + weight f.development * 16
    + weight f.throw_if_namespace * 32
    + weight f.pure * 64
    + weight f.«module» * 128

-- an option: whether it is present, and its span; zeros where it is absent
unfoldable pub presence : Option Span → ℕ
presence None = 0
presence (Some s) = 1

unfoldable pub span_of : Option Span → Span
span_of None = record { start = 0; len = 0 }
span_of (Some s) = s

unfoldable pub optional_bytes : Option Span → List ℕ
optional_bytes o = presence o ∷ span_bytes (span_of o)

unfoldable pub form_bytes : Form → List ℕ
form_bytes f = root_number f.root ∷ u64_bytes f.tail

unfoldable pub import_number : Import → ℕ
import_number (Named s n) = 0
import_number (Default s) = 1
import_number FileName = 2

unfoldable pub source_of : Import → ℕ
source_of (Named s n) = s
source_of (Default s) = s
source_of FileName = 0

unfoldable pub name_of : Import → ℕ
name_of (Named s n) = n
name_of (Default s) = 0
name_of FileName = 0

unfoldable pub record_bytes : Record → List ℕ
record_bytes r = import_number r.import ∷ source_of r.import ∷ name_of r.import ∷ r.binding ∷ []

unfoldable pub records_bytes : List Record → List ℕ
records_bytes [] = []
records_bytes (r ∷ rs) = record_bytes r ++ records_bytes rs

unfoldable pub options_bytes : Options → List ℕ
options_bytes o =
    (flags_byte o.flags ∷ [])
    ++ optional_bytes o.pragma
    ++ optional_bytes o.pragma_frag
    ++ optional_bytes o.import_source
    ++ optional_bytes o.ts_pragma
    ++ optional_bytes o.ts_pragma_frag

unfoldable pub settings_bytes : Settings → List ℕ
settings_bytes s =
    options_bytes s.options
    ++ (weight s.pure ∷ mode_number s.mode ∷ [])
    ++ form_bytes s.pragma
    ++ form_bytes s.pragma_frag

unfoldable pub packed : State → List ℕ
packed s =
    settings_bytes s.settings
    ++ records_bytes s.records
    ++ u64_bytes s.count
    ++ u64_bytes s.calls
    ++ u64_bytes s.notices

-- the bytes at the front of a target, where it has room for them
unfoldable pub packed_answer : ℕ → Result ℕ Refusal
packed_answer room = cond (ltb room 102) (Err (Space 102)) (Ok 102)

unfoldable pub packed_target : State → List ℕ → List ℕ
packed_target s target = cond (ltb (length target) 102) target (laid 0 (packed s) target)

-- ---- a state from its bytes, part by part at the part's place; each part with the test that packing makes such bytes

unfoldable pub optional_of : ℕ → Span → Option Span
optional_of n s = cond (eqb n 0) None (Some s)

unfoldable pub optional_good : ℕ → Span → Bool
optional_good n s = cond (eqb n 0) (eqb s.start 0 && eqb s.len 0) (eqb n 1)

abbrev pub optional_at : List ℕ → ℕ → Option Span
optional_at t i = optional_of (get_or t i 0) (span_at t (i + 1))

abbrev pub good_optional : List ℕ → ℕ → Bool
good_optional t i = optional_good (get_or t i 0) (span_at t (i + 1))

abbrev pub form_at : List ℕ → ℕ → Form
form_at t i = record { root = root_by (get_or t i 0); tail = u64_at t (i + 1) }

unfoldable pub import_of : ℕ → ℕ → ℕ → Import
import_of k s n = cond (eqb k 0) (Named s n) (cond (eqb k 1) (Default s) FileName)

unfoldable pub import_good : ℕ → ℕ → ℕ → Bool
import_good k s n = cond (eqb k 0) true (cond (eqb k 1) (eqb n 0) (eqb k 2 && (eqb s 0 && eqb n 0)))

abbrev pub record_at : List ℕ → ℕ → Record
record_at t i = record { import = import_of (get_or t i 0) (get_or t (i + 1) 0) (get_or t (i + 2) 0); binding = get_or t (i + 3) 0 }

abbrev pub good_record : List ℕ → ℕ → Bool
good_record t i = import_good (get_or t i 0) (get_or t (i + 1) 0) (get_or t (i + 2) 0)

unfoldable pub options_at : List ℕ → Options
options_at t =
    record {
      flags = flags_of (get_or t 0 0);
      pragma = optional_at t 1;
      pragma_frag = optional_at t 6;
      import_source = optional_at t 11;
      ts_pragma = optional_at t 16;
      ts_pragma_frag = optional_at t 21;
    }

unfoldable pub settings_at : List ℕ → Settings
settings_at t =
    record {
      options = options_at t;
      pure = eqb (get_or t 26 0) 1;
      mode = mode_by (get_or t 27 0);
      pragma = form_at t 28;
      pragma_frag = form_at t 37;
    }

unfoldable pub records_at : List ℕ → List Record
records_at t =
    record_at t 46
    ∷ record_at t 50
    ∷ record_at t 54
    ∷ record_at t 58
    ∷ record_at t 62
    ∷ record_at t 66
    ∷ record_at t 70
    ∷ record_at t 74
    ∷ []

unfoldable pub state_at : List ℕ → State
state_at t =
    record {
      settings = settings_at t;
      records = records_at t;
      count = u64_at t 78;
      calls = u64_at t 86;
      notices = u64_at t 94;
    }

unfoldable pub good_options : List ℕ → Bool
good_options t = good_optional t 1 && good_optional t 6 && good_optional t 11 && good_optional t 16 && good_optional t 21

unfoldable pub good_settings : List ℕ → Bool
good_settings t = ltb (get_or t 26 0) 2 && ltb (get_or t 27 0) 3 && ltb (get_or t 28 0) 4 && ltb (get_or t 37 0) 4

unfoldable pub good_records : List ℕ → Bool
good_records t =
    good_record t 46
    && good_record t 50
    && good_record t 54
    && good_record t 58
    && good_record t 62
    && good_record t 66
    && good_record t 70
    && good_record t 74

-- these 102 bytes are those of some state
unfoldable pub good : List ℕ → Bool
good t = good_options t && good_settings t && good_records t

-- what was read of bytes, if they are good
abbrev pub if_good : {A : Type 0} → Bool → A → Option A
if_good b x = cond b (Some x) None

unfoldable pub unpacked : List ℕ → Option State
unpacked t = if_good (eqb (length t) 102 && good t) (state_at t)

-- what is given back in place of a state: it has over 8 records, so that every entry refuses it as forged
abbrev pub no_form : Form
no_form = record { root = root.Default; tail = 0 }

abbrev pub no_state : State
no_state =
    record {
      settings =
          record {
            options =
                record {
                  flags = flags_of 0;
                  pragma = None;
                  pragma_frag = None;
                  import_source = None;
                  ts_pragma = None;
                  ts_pragma_frag = None;
                };
            pure = false;
            mode = Script;
            pragma = no_form;
            pragma_frag = no_form;
          };
      records = replicate 8 no_record;
      count = 9;
      calls = 0;
      notices = 0;
    }
