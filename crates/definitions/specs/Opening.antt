-- docs/TAPES.md, "Opening tape" and "Settings": the opening tape, the settings and the notices that it gives, and which openings are refused.
use Rattle.std.specs.Prelude.{ℕ, zero, suc, ◌+◌, Bool, true, false, cond, ◌&&◌, ◌||◌, List, [], ◌∷◌, ◌++◌, length, drop, ltb, None, Option, Some, Result, Ok, Err}
use Rattle.text.specs.declared.spans.Span.{Span}
use Rattle.text.specs.Bytes.{ascii, find, over_ascii}
use Rattle.text.specs.Spans.{part_of, bounds_of}
use Rattle.commands.specs.declared.error.CommandError.{CommandError}
use Rattle.commands.specs.declared.opening.OptionCommand.{OptionCommand}
use Rattle.commands.specs.declared.opening.OptionCommand.TheVariants as option
use Rattle.tape.specs.declared.refusal.Refusal.TheVariants as refusal
use Rattle.commands.specs.Opening.{flags_command, option_command}
use Rattle.definitions.specs.declared.options.Flags.{Flags}
use Rattle.definitions.specs.declared.options.Options.{Options}
use Rattle.definitions.specs.declared.options.Mode.{Mode}
use Rattle.definitions.specs.declared.options.Mode.TheVariants.{Module, Script, Classic}
use Rattle.definitions.specs.declared.options.Form.{Form}
use Rattle.definitions.specs.declared.options.InvalidPart.{InvalidPart}
use Rattle.definitions.specs.declared.options.Settings.{Settings}
use Rattle.definitions.specs.Judging.{Parsed, done, from, wrong, unreadable, spanned, Judged, accepted, too_long, refuse, refuse_at, read, judge_text}
use Rattle.definitions.specs.Options.{flags_of, conform}
use Rattle.definitions.specs.Comments.{with_comments}
use Rattle.definitions.specs.Pragmas.{pragma_in, form_by}
use Rattle.definitions.specs.Calls.{Notice, invalid_pragma, notice_bytes}

-- ---- the tape

-- what an opening tape says: its flags, the three option strings, and its comments in order
pub record Opening : Type 0 where
  pub flags : ℕ
  pub pragma : Option Span
  pub pragma_frag : Option Span
  pub import_source : Option Span
  pub comments : List Span

abbrev pub bare : ℕ → Opening
bare n = record { flags = n; pragma = None; pragma_frag = None; import_source = None; comments = [] }

abbrev pub with_pragma : Opening → Span → Opening
with_pragma o s = record { flags = o.flags; pragma = Some s; pragma_frag = o.pragma_frag; import_source = o.import_source; comments = o.comments }

abbrev pub with_pragma_frag : Opening → Span → Opening
with_pragma_frag o s = record { flags = o.flags; pragma = o.pragma; pragma_frag = Some s; import_source = o.import_source; comments = o.comments }

abbrev pub with_import_source : Opening → Span → Opening
with_import_source o s = record { flags = o.flags; pragma = o.pragma; pragma_frag = o.pragma_frag; import_source = Some s; comments = o.comments }

abbrev pub and_comment : Opening → Span → Opening
and_comment o s =
    record {
      flags = o.flags;
      pragma = o.pragma;
      pragma_frag = o.pragma_frag;
      import_source = o.import_source;
      comments = o.comments ++ s ∷ [];
    }

-- the opening with what the command at the front of t adds; `next` reads on behind it, with the last option's byte. An option command has five
-- bytes. Its span may be empty
unfoldable pub option_by : List ℕ → List ℕ → ℕ → Opening → Result (Option OptionCommand) CommandError → (ℕ → Opening → Parsed Opening) → Parsed Opening
option_by text t last o (Ok None) next = done o 0
option_by text t last o (Err e) next = unreadable t e
option_by text t last o (Ok (Some (option.Pragma s))) next = spanned (bounds_of text s) (next 0x62 (with_pragma o s))
option_by text t last o (Ok (Some (option.PragmaFrag s))) next = spanned (bounds_of text s) (next 0x63 (with_pragma_frag o s))
option_by text t last o (Ok (Some (option.ImportSource s))) next = spanned (bounds_of text s) (next 0x64 (with_import_source o s))
option_by text t last o (Ok (Some (option.Comment s))) next = spanned (bounds_of text s) (next 0x64 (and_comment o s))

-- the commands behind the first. The first argument bounds the turns: any number above the length of t gives the same
unfoldable pub options_from : ℕ → List ℕ → ℕ → Opening → List ℕ → Parsed Opening
options_from zero text last o t = wrong
options_from (suc f) text last o t =
    option_by text t last o (option_command last t) (λ next p. from 5 (options_from f text next p (drop 5 t)))

unfoldable pub opening_by : List ℕ → Result ℕ CommandError → (ℕ → Parsed Opening) → Parsed Opening
opening_by t (Err e) next = unreadable t e
opening_by t (Ok n) next = next n

-- the whole tape
unfoldable pub read_opening : List ℕ → List ℕ → Parsed Opening
read_opening text t = opening_by t (flags_command t) (λ n. from 3 (options_from (suc (length t)) text 0x61 (bare n) (drop 3 t)))

-- ---- the settings

-- "Order: `conform`, then `update_options_with_comments`"
unfoldable pub options_of : List ℕ → Opening → Options
options_of text o =
    with_comments text
    (record {
      flags = conform (flags_of o.flags);
      pragma = o.pragma;
      pragma_frag = o.pragma_frag;
      import_source = o.import_source;
      ts_pragma = None;
      ts_pragma_frag = None;
    })
    o.comments

abbrev pub is_absent : Option Span → Bool
is_absent None = true
is_absent (Some s) = false

-- the bindings that `JsxImpl::new` chooses
unfoldable pub mode_of : Flags → Mode
mode_of f = cond f.classic Classic (cond f.«module» Module Script)

-- only classic bindings have pragmas
unfoldable pub pragma_under : Mode → List ℕ → Option Span → Result (Option Form) InvalidPart
pragma_under Classic text p = pragma_in text p
pragma_under Module text p = Ok None
pragma_under Script text p = Ok None

abbrev pub form_under : Mode → List ℕ → Option Span → Form
form_under m text p = form_by (pragma_under m text p)

-- `JsxImpl::new`, with both pragmas as they were read. "A call is pure if the option is, or if importSource and pragma are both absent."
abbrev pub settings_with : Options → Result (Option Form) InvalidPart → Result (Option Form) InvalidPart → Settings
settings_with o p f =
    record {
      options = o;
      pure = o.flags.pure || (is_absent o.import_source && is_absent o.pragma);
      mode = mode_of o.flags;
      pragma = form_by p;
      pragma_frag = form_by f;
    }

unfoldable pub settings_of : List ℕ → Options → Settings
settings_of text o =
    settings_with o (pragma_under (mode_of o.flags) text o.pragma) (pragma_under (mode_of o.flags) text o.pragma_frag)

-- ---- notices

-- "opening a job must pass this on as notice C2 S"
unfoldable pub pragma_notice : Result (Option Form) InvalidPart → List Notice
pragma_notice (Ok f) = []
pragma_notice (Err p) = invalid_pragma (record { start = p.place; len = p.len }) ∷ []

-- "Only a classic job gives C2, pragma first, then fragment."
unfoldable pub opening_notices : List ℕ → Settings → List Notice
opening_notices text s =
    pragma_notice (pragma_under s.mode text s.options.pragma) ++ pragma_notice (pragma_under s.mode text s.options.pragma_frag)

-- what an accepted opening writes
abbrev pub opening_bytes : List ℕ → Settings → List ℕ
opening_bytes text s = notice_bytes (opening_notices text s)

-- ---- the sources of imports

-- "Empty importSource means react."
unfoldable pub or_react : List ℕ → List ℕ
or_react [] = ascii "react"
or_react (b ∷ l) = b ∷ l

unfoldable pub import_source : List ℕ → Option Span → List ℕ
import_source text None = ascii "react"
import_source text (Some s) = or_react (part_of text s)

-- "The runtime source is it plus /jsx-runtime or /jsx-dev-runtime."
unfoldable pub runtime_source : List ℕ → Options → List ℕ
runtime_source text o =
    import_source text o.import_source ++ cond o.flags.development (ascii "/jsx-dev-runtime") (ascii "/jsx-runtime")

-- ---- refusals

-- the place of a setting's first byte over 7F
unfoldable pub shifted : ℕ → Option ℕ → Option ℕ
shifted n (Some p) = Some (n + p)
shifted n None = None

unfoldable pub over_ascii_in : List ℕ → Option Span → Option ℕ
over_ascii_in text None = None
over_ascii_in text (Some s) = shifted s.start (find over_ascii (part_of text s))

-- "classic, and a pragma in force has a byte over 7F", "pragma before fragment"
unfoldable pub if_classic : Mode → Option ℕ → Option ℕ
if_classic Classic p = p
if_classic Module p = None
if_classic Script p = None

-- before what is judged behind it
unfoldable pub pragmas_checked : List ℕ → Settings → Judged Settings → Judged Settings
pragmas_checked text s rest =
    refuse_at (if_classic s.mode (over_ascii_in text s.options.pragma)) refusal.PragmaByte
    (refuse_at (if_classic s.mode (over_ascii_in text s.options.pragma_frag)) refusal.PragmaByte rest)

-- "Opening now writes notices, so it takes a notice target, and its refusal order ends with 11."
unfoldable pub notices_fitted : List ℕ → ℕ → Settings → Judged Settings
notices_fitted text room s =
    refuse (ltb room (length (opening_bytes text s))) (refusal.NoticeSpace (length (opening_bytes text s))) (accepted s)

-- behind the tape
abbrev pub judge_options : List ℕ → ℕ → Options → Judged Settings
judge_options text room o = pragmas_checked text (settings_of text o) (notices_fitted text room (settings_of text o))

-- "Opening: 1, 2, then 3 and 4 in tape order, 3 first within one command, then 5 (pragma before fragment)", with 13 "directly after 4", then 11; nothing there is
-- a name.
unfoldable pub judge_opening : List ℕ → List ℕ → ℕ → Judged Settings
judge_opening text tape room =
    judge_text (too_long text || too_long tape) text (read (read_opening text tape) (λ o. judge_options text room (options_of text o)))
