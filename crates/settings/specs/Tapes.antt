-- What the walks over the opening tape give, in the terms of crate `definitions`.
use Rattle.std.specs.Prelude.{ℕ, suc, ◌+◌, ◌≤◌, ◌≡◌, true, List, length, drop, replicate, None, Option, Some, Result, Ok, Err, ⊤}
use Rattle.text.specs.declared.spans.Span.{Span}
use Rattle.text.specs.declared.spans.Bounds.{Bounds}
use Rattle.text.specs.declared.spans.Bounds.TheVariants as bounds
use Rattle.text.specs.Spans.{bounds_of}
use Rattle.commands.specs.declared.error.CommandError.{CommandError}
use Rattle.commands.specs.declared.opening.OptionCommand.{OptionCommand}
use Rattle.commands.specs.declared.opening.OptionCommand.TheVariants as option
use Rattle.tape.specs.declared.refusal.Fault.TheVariants.{Grammar, Outside, Cuts}
use Rattle.tape.specs.declared.refusal.TapeError.{TapeError}
use Rattle.tape.specs.declared.refusal.Refusal.{Refusal}
use Rattle.tape.specs.Refusals.{fault_at}
use Rattle.tape.specs.declared.refusal.Refusal.TheVariants as refusal
use Rattle.definitions.specs.declared.options.Form.{Form}
use Rattle.definitions.specs.declared.options.InvalidPart.{InvalidPart}
use Rattle.definitions.specs.declared.options.Options.{Options}
use Rattle.definitions.specs.declared.options.Settings.{Settings}
use Rattle.definitions.specs.declared.state.State.{State}
use Rattle.definitions.specs.declared.state.Stepped.{Stepped}
use Rattle.definitions.specs.Judging.{Parsed, from, error_place, Judged, accepted, refused, read}
use Rattle.definitions.specs.Options.{flags_of, conform}
use Rattle.definitions.specs.Comments.{with_comments}
use Rattle.definitions.specs.Opening.{Opening, bare, options_from, read_opening, options_of, judge_options}
use Rattle.definitions.specs.States.{borne_out}
use Rattle.definitions.specs.Entries.{no_record, no_job, OpeningOutcome}
use Rattle.comments.specs.Tapes.{comments_of}

-- the options before the comments
unfoldable pub options_before : Opening → Options
options_before o =
    record {
      flags = conform (flags_of o.flags);
      pragma = o.pragma;
      pragma_frag = o.pragma_frag;
      import_source = o.import_source;
      ts_pragma = None;
      ts_pragma_frag = None;
    }

-- a span that may be empty is in order, or it isn't
unfoldable pub checked : Bounds → Result ⊤ TapeError
checked bounds.Outside = Err (fault_at Outside 0)
checked bounds.Cuts = Err (fault_at Cuts 0)
checked bounds.Empty = Ok tt
checked bounds.Good = Ok tt

unfoldable pub span_of : OptionCommand → Span
span_of (option.Pragma s) = s
span_of (option.PragmaFrag s) = s
span_of (option.ImportSource s) = s
span_of (option.Comment s) = s

-- the last option's byte and the options behind a command
unfoldable pub with_option : Options → OptionCommand → ℕ × Options
with_option p (option.Pragma s) = (0x62, record p { pragma = Some s })
with_option p (option.PragmaFrag s) = (0x63, record p { pragma_frag = Some s })
with_option p (option.ImportSource s) = (0x64, record p { import_source = Some s })
with_option p (option.Comment s) = (0x64, p)

-- what stands behind a span: the next, where it is in order
unfoldable pub spanned_by : Result ⊤ TapeError → ℕ × Options → Result (Option (ℕ × Options)) TapeError
spanned_by (Ok _) next = Ok (Some next)
spanned_by (Err e) next = Err e

-- the command at the front of t, the options before it being p
unfoldable pub next_by : List ℕ → List ℕ → Options → Result (Option OptionCommand) CommandError → Result (Option (ℕ × Options)) TapeError
next_by text t p (Ok None) = Ok None
next_by text t p (Ok (Some c)) = spanned_by (checked (bounds_of text (span_of c))) (with_option p c)
next_by text t p (Err e) = Err (fault_at Grammar (error_place t e))

-- the options that reading gives
unfoldable pub judged_options : List ℕ → Parsed Opening → Judged Options
judged_options text r = read r (λ o. accepted (options_of text o))

unfoldable pub judged_by : List ℕ → List ℕ → Result Options TapeError → Judged Options
judged_by text tape (Ok p) = accepted (with_comments text p (comments_of (drop 3 tape)))
judged_by text tape (Err e) = refused (refusal.Tape e.fault e.place)

-- behind the flags n
abbrev pub behind_flags : List ℕ → List ℕ → ℕ → Parsed Opening
behind_flags text tape n = from 3 (options_from (suc (length tape)) text 0x61 (bare n) (drop 3 tape))

-- ---- the answer

-- a state with no records, whose count is k and whose notice fill is n
abbrev pub state_with : Settings → ℕ → ℕ → State
state_with s k n = record { settings = s; records = replicate 8 no_record; count = k; calls = 0; notices = n }

-- what reading the tape comes to, in a text that is in order
unfoldable pub opened_tape : List ℕ → List ℕ → ℕ → Judged Settings
opened_tape text tape room = read (read_opening text tape) (λ o. judge_options text room (options_of text o))

-- the spans of both pragmas are in order
pub record Borne (text : List ℕ) (o : Options) : Type 0 where
  pub pragma : borne_out text o.pragma ≡ true
  pub frag : borne_out text o.pragma_frag ≡ true

-- the part of a pragma that fails is a span
unfoldable pub Spanned : Result (Option Form) InvalidPart → Type 0
Spanned (Ok f) = 0 ≤ 65535
Spanned (Err p) = p.place + p.len ≤ 65535

-- the answer with the state: of settings and a notice fill, or of a refusal
unfoldable pub answered_by : Result (Settings × ℕ) Refusal → Stepped
answered_by (Ok p) = record { answer = Ok tt; state = state_with p.0 0 p.1 }
answered_by (Err r) = record { answer = Err r; state = no_job }

-- the answer, and the notice target after, are those of an outcome
pub record Opened (o : OpeningOutcome) (r : Result (Settings × ℕ) Refusal) (notices : List ℕ) : Type 0 where
  pub answered : answered_by r ≡ o.stepped
  pub noticed : notices ≡ o.notices
