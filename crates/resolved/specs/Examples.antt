-- The sources of jobs over the text `preact`, computed.
use Rattle.std.specs.Prelude.{ℕ, ◌≡◌, refl, List, [], ◌∷◌, None, Option, Some}
use Rattle.text.specs.declared.spans.Span.{Span}
use Rattle.text.specs.Bytes.{ascii}
use Rattle.text.specs.Spans.{part_of}
use Rattle.definitions.specs.declared.options.Options.{Options}
use Rattle.definitions.specs.Options.{flags_of}
use Rattle.definitions.specs.Opening.{or_react, import_source, runtime_source}
use Rattle.resolved.specs.Resolved.{source_text}

-- flags 10 is development
abbrev options : ℕ → Option Span → Options
options flags source =
    record {
      flags = flags_of flags;
      pragma = None;
      pragma_frag = None;
      import_source = source;
      ts_pragma = None;
      ts_pragma_frag = None;
    }

abbrev both : ℕ → Option Span → List (List ℕ)
both flags source = source_text (ascii "preact") (options flags source) 0 ∷ source_text (ascii "preact") (options flags source) 1 ∷ []

pub sources :
    both 0x00 None ∷ both 0x10 None ∷ both 0x00 (Some (record { start = 0; len = 6 })) ∷ both 0x10 (Some (record { start = 6; len = 0 })) ∷ []
    ≡ (ascii "react" ∷ ascii "react/jsx-runtime" ∷ [])
    ∷ (ascii "react" ∷ ascii "react/jsx-dev-runtime" ∷ [])
    ∷ (ascii "preact" ∷ ascii "preact/jsx-runtime" ∷ [])
    ∷ (ascii "react" ∷ ascii "react/jsx-dev-runtime" ∷ [])
    ∷ []
unfolding source_text or_react import_source runtime_source part_of flags_of
sources = refl
