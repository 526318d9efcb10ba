-- docs/TAPES.md, "Refusals", 12: which states are forged. What a state says is judged against the text.
use Rattle.std.specs.Prelude.{ℕ, suc, Bool, true, false, not, ◌&&◌, ◌||◌, List, [], ◌∷◌, ◌++◌, map, take, eqb, ltb, None, Option, Some}
use Rattle.text.specs.declared.spans.Span.{Span}
use Rattle.text.specs.declared.spans.Bounds.{Bounds}
use Rattle.text.specs.declared.spans.Bounds.TheVariants as bounds
use Rattle.text.specs.Spans.{bounds_of}
use Rattle.definitions.specs.declared.options.Options.{Options}
use Rattle.definitions.specs.declared.options.PragmaRoot.{PragmaRoot}
use Rattle.definitions.specs.declared.options.PragmaRoot.TheVariants as root
use Rattle.definitions.specs.declared.options.Form.{Form}
use Rattle.definitions.specs.declared.options.Settings.{Settings}
use Rattle.definitions.specs.declared.records.Import.{Import}
use Rattle.definitions.specs.declared.records.Record.{Record}
use Rattle.definitions.specs.declared.state.State.{State}
use Rattle.definitions.specs.Opening.{form_under, over_ascii_in, if_classic}
use Rattle.definitions.specs.Store.{is_bound, can_bind}

-- ---- the settings

-- a span that a text bears out: inside it, and cutting no character
unfoldable pub in_order : Bounds → Bool
in_order bounds.Outside = false
in_order bounds.Cuts = false
in_order bounds.Empty = true
in_order bounds.Good = true

unfoldable pub borne_out : List ℕ → Option Span → Bool
borne_out text None = true
borne_out text (Some s) = in_order (bounds_of text s)

abbrev pub spans_borne_out : List ℕ → Options → Bool
spans_borne_out text o =
    borne_out text o.pragma
    && borne_out text o.pragma_frag
    && borne_out text o.import_source
    && borne_out text o.ts_pragma
    && borne_out text o.ts_pragma_frag

unfoldable pub root_number : PragmaRoot → ℕ
root_number root.Default = 0
root_number root.This = 1
root_number root.ImportMeta = 2
root_number root.Identifier = 3

abbrev pub same_form : Form → Form → Bool
same_form f g = eqb (root_number f.root) (root_number g.root) && eqb f.tail g.tail

-- a form is borne out where it is the one that the text gives. In classic settings a pragma with a byte over 7F, whose opening is refused (5), gives none
unfoldable pub form_borne_out : Option ℕ → Form → Form → Bool
form_borne_out (Some p) f g = false
form_borne_out None f g = same_form f g

-- both pragmas, under these settings
abbrev pub forms_borne_out : List ℕ → Settings → Bool
forms_borne_out text s =
    form_borne_out (if_classic s.mode (over_ascii_in text s.options.pragma)) s.pragma (form_under s.mode text s.options.pragma)
    && form_borne_out (if_classic s.mode (over_ascii_in text s.options.pragma_frag)) s.pragma_frag (form_under s.mode text s.options.pragma_frag)

-- ---- the records

-- the records that a state has
abbrev pub live : State → List Record
live s = take s.count s.records

abbrev pub imports : List Record → List Import
imports rs = map (λ r. r.import) rs

-- "records not numbered without gaps": the first has the number k, and each next one the next
unfoldable pub numbered_from : ℕ → List Record → Bool
numbered_from k [] = true
numbered_from k (r ∷ rs) = eqb r.binding k && numbered_from (suc k) rs

-- "a repeated pair": each thing that follows is none of those before it
unfoldable pub unrepeated : List Import → List Import → Bool
unrepeated seen [] = true
unrepeated seen (i ∷ is) = not (is_bound seen i) && unrepeated (seen ++ i ∷ []) is

-- "a record its mode cannot make"
unfoldable pub all_bindable : Settings → List Import → Bool
all_bindable s [] = true
all_bindable s (i ∷ is) = can_bind s i && all_bindable s is

-- ---- forged

-- "over 8 records, a settings span or pragma form that this text does not bear out, records not numbered without gaps, a repeated pair, or a record its mode
-- cannot make"
unfoldable pub sound : List ℕ → State → Bool
sound text s =
    not (ltb 8 s.count)
    && spans_borne_out text s.settings.options
    && forms_borne_out text s.settings
    && numbered_from 0 (live s)
    && unrepeated [] (imports (live s))
    && all_bindable s.settings (imports (live s))

-- "a call or notice fill above its target (roots only)"
abbrev pub overfilled : State → ℕ → ℕ → Bool
overfilled s call_room notice_room = ltb call_room s.calls || ltb notice_room s.notices
