-- An accepted opening leaves a sound state over a well-formed text that is not too long.
--     Told, opening_told     the spans of an opening tape that is read are in order
--     Opens, opening_opens   what is known of an accepted opening
--     options_borne          the options' spans are in order
--     opening_sound          the state that it leaves is sound
-- Assumes nothing.
use Rattle.std.specs.Prelude.{None, Option, Some, Err, Ok, Result}
use mathlib.Core.Path.{◌≡◌, refl, ap, subst}
use mathlib.Core.Bool.{true, false}
use mathlib.Core.List.{List, [], ◌∷◌, ◌++◌}
use Prim.Native.Nat.{ℕ, zero, suc, ◌≤◌}
use native.Mathlib.Omega.{arith}
use lib.ListN.{length, drop}
use borrow.Author.Tests.{eq-eqb, ltb-false}
use Rattle.text.specs.declared.spans.Span.{Span}
use Rattle.text.specs.declared.spans.Bounds.{Bounds}
use Rattle.text.specs.declared.spans.Bounds.TheVariants as bounds
use Rattle.text.specs.Utf8.{first_ill}
use Rattle.text.specs.Spans.{bounds_of}
use Rattle.tape.specs.declared.refusal.Fault.{Fault}
use Rattle.commands.specs.declared.error.CommandError.{CommandError}
use Rattle.commands.specs.declared.opening.OptionCommand.{OptionCommand}
use Rattle.commands.specs.declared.opening.OptionCommand.TheVariants as option
use Rattle.commands.specs.Opening.{flags_command, option_command}
use Rattle.definitions.specs.declared.options.Form.{Form}
use Rattle.definitions.specs.declared.options.Options.{Options}
use Rattle.definitions.specs.declared.options.Settings.{Settings}
use Rattle.definitions.specs.Judging.{Parsed, done, stop, from, spanned, accepted, too_long}
use Rattle.definitions.specs.Opening.{Opening, bare, with_pragma, with_pragma_frag, with_import_source, and_comment, option_by, options_from, opening_by}
use Rattle.definitions.specs.Opening.{read_opening, options_of, settings_of, opening_bytes, over_ascii_in, if_classic, pragmas_checked, notices_fitted, judge_opening}
use Rattle.definitions.specs.States.{in_order, borne_out, root_number, same_form, form_borne_out, numbered_from, unrepeated, all_bindable, sound}
use Rattle.definitions.specs.Entries.{open_state}
use Rattle.definitions.proofs.Counting.{either_false}
use Rattle.definitions.proofs.Verdicts.{past, past_at, past_read, accepted_same, Sound, sound_whole}
use Rattle.definitions.proofs.CommentSpans.{InOrder, in_order_bounds, AllInOrder, Borne, borne_whole, comments_borne}

-- ---- what is read

module _ {A : Type 0} where
  pub not_done : {B : Type 0} (f : Fault) (p : ℕ) (a : A) (u : ℕ) → stop f p ≡ done a u → B
  not_done f p a u e = let z : ◌≡◌ {A = ℕ} 0 1 = cc in absurd (omega arith)

  spanned_done : (b : Bounds) (p : Parsed A) (a : A) (u : ℕ) → spanned b p ≡ done a u → (in_order b ≡ true) × (p ≡ done a u)
  unfolding spanned in_order
  spanned_done bounds.Outside p a u e = not_done _ _ a u e
  spanned_done bounds.Cuts p a u e = not_done _ _ a u e
  spanned_done bounds.Empty p a u e = (refl, e)
  spanned_done bounds.Good p a u e = (refl, e)

  from_done : (n : ℕ) (p : Parsed A) (a : A) (u : ℕ) → from n p ≡ done a u → (v : ℕ) × (p ≡ done a v)
  unfolding from
  from_done n (done b v) a u e = (v, let q : b ≡ a = cc in ap (λ (x : A). done x v) q)
  from_done n (stop f p) a u e = not_done _ _ a u e

-- the spans of an opening are in order
pub record Told (text : List ℕ) (o : Opening) : Type 0 where
  pub pragma : borne_out text o.pragma ≡ true
  pub frag : borne_out text o.pragma_frag ≡ true
  pub source : borne_out text o.import_source ≡ true
  pub comments : AllInOrder text o.comments

and_one : (text : List ℕ) (ss : List Span) (s : Span) → AllInOrder text ss → InOrder text s → AllInOrder text (ss ++ s ∷ [])
and_one text [] s a h = (h, tt)
and_one text (r ∷ ss) s a h = (a.0, and_one text ss s a.1 h)

module _ (text : List ℕ) (p : Opening) where
  options_told : (f last : ℕ) (o : Opening) (t : List ℕ) (u : ℕ) → Told text o → options_from f text last o t ≡ done p u → Told text p
  unfolding options_from option_by borne_out
  options_told zero last o t u h e = not_done _ _ p u e
  options_told (suc f) last o t u h e = by (option_command last t) e (λ l q v k g. options_told f l q (drop 5 t) v k g)
    where
      next : ℕ → Opening → Parsed Opening
      next l q = from 5 (options_from f text l q (drop 5 t))

      on : (s : Span) (l : ℕ) (q : Opening)
          → ((l : ℕ) (q : Opening) (v : ℕ) → Told text q → options_from f text l q (drop 5 t) ≡ done p v → Told text p)
          → spanned (bounds_of text s) (next l q) ≡ done p u → (in_order (bounds_of text s) ≡ true → Told text q) → Told text p
      on s l q ih e k =
          let d = spanned_done (bounds_of text s) (next l q) p u e in
          let g = from_done 5 (options_from f text l q (drop 5 t)) p u d.1 in
          ih l q g.0 (k d.0) g.1

      by : (c : Result (Option OptionCommand) CommandError) → option_by text t last o c next ≡ done p u
          → ((l : ℕ) (q : Opening) (v : ℕ) → Told text q → options_from f text l q (drop 5 t) ≡ done p v → Told text p)
          → Told text p
      by (Ok None) e ih = let q : o ≡ p = cc in subst (Told text) q h
      by (Err x) e ih = not_done _ _ p u e
      by (Ok (Some (option.Pragma s))) e ih =
          on s 0x62 (with_pragma o s) ih e (λ b. record { pragma = b; frag = h.frag; source = h.source; comments = h.comments })
      by (Ok (Some (option.PragmaFrag s))) e ih =
          on s 0x63 (with_pragma_frag o s) ih e (λ b. record { pragma = h.pragma; frag = b; source = h.source; comments = h.comments })
      by (Ok (Some (option.ImportSource s))) e ih =
          on s 0x64 (with_import_source o s) ih e (λ b. record { pragma = h.pragma; frag = h.frag; source = b; comments = h.comments })
      by (Ok (Some (option.Comment s))) e ih =
          on s 0x64 (and_comment o s) ih e
          (λ b. record { pragma = h.pragma; frag = h.frag; source = h.source; comments = and_one text o.comments s h.comments (in_order_bounds text s b) })

  pub opening_told : (t : List ℕ) (u : ℕ) → read_opening text t ≡ done p u → Told text p
  unfolding read_opening opening_by borne_out
  opening_told t u e = by (flags_command t) e
    where
      by : (c : Result ℕ CommandError)
          → opening_by t c (λ n. from 3 (options_from (suc (length t)) text 0x61 (bare n) (drop 3 t))) ≡ done p u → Told text p
      by (Err x) e = not_done _ _ p u e
      by (Ok n) e =
          let g = from_done 3 (options_from (suc (length t)) text 0x61 (bare n) (drop 3 t)) p u e in
          options_told (suc (length t)) 0x61 (bare n) (drop 3 t) g.0
          (record { pragma = refl; frag = refl; source = refl; comments = tt }) g.1

-- ---- an accepted opening

pub options_borne : (text : List ℕ) → first_ill text ≡ None → (o : Opening) → Told text o → Borne text (options_of text o)
unfolding options_of borne_out
options_borne text good o h =
    comments_borne text good _ o.comments h.comments
    (record { pair_pragma = h.pragma; pair_frag = h.frag; source = h.source; ts_pragma = refl; ts_frag = refl })

same_form_itself : (f : Form) → same_form f f ≡ true
same_form_itself f = rw (eq-eqb (root_number f.root) (root_number f.root) refl, eq-eqb f.tail f.tail refl)

-- in classic settings no pragma has a byte over 7F
abbrev Ascii : List ℕ → Settings → Type 0
Ascii text s =
    (if_classic s.mode (over_ascii_in text s.options.pragma) ≡ None)
    × (if_classic s.mode (over_ascii_in text s.options.pragma_frag) ≡ None)

open_sound : (text : List ℕ) (o : Options) → Borne text o → Ascii text (settings_of text o) → Sound text (open_state text (settings_of text o))
unfolding settings_of form_borne_out numbered_from unrepeated all_bindable
open_sound text o h a =
    record {
      few = omega arith;
      spans = borne_whole text o h;
      forms = rw (a.0, a.1, same_form_itself (settings_of text o).pragma, same_form_itself (settings_of text o).pragma_frag);
      gapless = refl;
      apart = refl;
      made = refl;
    }

pub record Opens (text : List ℕ) (s : Settings) (room : ℕ) : Type 0 where
  pub short : too_long text ≡ false
  pub well_formed : first_ill text ≡ None
  pub bore : sound text (open_state text s) ≡ true
  pub fits : length (opening_bytes text s) ≤ room

pub opening_opens : (text job : List ℕ) (room : ℕ) (s : Settings) → judge_opening text job room ≡ accepted s → Opens text s room
unfolding judge_opening pragmas_checked notices_fitted
opening_opens text job room s e =
    let a = past _ _ _ _ e in
    let b = past_at _ _ _ _ a.1 in
    let d = past_read _ _ _ b.1 in
    let f = past_at _ _ _ _ d.3 in
    let g = past_at _ _ _ _ f.1 in
    let h = past _ _ _ _ g.1 in
    let o = options_of text d.0 in
    let q : settings_of text o ≡ s = accepted_same (settings_of text o) s h.1 in
    let borne = options_borne text b.0 d.0 (opening_told text d.0 job d.1 d.2) in
    record {
      short = (either_false (too_long text) (too_long job) a.0).0;
      well_formed = b.0;
      bore = rw (← q) (sound_whole text (open_state text (settings_of text o)) (open_sound text o borne (f.0, g.0)));
      fits = subst (λ (x : Settings). length (opening_bytes text x) ≤ room) q (ltb-false room _ h.0);
    }

pub opening_sound : (text job : List ℕ) (room : ℕ) (s : Settings) → judge_opening text job room ≡ accepted s → sound text (open_state text s) ≡ true
opening_sound text job room s e = (opening_opens text job room s e).bore
