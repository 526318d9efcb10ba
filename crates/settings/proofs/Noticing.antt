-- The notices of an opening, as they are counted and written.
--     spanned_under     the part of a pragma that fails is a span
--     wrote_part        the notice of such a part, written
--     found_under       a search for a byte over 7F under the options' mode
--     unfit, fit        an opening whose notices have no room, and one whose notices were written
-- Assumes nothing.
use Rattle.std.specs.Prelude.{Err, Ok, Option, Result}
use Rattle.text.specs.declared.spans.Span.{Span}
use mathlib.Core.Path.{◌≡◌, refl, sym, ap, ◌∙◌}
use mathlib.Core.Bool.{true}
use mathlib.Core.List.{List, ◌∷◌, ◌++◌, append-nil}
use Prim.Native.Nat.{ℕ, ◌+◌, ◌≤◌, ◌<◌, ◌^◌}
use native.Mathlib.Omega.{arith}
use lib.ListN.{length, length-append}
use borrow.Author.Tests.{lt-ltb, le-ltb}
use Rattle.tape.specs.declared.refusal.Refusal.TheVariants as refusal
use Rattle.tape.specs.Targets.{Wrote}
use Rattle.tape.specs.Numbers.{span_bytes}
use Rattle.tape.proofs.Targets.{sets_room, wrote_as, wrote_then}
use Rattle.definitions.specs.declared.options.Mode.{Mode}
use Rattle.definitions.specs.declared.options.Options.{Options}
use Rattle.definitions.specs.declared.options.Form.{Form}
use Rattle.definitions.specs.declared.options.InvalidPart.{InvalidPart}
use Rattle.definitions.specs.declared.options.Settings.{Settings}
use Rattle.definitions.specs.Judging.{refuse}
use Rattle.definitions.specs.Calls.{notice_bytes_of, notice_bytes}
use Rattle.definitions.specs.Opening.{mode_of, pragma_under, settings_with, settings_of, pragma_notice, opening_notices, opening_bytes, if_classic, notices_fitted}
use Rattle.definitions.specs.States.{borne_out}
use Rattle.definitions.specs.Entries.{laid, opened_by}
use Rattle.definitions.proofs.OpeningNotices.{notice_append, under_within}
use Rattle.settings.specs.Tapes.{state_with, answered_by, Spanned, Opened}

pub spanned_under : (mode : Mode) (text : List ℕ) (p : Option Span) {r : Result (Option Form) InvalidPart} → length text ≤ 65535 → borne_out text p ≡ true → r ≡ pragma_under mode text p
    → Spanned r
unfolding Spanned
spanned_under mode text p {r} h b e = go r e
  where
    go : (x : Result (Option Form) InvalidPart) → x ≡ pragma_under mode text p → Spanned x
    go (Ok f) e = omega arith
    go (Err q) e = omega (arith, under_within mode text p b q (sym e))

pub wrote_part : (p : InvalidPart) {o o' : List ℕ} {at r : ℕ} → Wrote o o' at r (0xc2 ∷ span_bytes (record { start = p.place; len = p.len }))
    → Wrote o o' at r (notice_bytes (pragma_notice (Err p)))
unfolding pragma_notice notice_bytes notice_bytes_of
wrote_part p w = wrote_as (sym (append-nil (0xc2 ∷ span_bytes (record { start = p.place; len = p.len })))) w

-- a search under the options' mode that came to x
pub found_under : {m k : Mode} {f x : Option ℕ} (g : Option ℕ) → m ≡ k → f ≡ if_classic m g → f ≡ x → if_classic k g ≡ x
found_under g hm e h = sym (e ∙ ap (λ (n : Mode). if_classic n g) hm) ∙ h

-- both pragmas as they were read under the options' mode
module _ (text : List ℕ) (o : Options) (notices : List ℕ) {m : Mode} {p f : Result (Option Form) InvalidPart} (hm : m ≡ mode_of o.flags) (hp : p ≡ pragma_under m text o.pragma)
    (hf : f ≡ pragma_under m text o.pragma_frag) where
  under : (x : Option Span) {r : Result (Option Form) InvalidPart} → r ≡ pragma_under m text x → r ≡ pragma_under (mode_of o.flags) text x
  under x e = e ∙ ap (λ (k : Mode). pragma_under k text x) hm

  settings_are : settings_with o p f ≡ settings_of text o
  unfolding settings_of
  settings_are = λ ι. settings_with o (under o.pragma hp ι) (under o.pragma_frag hf ι)

  bytes_are : opening_bytes text (settings_of text o) ≡ notice_bytes (pragma_notice p) ++ notice_bytes (pragma_notice f)
  unfolding opening_notices settings_of
  bytes_are =
      sym (λ ι. notice_bytes (pragma_notice (under o.pragma hp ι) ++ pragma_notice (under o.pragma_frag hf ι)))
      ∙ notice_append (pragma_notice p) (pragma_notice f)

  module _ {a b : ℕ} (size : a ≡ length (notice_bytes (pragma_notice p))) (size_frag : b ≡ length (notice_bytes (pragma_notice f))) where
    size_is : length (opening_bytes text (settings_of text o)) ≡ a + b
    size_is = ap length bytes_are ∙ length-append (notice_bytes (pragma_notice p)) (notice_bytes (pragma_notice f)) ∙ rw (size, size_frag)

    pub unfit : length notices < a + b
        → Opened (opened_by text notices (notices_fitted text (length notices) (settings_of text o))) (Err (refusal.NoticeSpace (a + b))) notices
    unfolding notices_fitted refuse opened_by answered_by
    unfit h = rw (size_is, lt-ltb (length notices) (a + b) h) (record { answered = refl; noticed = refl })

    pub fit : {x : Settings} {o₁ o₂ : List ℕ} {r₁ r₂ : ℕ} → length notices ≤ 2 ^ 63 → a + b ≤ length notices
        → Wrote notices o₁ 0 r₁ (notice_bytes (pragma_notice p)) → Wrote o₁ o₂ r₁ r₂ (notice_bytes (pragma_notice f)) → x ≡ settings_with o p f
        → Opened (opened_by text notices (notices_fitted text (length notices) (settings_of text o))) (Ok (x, a + b)) o₂
    unfolding notices_fitted refuse opened_by laid answered_by
    fit {o₂ = o₂} short h w v e =
        let bs = notice_bytes (pragma_notice p) ++ notice_bytes (pragma_notice f) in
        let n : 0 + length bs ≤ length notices = omega (arith, ap length bytes_are, size_is) in
        let t : o₂ ≡ laid 0 bs notices = (wrote_then short w v).holds ∙ sets_room notices 0 bs n in
        rw (le-ltb (length notices) (length (opening_bytes text (settings_of text o))) (omega (arith, size_is)))
        (record {
          answered = λ ι. record { answer = Ok tt; state = state_with ((e ∙ settings_are) ι) 0 (sym size_is ι) };
          noticed = t ∙ ap (λ (l : List ℕ). laid 0 l notices) (sym bytes_are);
        })
