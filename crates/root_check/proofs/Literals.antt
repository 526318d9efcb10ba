-- The properties of a literal, passed one after the other.
--     properties_skipped             what a contract says of how far they reach
--     PropertiesLeft, properties_..  a loop's invariant and its turns
--     property_room                  how much of the tape is left for what stands at a place
-- Assumes nothing.
use mathlib.Core.Path.{◌≡◌, refl, sym, ap, ◌∙◌}
use mathlib.Core.List.{List, ◌∷◌}
use Prim.Native.Nat.{ℕ, zero, suc, ◌+◌, ◌-◌, ◌≤◌, ◌<◌}
use native.Mathlib.Nat.{zero-add, add_assoc}
use native.Mathlib.Numerals.{sub-one}
use native.Mathlib.Omega.{arith}
use Rattle.std.specs.Prelude.{Result, Ok, Err}
use lib.ListN.{length, drop, length-drop}
use lib.Seq.{drop-drop}
use Rattle.text.proofs.Lists.{tail_part}
use Rattle.text.specs.declared.spans.Span.{Span}
use Rattle.text.specs.Spans.{bounds_of}
use Rattle.commands.specs.declared.error.CommandError.{CommandError}
use Rattle.commands.specs.declared.root.PropertyCommand.{PropertyCommand}
use Rattle.commands.specs.declared.root.PropertyCommand.TheVariants as properties
use Rattle.commands.specs.Root.{property_command}
use Rattle.commands.specs.Sizes.{property_size}
use Rattle.commands.proofs.Lengths.{property_fits}
use Rattle.definitions.specs.Judging.{done, from}
use Rattle.definitions.specs.Tree.{Property, unnamed, prop_name}
use Rattle.definitions.specs.Reading.{properties_by, properties_at}
use Rattle.definitions.proofs.TreeSizes.{Told, tells, faults, told_map, told_from, told_spanned, told_done}
use Rattle.root_check.specs.Skipping.{properties_passed_by, properties_passed_in, properties_passed}
use Rattle.root_check.proofs.Behind.{part}

-- ---- how far they reach

-- by the command in front, in turns enough
turn : (f : ℕ) (t : List ℕ) {c : Result PropertyCommand CommandError} → property_command t ≡ c → length t ≤ f
    → properties_passed_in f t ≡ properties_passed_by c (λ n. properties_passed_in (f - 1) (drop n t))
unfolding properties_passed_in properties_passed_by
turn (suc f) t e h = rw (e, sub-one (suc f)) refl
turn zero t {c} e h = none c (omega (arith, property_fits t e))
  where
    none : (c : Result PropertyCommand CommandError) → property_size c ≤ 0 → 0 ≡ properties_passed_by c (λ n. properties_passed_in (zero - 1) (drop n t))
    none (Err x) k = refl
    none (Ok properties.End) k = absurd (omega arith)
    none (Ok (properties.Property e)) k = absurd (omega arith)
    none (Ok (properties.Named e s)) k = absurd (omega arith)

-- what is read is what is passed
properties_read : (f g : ℕ) (text t : List ℕ) → length t ≤ g → Told (λ ps u. properties_passed_in g t ≡ u) (properties_at f text t)
unfolding properties_at properties_by properties_passed_by
properties_read zero g text t h = faults
properties_read (suc f) g text t h =
    by (property_command t) refl (λ n k. properties_read f (g - 1) text (drop n t) k)
  where
    by : (c : Result PropertyCommand CommandError) → property_command t ≡ c
        → ((n : ℕ) → length (drop n t) ≤ g - 1 → Told (λ ps u. properties_passed_in (g - 1) (drop n t) ≡ u) (properties_at f text (drop n t)))
        → Told (λ ps u. properties_passed_in g t ≡ u) (properties_by text t c (λ u. from u (properties_at f text (drop u t))))
    by (Err x) e ih = faults
    by (Ok properties.End) e ih = tells (turn g t e h)
    by (Ok (properties.Property x)) e ih =
        told_map (unnamed x ∷◌) (told_from 3 (ih 3 (omega (arith, length-drop 3 t))) (λ a v k. turn g t e h ∙ ap (λ (w : ℕ). 3 + w) k)) (λ a u k. k)
    by (Ok (properties.Named x s)) e ih =
        told_spanned (bounds_of text s)
        (told_map (prop_name x s ∷◌) (told_from 7 (ih 7 (omega (arith, length-drop 7 t))) (λ a v k. turn g t e h ∙ ap (λ (w : ℕ). 7 + w) k)) (λ a u k. k))

properties_within : (f : ℕ) (t : List ℕ) → properties_passed_in f t ≤ length t
unfolding properties_passed_in properties_passed_by
properties_within zero t = omega arith
properties_within (suc f) t = by (property_command t) refl (λ n. properties_within f (drop n t))
  where
    by : (c : Result PropertyCommand CommandError) → property_command t ≡ c → ((n : ℕ) → properties_passed_in f (drop n t) ≤ length (drop n t))
        → properties_passed_by c (λ n. properties_passed_in f (drop n t)) ≤ length t
    by (Err x) e ih = omega arith
    by (Ok properties.End) e ih = omega (arith, property_fits t e)
    by (Ok (properties.Property x)) e ih = omega (arith, property_fits t e, ih 3, length-drop 3 t)
    by (Ok (properties.Named x s)) e ih = omega (arith, property_fits t e, ih 7, length-drop 7 t)

pub properties_skipped : (tape : List ℕ) {r : ℕ} → r ≡ properties_passed tape
    → (r ≤ length tape)
    × (((f : ℕ) (text : List ℕ) (ps : List Property) (u : ℕ) → length tape < f → properties_at f text tape ≡ done ps u → r ≡ u)
    × (r ≡ properties_passed tape))
properties_skipped tape e = (
  omega (arith, properties_within (length tape) tape),
  (λ f text ps u h g. e ∙ told_done (properties_read f (length tape) text tape (omega arith)) g, e),
)

-- ---- a loop over the tape

-- i bytes are passed: what is passed of the tape is these, and what is passed behind them
pub record PropertiesLeft (tape : List ℕ) (i : ℕ) : Type 0 where
  pub turns : ℕ
  pub enough : length tape ≤ i + turns
  pub same : properties_passed tape ≡ i + properties_passed_in turns (drop i tape)

pub properties_left_all : (tape : List ℕ) → PropertiesLeft tape 0
properties_left_all tape = record { turns = length tape; enough = omega arith; same = sym (zero-add _) }

module _ {tape : List ℕ} {i : ℕ} (P : PropertiesLeft tape i) where
  -- by the command that stands there
  left_by : {c : Result PropertyCommand CommandError} → property_command (part i tape) ≡ c
      → properties_passed tape ≡ i + properties_passed_by c (λ n. properties_passed_in (P.turns - 1) (drop n (drop i tape)))
  left_by e =
      let x : property_command (drop i tape) ≡ _ = rw (tail_part tape i) at e in
      P.same ∙ ap (λ (w : ℕ). i + w) (turn P.turns (drop i tape) x (omega (arith, length-drop i tape, P.enough)))

  -- n bytes more
  left_on : (n : ℕ) → 1 ≤ n → properties_passed tape ≡ i + (n + properties_passed_in (P.turns - 1) (drop n (drop i tape))) → PropertiesLeft tape (i + n)
  left_on n h e = record {
    turns = P.turns - 1;
    enough = omega (arith, P.enough);
    same = e ∙ sym (add_assoc i n _) ∙ ap (λ (l : List ℕ). i + n + properties_passed_in (P.turns - 1) l) (drop-drop n i tape);
  }

  pub properties_left_property : (x : ℕ) → property_command (part i tape) ≡ Ok (properties.Property x) → PropertiesLeft tape (i + 3)
  unfolding properties_passed_by
  properties_left_property x e = left_on 3 (omega arith) (left_by e)

  pub properties_left_named : (x : ℕ) (s : Span) → property_command (part i tape) ≡ Ok (properties.Named x s) → PropertiesLeft tape (i + 7)
  unfolding properties_passed_by
  properties_left_named x s e = left_on 7 (omega arith) (left_by e)

  pub properties_left_end : property_command (part i tape) ≡ Ok properties.End → i + 1 ≡ properties_passed tape
  unfolding properties_passed_by
  properties_left_end e = sym (left_by e)

  pub properties_left_none : {x : CommandError} → property_command (part i tape) ≡ Err x → i ≡ properties_passed tape
  unfolding properties_passed_by
  properties_left_none e = omega (arith, left_by e)

-- how much of the tape is left for what stands there
pub property_room : (tape : List ℕ) (i : ℕ) {c : Result PropertyCommand CommandError} → i ≤ length tape → property_command (part i tape) ≡ c → i + property_size c ≤ length tape
property_room tape i h e =
    let x : property_command (drop i tape) ≡ _ = rw (tail_part tape i) at e in
    omega (arith, property_fits (drop i tape) x, length-drop i tape)
