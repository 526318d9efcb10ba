-- Writing what fits, behind the tests of text and state.
--     crowded_by, roomy_by             refusal 10, and a target with room, where the size was measured
--     source_comes                     the text of a source, measured and then written where it fits
-- Assumes nothing.
use Rattle.std.specs.Prelude.{Err, None, Ok, Option, Result, Some}
use mathlib.Core.Path.{◌≡◌, ◌∙◌}
use mathlib.Core.Bool.{Bool, true, false, cond}
use mathlib.Core.List.{List, [], ◌∷◌, ◌++◌}
use Prim.Native.Nat.{ℕ, ◌+◌, ◌^◌, ◌≤◌, ◌<◌}
use native.Mathlib.Omega.{arith}
use lib.ListN.{length, drop, length-append, length-take, length-drop}
use lib.Dec.{eqb}
use Rattle.text.specs.declared.spans.Span.{Span}
use Rattle.text.specs.Spans.{part_of}
use Rattle.tape.specs.declared.refusal.Refusal.{Refusal}
use Rattle.tape.specs.declared.refusal.Refusal.TheVariants as refusal
use Rattle.tape.specs.Targets.{Wrote, Fitted}
use Rattle.tape.proofs.Targets.{sets_room}
use Rattle.definitions.specs.declared.options.Options.{Options}
use Rattle.definitions.specs.Opening.{or_react, import_source, runtime_source}
use Rattle.definitions.specs.Entries.{laid, judge_tape}
use Rattle.records.proofs.Writing.{Comes, crowded, roomy, fitted_comes}
use Rattle.resolved.specs.Resolved.{runtime_path, source_text}

-- ---- the room

pub crowded_by : (t o : List ℕ) {size : ℕ} → size ≡ length t → length o < size → Comes (judge_tape t (length o)) (Err (refusal.Space size)) o o
crowded_by t o e h = rw e (crowded t o (omega (arith, h, e)))

pub roomy_by : (t o : List ℕ) {o' : List ℕ} {size r : ℕ} → size ≡ length t → size ≤ length o → Wrote o o' 0 r t
    → Comes (judge_tape t (length o)) (Ok size) o o'
unfolding laid
roomy_by t o e h w =
    let l : length t ≤ length o = omega (arith, h, e) in
    rw (e, w.holds ∙ sets_room o 0 t (omega (arith, l))) (roomy t o l)

-- ---- the text of a source

part_length : (text : List ℕ) (s : Span) → length (part_of text s) ≤ length text
unfolding part_of
part_length text s = omega (arith, length-take s.len (drop s.start text), length-drop s.start text)

or_react_length : (l : List ℕ) → length (or_react l) ≤ length l + 5
unfolding or_react
or_react_length [] = omega arith
or_react_length (b ∷ l) = omega arith

import_length : (text : List ℕ) (p : Option Span) → length (import_source text p) ≤ length text + 5
unfolding import_source
import_length text None = omega arith
import_length text (Some s) = omega (arith, or_react_length (part_of text s), part_length text s)

path_length : (d : Bool) → length (runtime_path d) ≤ 16
path_length true = omega arith
path_length false = omega arith

source_length : (text : List ℕ) (o : Options) (n : ℕ) → length (source_text text o n) ≤ length text + 21
unfolding source_text runtime_source
source_length text o n = go (eqb n 0)
  where
    i : List ℕ
    i = import_source text o.import_source

    go : (b : Bool) → length (cond b i (i ++ runtime_path o.flags.development)) ≤ length text + 21
    go true = omega (arith, import_length text o.import_source)
    go false = omega (arith, import_length text o.import_source, path_length o.flags.development, length-append i (runtime_path o.flags.development))

pub source_comes : (text : List ℕ) (o : Options) (n : ℕ) (target : List ℕ) {r : Result ℕ Refusal} {target' : List ℕ} → length text ≤ 65535
    → (length (source_text text o n) < 2 ^ 63 → Fitted (source_text text o n) target r target') → Comes (judge_tape (source_text text o n) (length target)) r target target'
source_comes text o n target h f = fitted_comes (source_text text o n) target (f (omega (arith, source_length text o n)))
