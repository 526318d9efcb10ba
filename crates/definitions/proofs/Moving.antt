-- The state that an accepted root leaves: its records are the things bound, and it is sound.
--     moved_live      the records
--     root_sound      an accepted root leaves a sound state
-- Assumes nothing.
use mathlib.Core.Path.{◌≡◌, ap, ◌∙◌}
use mathlib.Core.Bool.{true}
use mathlib.Core.List.{List, []}
use Prim.Native.Nat.{ℕ}
use lib.ListN.{length, drop}
use lib.Seq.{take_at}
use Rattle.definitions.specs.declared.options.Settings.{Settings}
use Rattle.definitions.specs.declared.records.Import.{Import}
use Rattle.definitions.specs.declared.state.State.{State}
use Rattle.definitions.specs.Judging.{accepted}
use Rattle.definitions.specs.Tree.{Root}
use Rattle.definitions.specs.Lowering.{lower_root, commands_of}
use Rattle.definitions.specs.States.{live, imports, unrepeated, all_bindable, sound}
use Rattle.definitions.specs.Entries.{Lowered, lowered_after, judge_root, records_from, moved}
use Rattle.definitions.proofs.Numbering.{imports_of, bound_all, bound_after_commands}
use Rattle.definitions.proofs.Soundness.{length_records, imports_records, records_numbered, unrepeated_all, bindable_all}
use Rattle.definitions.proofs.Bindable.{root_fits}
use Rattle.definitions.proofs.Verdicts.{Sound, sound_parts, sound_whole, Taken, root_taken}

pub moved_live : (s : State) (l : Lowered) → live (moved s l) ≡ records_from 0 l.bound
unfolding moved
moved_live s l = take_at (records_from 0 l.bound) (drop (length l.bound) s.records) (length l.bound) (length_records 0 l.bound)

pub moved_imports : (s : State) (l : Lowered) → imports (live (moved s l)) ≡ l.bound
moved_imports s l = ap imports (moved_live s l) ∙ imports_records 0 l.bound

-- what is bound after a root repeats nothing and can be bound, where that holds before it
module _ (text : List ℕ) (s : Settings) (js : List Import) (r : Root) where
  bound_is : (lowered_after text s js r).bound ≡ bound_all js (imports_of (commands_of (lower_root text s r)))
  unfolding lowered_after
  bound_is = bound_after_commands js (commands_of (lower_root text s r))

  pub bound_apart : unrepeated [] js ≡ true → unrepeated [] (lowered_after text s js r).bound ≡ true
  bound_apart h = rw bound_is (unrepeated_all js (imports_of (commands_of (lower_root text s r))) h)

  pub bound_made : all_bindable s js ≡ true → all_bindable s (lowered_after text s js r).bound ≡ true
  bound_made h = rw bound_is (bindable_all s js (imports_of (commands_of (lower_root text s r))) h (root_fits text s r))

pub root_sound : (text : List ℕ) (s : State) (tape : List ℕ) (call_room notice_room : ℕ) (l : Lowered)
    → judge_root text s tape call_room notice_room ≡ accepted l → sound text (moved s l) ≡ true
unfolding moved
root_sound text s tape call_room notice_room l e = sound_whole text (moved s l) whole
  where
    t : Taken text s tape call_room notice_room l
    t = root_taken text s tape call_room notice_room l e

    before : Sound text s
    before = sound_parts text s t.bore

    js : List Import
    js = imports (live s)

    whole : Sound text (moved s l)
    whole =
        record {
          few = t.few;
          spans = before.spans;
          forms = before.forms;
          gapless = rw (moved_live s l) (records_numbered 0 l.bound);
          apart = rw (moved_imports s l, ← t.lowers) (bound_apart text s.settings js t.root before.apart);
          made = rw (moved_imports s l, ← t.lowers) (bound_made text s.settings js t.root before.made);
        }
