-- Demand 3, whole: for any accepted opening, any targets and any list of roots. What a series has come to (`Came`) gives each field of the claim.
--     kept        what is claimed, from what an accepted opening leaves
--     demand3     `Demand3` of specs/Claim
-- Assumes nothing.
use mathlib.Core.Path.{◌≡◌, sym, ap, ◌∙◌}
use mathlib.Core.Bool.{Bool, true, false}
use mathlib.Core.List.{List, [], ◌++◌, map}
use Prim.Native.Nat.{ℕ, ◌≤◌, ◌<◌}
use native.Mathlib.Omega.{arith}
use lib.ListN.{length}
use lib.Dec.{eqb}
use borrow.Author.Tests.{le-ltb}
use Rattle.definitions.specs.declared.options.Settings.{Settings}
use Rattle.definitions.specs.declared.records.Import.{Import}
use Rattle.definitions.specs.Judging.{accepted, refuse, refuse_at}
use Rattle.definitions.specs.Tree.{Root}
use Rattle.definitions.specs.Calls.{Command, call_bytes, notice_bytes, read_calls}
use Rattle.definitions.specs.Store.{bound_after, numbered_all}
use Rattle.definitions.specs.Lowering.{is_classic}
use Rattle.definitions.specs.Records.{place_in, Entry}
use Rattle.definitions.specs.States.{live, unrepeated}
use Rattle.definitions.specs.Entries.{records_from, judge_writing, judge_records, records_answer, records_target}
use Rattle.definitions.specs.Series.{World, opening, series, accepted_in, trees_of, calls_so_far, notices_so_far}
use Rattle.definitions.specs.Callees.{callee_named, callees_of_roots, callees_read}
use Rattle.definitions.specs.Opening.{opening_bytes}
use Rattle.definitions.specs.Claim.{mentioned, records_tape, records_so_far, count, is_of, shares, says, Kept, Demand3}
use Rattle.definitions.proofs.ReadBack.{calls_back}
use Rattle.definitions.proofs.Numbering.{imports_of, AllBound, all_bound, bound_after_commands, bound_append, after_grows, numbered_at_last, mention_below, below_mention}
use Rattle.definitions.proofs.Soundness.{imports_records}
use Rattle.definitions.proofs.Verdicts.{sound_parts}
use Rattle.definitions.proofs.Openings.{Opens, opening_opens}
use Rattle.definitions.proofs.TapeEntries.{tape_count}
use Rattle.definitions.proofs.EntryBytes.{tape_bytes}
use Rattle.definitions.proofs.BoundEntries.{entries_for, of_below, of_once, shared_once, more_entries}
use Rattle.definitions.proofs.CalleeTree.{commands_of_roots, all_callees}
use Rattle.definitions.proofs.CalleeRecords.{callees_read_back}
use Rattle.definitions.proofs.RootSeries.{notices_of_roots, commands_roots, calls_of_all_roots, notices_of_all_roots, calls_roots, later_notices, Came, opened}
use Rattle.definitions.proofs.RootSeries.{refused_same, came, series_append}

-- ---- a series that has come to the commands of some roots

module _ (text : List ℕ) (s : Settings) (w : World) (rs : List Root) (c : Came text s w rs) where
  abbrev commands : List (Command Import)
  commands = commands_of_roots text s rs

  -- what is bound
  abbrev things : List Import
  things = bound_after [] commands

  calls_are : read_calls (calls_so_far w) ≡ numbered_all [] commands
  calls_are = ap read_calls c.calls ∙ calls_back (numbered_all [] commands)

  calls_whole : call_bytes (read_calls (calls_so_far w)) ≡ calls_so_far w
  calls_whole = ap call_bytes calls_are ∙ sym c.calls

  -- the records are those of the things bound
  records_are : (p : Entry → Bool) → count p (records_so_far w) ≡ count p (entries_for (place_in s.mode) 0 things)
  records_are p = rw (c.settings, c.recs) (tape_count p s.mode (records_from 0 things))

  one : (b : ℕ) → 0 < count (eqb b) (mentioned w) → count (is_of b) (records_so_far w) ≡ 1
  one b h =
      let l : b < length things = mention_below b [] commands (rw calls_are at h) in
      records_are (is_of b) ∙ of_once b (place_in s.mode) 0 things (omega arith) (omega arith)

  each : (b : ℕ) → 0 < count (is_of b) (records_so_far w) → 0 < count (eqb b) (mentioned w)
  each b h =
      let l = of_below b (place_in s.mode) 0 things (rw (records_are (is_of b)) at h) in
      rw calls_are (below_mention b [] commands (omega arith) (omega (arith, l.1)))

  things_apart : unrepeated [] things ≡ true
  things_apart = rw (c.recs, imports_records 0 things) at (sound_parts text w.state c.bore).apart

  shared : (e : Entry) → count (shares e) (records_so_far w) ≤ 1
  shared e = rw (records_are (shares e)) (shared_once e (place_in s.mode) 0 things things_apart)

  callees_are : is_classic s.mode ≡ false
      → callees_read (records_so_far w) (read_calls (calls_so_far w)) ≡ map callee_named (callees_of_roots text s.options.flags.development rs)
  callees_are e =
      let b : AllBound things (imports_of commands) = rw (bound_after_commands [] commands) (all_bound [] (imports_of commands)) in
      rw (calls_are, numbered_at_last [] commands)
      (callees_read_back (place_in s.mode) things (records_so_far w) records_are commands b ∙ all_callees text s e rs)

  -- the records are written where there is space
  writes : {notice_room : ℕ} → Opens text s notice_room → (room : ℕ) → length (records_tape w) ≤ room → judge_records text w.state room ≡ accepted (records_tape w)
  unfolding judge_records judge_writing refuse refuse_at
  writes o room h = rw (o.short, o.well_formed, c.bore, le-ltb room (length (records_tape w)) h)

-- ---- and what comes later

module _ (text : List ℕ) (s : Settings) (w w' : World) (rs ts : List Root) (c : Came text s w rs) (d : Came text s w' (rs ++ ts)) where
  abbrev bound_then : List Import
  bound_then = bound_after [] (commands_of_roots text s rs)

  calls_later : (rest : List ℕ) × (calls_so_far w' ≡ calls_so_far w ++ rest)
  calls_later = (call_bytes (numbered_all bound_then (commands_of_roots text s ts)), d.calls ∙ calls_roots text s rs ts ∙ rw c.calls)

  notices_later : (rest : List ℕ) × (notices_so_far w' ≡ notices_so_far w ++ rest)
  notices_later = (notice_bytes (notices_of_roots text s ts), d.notices ∙ sym (later_notices text s rs ts) ∙ rw c.notices)

  records_later : (p : Entry → Bool) → count p (records_so_far w) ≤ count p (records_so_far w')
  records_later p =
      let g = after_grows bound_then (commands_of_roots text s ts) in
      let e : bound_after [] (commands_of_roots text s (rs ++ ts)) ≡ bound_then ++ g.0 =
      rw (commands_roots text s rs ts, bound_append [] (commands_of_roots text s rs) (commands_of_roots text s ts)) g.1 in
      rw (records_are text s w rs c p, records_are text s w' (rs ++ ts) d p, e) (more_entries p (place_in s.mode) 0 bound_then g.0)

-- ---- the claim

pub kept : (text : List ℕ) (s : Settings) (calls notices : List ℕ) → Opens text s (length notices) → (roots : List (List ℕ)) → Kept text s calls notices roots
unfolding records_answer records_target
kept text s calls notices o roots =
    record {
      calls_determined = c.calls ∙ sym (calls_of_all_roots text s [] rs);
      notices_determined = c.notices ∙ ap (◌++◌ (opening_bytes text s)) (sym (notices_of_all_roots text s [] rs));
      calls_read = calls_whole text s w rs c;
      records_read = tape_bytes w.state.settings.mode (live w.state);
      written_records = λ target h.
          let j = writes text s w rs c o (length target) h in
          (ap records_answer j, ap (records_target target) j);
      one_record = one text s w rs c;
      each_mentioned = each text s w rs c;
      none_shared = shared text s w rs c;
      calls_begin = λ more.
          rw (series_append text start roots more) (calls_later text s w (series text w more) rs (later_trees more) c (later more));
      notices_begin = λ more.
          rw (series_append text start roots more) (notices_later text s w (series text w more) rs (later_trees more) c (later more));
      records_stay = λ more e.
          rw (series_append text start roots more) (records_later text s w (series text w more) rs (later_trees more) c (later more) (says e));
      callees = callees_are text s w rs c;
      refused_leaves = λ tape r h. refused_same text w tape r h;
    }
  where
    start : World
    start = opening text s calls notices

    w : World
    w = series text start roots

    rs : List Root
    rs = trees_of text (accepted_in text start roots)

    c : Came text s w rs
    c = came text s start [] roots (opened text s calls notices o.bore o.fits)

    later_trees : List (List ℕ) → List Root
    later_trees more = trees_of text (accepted_in text w more)

    later : (more : List (List ℕ)) → Came text s (series text w more) (rs ++ later_trees more)
    later more = came text s w rs more c

pub demand3 : Demand3
demand3 text job s calls notices e roots = kept text s calls notices (opening_opens text job (length notices) s e) roots
