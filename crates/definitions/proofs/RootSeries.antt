-- What a series of roots has come to, said by the trees of the accepted roots alone: one list of commands, numbered from none, and one list of notices.
--     calls_of_all_roots, notices_of_all_roots     each root's calls in turn are the calls of all commands
--     Came, opened                     what a series has come to, and what it comes from
--     came                             every series from a sound state comes to that
--     series_append                    a longer list of roots
-- Assumes nothing.
use Rattle.std.specs.Prelude.{Err, Ok, Result, ⊤}
use mathlib.Core.Path.{◌≡◌, refl, sym, ap, subst, ◌∙◌}
use mathlib.Core.Bool.{true}
use mathlib.Core.List.{List, [], ◌∷◌, ◌++◌, append-nil, append_assoc}
use Prim.Native.Nat.{ℕ, ◌+◌, ◌≤◌}
use native.Mathlib.Omega.{arith}
use lib.ListN.{length, take}
use Rattle.tape.specs.declared.refusal.Refusal.{Refusal}
use Rattle.definitions.specs.declared.options.Settings.{Settings}
use Rattle.definitions.specs.declared.records.Import.{Import}
use Rattle.definitions.specs.Judging.{Judged, accepted, refused}
use Rattle.definitions.specs.Tree.{Root}
use Rattle.definitions.specs.Reading.{read_root}
use Rattle.definitions.specs.Calls.{Command, bytes_of, call_bytes, Notice, notice_bytes}
use Rattle.definitions.specs.Store.{bound_after, numbered_all}
use Rattle.definitions.specs.Lowering.{lower_root, commands_of, notices_of}
use Rattle.definitions.specs.States.{live, imports, sound}
use Rattle.definitions.specs.Opening.{opening_bytes}
use Rattle.definitions.specs.Entries.{laid, open_state, Lowered, lowered_after, judge_root, records_from, moved, outcome_by, root_outcome}
use Rattle.definitions.specs.Series.{World, opening, outcome_in, next, series, if_accepted, accepted_in, tree_of, trees_of, calls_of_all, notices_of_all, calls_so_far, notices_so_far}
use Rattle.definitions.proofs.Numbering.{bound_append, numbered_append}
use Rattle.definitions.proofs.Soundness.{imports_records}
use Rattle.definitions.proofs.Verdicts.{length_laid, take_laid, Taken, root_taken}
use Rattle.definitions.proofs.Moving.{moved_live, root_sound}
use Rattle.definitions.proofs.OpeningNotices.{notice_append}
use Rattle.definitions.proofs.CalleeTree.{commands_of_roots}

-- ---- the commands and the notices of roots

unfoldable pub notices_of_roots : List ℕ → Settings → List Root → List Notice
notices_of_roots text s [] = []
notices_of_roots text s (r ∷ rs) = notices_of (lower_root text s r) ++ notices_of_roots text s rs

bytes_append : (cs ds : List (Command ℕ)) → call_bytes (cs ++ ds) ≡ call_bytes cs ++ call_bytes ds
unfolding call_bytes
bytes_append [] ds = refl
bytes_append (c ∷ cs) ds = rw (bytes_append cs ds) (sym (append_assoc (bytes_of c) (call_bytes cs) (call_bytes ds)))

module _ (text : List ℕ) (s : Settings) where
  pub commands_roots : (rs ts : List Root) → commands_of_roots text s (rs ++ ts) ≡ commands_of_roots text s rs ++ commands_of_roots text s ts
  unfolding commands_of_roots
  commands_roots [] ts = refl
  commands_roots (r ∷ rs) ts =
      rw (commands_roots rs ts) (sym (append_assoc (commands_of (lower_root text s r)) (commands_of_roots text s rs) (commands_of_roots text s ts)))

  pub notices_roots : (rs ts : List Root) → notices_of_roots text s (rs ++ ts) ≡ notices_of_roots text s rs ++ notices_of_roots text s ts
  unfolding notices_of_roots
  notices_roots [] ts = refl
  notices_roots (r ∷ rs) ts =
      rw (notices_roots rs ts) (sym (append_assoc (notices_of (lower_root text s r)) (notices_of_roots text s rs) (notices_of_roots text s ts)))

  pub calls_of_all_roots : (js : List Import) (rs : List Root) → calls_of_all text s js rs ≡ call_bytes (numbered_all js (commands_of_roots text s rs))
  unfolding calls_of_all commands_of_roots lowered_after numbered_all call_bytes
  calls_of_all_roots js [] = refl
  calls_of_all_roots js (r ∷ rs) =
      let cs = commands_of (lower_root text s r) in
      let ds = commands_of_roots text s rs in
      ap (λ (l : List ℕ). call_bytes (numbered_all js cs) ++ l) (calls_of_all_roots (bound_after js cs) rs)
      ∙ sym (bytes_append (numbered_all js cs) (numbered_all (bound_after js cs) ds))
      ∙ ap call_bytes (sym (numbered_append js cs ds))

  pub notices_of_all_roots : (js : List Import) (rs : List Root) → notices_of_all text s js rs ≡ notice_bytes (notices_of_roots text s rs)
  unfolding notices_of_all notices_of_roots lowered_after notice_bytes
  notices_of_all_roots js [] = refl
  notices_of_all_roots js (r ∷ rs) =
      rw (notices_of_all_roots (bound_after js (commands_of (lower_root text s r))) rs)
      (sym (notice_append (notices_of (lower_root text s r)) (notices_of_roots text s rs)))

  -- calls and notices of roots that follow others
  pub calls_roots : (rs ts : List Root)
      → call_bytes (numbered_all [] (commands_of_roots text s (rs ++ ts)))
      ≡ call_bytes (numbered_all [] (commands_of_roots text s rs))
      ++ call_bytes (numbered_all (bound_after [] (commands_of_roots text s rs)) (commands_of_roots text s ts))
  calls_roots rs ts =
      let cs = commands_of_roots text s rs in
      let ds = commands_of_roots text s ts in
      rw (commands_roots rs ts, numbered_append [] cs ds) (bytes_append (numbered_all [] cs) (numbered_all (bound_after [] cs) ds))

  pub notice_roots : (rs ts : List Root)
      → notice_bytes (notices_of_roots text s (rs ++ ts)) ≡ notice_bytes (notices_of_roots text s rs) ++ notice_bytes (notices_of_roots text s ts)
  notice_roots rs ts = rw (notices_roots rs ts) (notice_append (notices_of_roots text s rs) (notices_of_roots text s ts))

  -- behind the opening's
  pub later_notices : (rs ts : List Root)
      → (opening_bytes text s ++ notice_bytes (notices_of_roots text s rs)) ++ notice_bytes (notices_of_roots text s ts)
      ≡ opening_bytes text s ++ notice_bytes (notices_of_roots text s (rs ++ ts))
  later_notices rs ts =
      append_assoc (opening_bytes text s) (notice_bytes (notices_of_roots text s rs)) (notice_bytes (notices_of_roots text s ts))
      ∙ ap (◌++◌ (opening_bytes text s)) (sym (notice_roots rs ts))

-- ---- what a series has come to

pub record Came (text : List ℕ) (s : Settings) (w : World) (rs : List Root) : Type 0 where
  pub settings : w.state.settings ≡ s
  pub bore : sound text w.state ≡ true
  pub calls_within : w.state.calls ≤ length w.calls
  pub notices_within : w.state.notices ≤ length w.notices
  pub recs : live w.state ≡ records_from 0 (bound_after [] (commands_of_roots text s rs))
  pub calls : calls_so_far w ≡ call_bytes (numbered_all [] (commands_of_roots text s rs))
  pub notices : notices_so_far w ≡ opening_bytes text s ++ notice_bytes (notices_of_roots text s rs)

-- what stands at the front of a target behind bytes laid there
pub front_laid : (bs target : List ℕ) → length bs ≤ length target → take (length bs) (laid 0 bs target) ≡ bs
front_laid bs target h =
    let z : length bs ≡ 0 + length bs = omega arith in
    ap (λ (k : ℕ). take k (laid 0 bs target)) z ∙ take_laid 0 bs target (omega arith)

pub opened : (text : List ℕ) (s : Settings) (calls notices : List ℕ) → sound text (open_state text s) ≡ true → length (opening_bytes text s) ≤ length notices
    → Came text s (opening text s calls notices) []
unfolding commands_of_roots notices_of_roots bound_after numbered_all call_bytes notice_bytes records_from
opened text s calls notices h fits =
    record {
      settings = refl;
      bore = h;
      calls_within = omega arith;
      notices_within = rw (length_laid 0 (opening_bytes text s) notices (omega arith)) fits;
      recs = refl;
      calls = refl;
      notices = front_laid (opening_bytes text s) notices fits ∙ sym (append-nil (opening_bytes text s));
    }

-- ---- one root

-- what a root leaves, by its judgement
abbrev left : World → Judged Lowered → World
left w j =
    record {
      state = (outcome_by w.state w.calls w.notices j).stepped.state;
      calls = (outcome_by w.state w.calls w.notices j).calls;
      notices = (outcome_by w.state w.calls w.notices j).notices;
    }

abbrev judged : List ℕ → World → List ℕ → Judged Lowered
judged text w tape = judge_root text w.state tape (length w.calls) (length w.notices)

module _ (text : List ℕ) (w : World) (tape : List ℕ) where
  left_by : (j : Judged Lowered) → judged text w tape ≡ j → next text w tape ≡ left w j
  unfolding root_outcome
  left_by j e = ap (left w) e

  when_accepted : (outcome_in text w tape).stepped.answer ≡ Ok tt → (l : Lowered) × (judged text w tape ≡ accepted l)
  unfolding root_outcome outcome_by
  when_accepted e = go (judged text w tape) e
    where
      go : (j : Judged Lowered) → (outcome_by w.state w.calls w.notices j).stepped.answer ≡ Ok tt → (l : Lowered) × (j ≡ accepted l)
      go (accepted l) e = (l, refl)
      go (refused r) e = let z : ◌≡◌ {A = ℕ} 0 1 = cc in absurd (omega arith)

  -- a root that is refused changes nothing
  pub refused_same : (r : Refusal) → (outcome_in text w tape).stepped.answer ≡ Err r → next text w tape ≡ w
  unfolding root_outcome outcome_by
  refused_same r e = go (judged text w tape) e
    where
      go : (j : Judged Lowered) → (outcome_by w.state w.calls w.notices j).stepped.answer ≡ Err r → left w j ≡ w
      go (accepted l) e = let z : ◌≡◌ {A = ℕ} 0 1 = cc in absurd (omega arith)
      go (refused q) e = refl

-- an accepted root
module _ (text : List ℕ) (s : Settings) (w : World) (rs : List Root) (tape : List ℕ) (l : Lowered) (c : Came text s w rs)
    (t : Taken text w.state tape (length w.calls) (length w.notices) l) where
  abbrev cs : List (Command Import)
  cs = commands_of_roots text s rs

  abbrev ds : List (Command Import)
  ds = commands_of_roots text s (t.root ∷ [])

  -- what is bound before the root is what the commands before it bind
  lowers : lowered_after text s (bound_after [] cs) t.root ≡ l
  lowers =
      let i : imports (live w.state) ≡ bound_after [] cs = ap imports c.recs ∙ imports_records 0 (bound_after [] cs) in
      sym (λ ι. lowered_after text (c.settings ι) (i ι) t.root) ∙ t.lowers

  one_root : ds ≡ commands_of (lower_root text s t.root)
  unfolding commands_of_roots
  one_root = append-nil (commands_of (lower_root text s t.root))

  l_bound : l.bound ≡ bound_after (bound_after [] cs) ds
  unfolding lowered_after
  l_bound = rw one_root (sym (ap (λ (x : Lowered). x.bound) lowers))

  l_calls : l.calls ≡ call_bytes (numbered_all (bound_after [] cs) ds)
  unfolding lowered_after
  l_calls = rw one_root (sym (ap (λ (x : Lowered). x.calls) lowers))

  l_notices : l.notices ≡ notice_bytes (notices_of_roots text s (t.root ∷ []))
  unfolding lowered_after notices_of_roots
  l_notices = rw (append-nil (notices_of (lower_root text s t.root))) (sym (ap (λ (x : Lowered). x.notices) lowers))

  after_one : sound text (moved w.state l) ≡ true → Came text s (left w (accepted l)) (rs ++ t.root ∷ [])
  unfolding outcome_by moved
  after_one h =
      record {
        settings = c.settings;
        bore = h;
        calls_within = rw (length_laid w.state.calls l.calls w.calls t.calls_fit) t.calls_fit;
        notices_within = rw (length_laid w.state.notices l.notices w.notices t.notices_fit) t.notices_fit;
        recs = moved_live w.state l ∙ rw (l_bound, commands_roots text s rs (t.root ∷ []), bound_append [] cs ds);
        calls =
            take_laid w.state.calls l.calls w.calls t.calls_fit
            ∙ rw (c.calls, l_calls) (sym (calls_roots text s rs (t.root ∷ [])));
        notices =
            take_laid w.state.notices l.notices w.notices t.notices_fit
            ∙ rw (c.notices, l_notices) (later_notices text s rs (t.root ∷ []));
      }

taken : (text : List ℕ) (s : Settings) (w : World) (rs : List Root) (tape : List ℕ) (l : Lowered) → Came text s w rs → judged text w tape ≡ accepted l
    → Came text s (left w (accepted l)) (rs ++ tree_of (read_root text tape))
unfolding tree_of
taken text s w rs tape l c e =
    let t = root_taken text w.state tape (length w.calls) (length w.notices) l e in
    rw t.reads (after_one text s w rs tape l c t (root_sound text w.state tape (length w.calls) (length w.notices) l e))

-- ---- all roots

pub came : (text : List ℕ) (s : Settings) (w : World) (rs : List Root) (roots : List (List ℕ)) → Came text s w rs
    → Came text s (series text w roots) (rs ++ trees_of text (accepted_in text w roots))
unfolding series accepted_in trees_of if_accepted
came text s w rs [] c = rw (append-nil rs) c
came text s w rs (t ∷ roots) c = go (outcome_in text w t).stepped.answer refl (λ us d. came text s (next text w t) us roots d)
  where
    rest : List (List ℕ)
    rest = accepted_in text (next text w t) roots

    go : (v : Result ⊤ Refusal) → (outcome_in text w t).stepped.answer ≡ v
        → ((us : List Root) → Came text s (next text w t) us → Came text s (series text (next text w t) roots) (us ++ trees_of text rest))
        → Came text s (series text (next text w t) roots) (rs ++ trees_of text (if_accepted v t rest))
    go (Ok tt) e ih =
        let j = when_accepted text w t e in
        rw append_assoc at
        (ih (rs ++ tree_of (read_root text t))
        (subst (λ (x : World). Came text s x (rs ++ tree_of (read_root text t))) (sym (left_by text w t (accepted j.0) j.1)) (taken text s w rs t j.0 c j.1)))
    go (Err r) e ih = ih rs (subst (λ (x : World). Came text s x rs) (sym (refused_same text w t r e)) c)

pub series_append : (text : List ℕ) (w : World) (xs ys : List (List ℕ)) → series text w (xs ++ ys) ≡ series text (series text w xs) ys
unfolding series
series_append text w [] ys = refl
series_append text w (x ∷ xs) ys = series_append text (next text w x) xs ys
