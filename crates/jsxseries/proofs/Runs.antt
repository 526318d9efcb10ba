-- The first root of bytes that were read, and what of the targets is printed after a run.
--     first_unread, first_cut, first_root     the first root, by the code's tests
--     left_fits                               roots leave fills within the targets
--     job_fresh                               when a job is opened there are no calls, and its notices lie within their target
--     records_within                          the records lie within their target
-- Assumes nothing.
use Rattle.std.specs.Prelude.{None, Option, Some, Err, Ok, Result, ⊤}
use Rattle.tape.specs.declared.refusal.Refusal.{Refusal}
use mathlib.Core.Path.{◌≡◌, refl, sym, ap, subst, ◌∙◌}
use mathlib.Core.List.{List, [], ◌∷◌}
use Prim.Native.Nat.{ℕ, zero, suc, ◌+◌, ◌-◌, ◌≤◌, ◌<◌}
use native.Mathlib.Omega.{arith}
use lib.ListN.{length, take, drop, get_or, length-drop}
use Rattle.definitions.specs.declared.options.Settings.{Settings}
use Rattle.definitions.specs.declared.state.State.{State}
use Rattle.definitions.specs.declared.state.Stepped.{Stepped}
use Rattle.definitions.specs.Judging.{Judged, accepted, refused}
use Rattle.definitions.specs.Opening.{judge_opening}
use Rattle.definitions.specs.Entries.{opened_by, opened, Lowered, judge_root, moved, outcome_by, root_outcome, judge_records, records_answer}
use Rattle.definitions.specs.Series.{World, outcome_in, next, series}
use Rattle.definitions.proofs.Verdicts.{length_laid, root_taken, records_taken}
use Rattle.definitions.proofs.Openings.{opening_opens}
use Rattle.tape.specs.Numbers.{u16_at}
use borrow.Author.Tests.{lt-ltb, le-ltb}
use Rattle.text.proofs.Lists.{drop_one}
use Rattle.lowering.specs.RootLists.{roots_from, roots_in, roots_by}
use Rattle.lowering.proofs.Listed.{cut_length, one_more}
use Rattle.jsxseries.specs.Running.{world, first_of, Fits}

-- ---- the first root of a list

module _ (text : List ℕ) (w : World) (l : List ℕ) where
  -- what is said of a list's first root, and of the world behind it
  abbrev Takes : Option (Result ⊤ Refusal) → World → Type 0
  Takes f v = (f ≡ first_of text w (roots_in l)) × (v ≡ series text w (take 1 (roots_in l)))

  missing : ((most : ℕ) → roots_from (suc most) l ≡ []) → Takes None w
  unfolding roots_in roots_from first_of series
  missing e = go (length l)
    where
      go : (most : ℕ) → (None ≡ first_of text w (roots_from most l)) × (w ≡ series text w (take 1 (roots_from most l)))
      go zero = (refl, refl)
      go (suc most) = (rw (e most) refl, rw (e most) refl)

  pub first_unread : length l < 2 → Takes None w
  unfolding roots_by
  first_unread h = missing (cut_length l h)

  module _ (h : 2 ≤ length l) (n : ℕ) (e : n ≡ u16_at l 0) where
    two : l ≡ get_or l 0 0 ∷ get_or l 1 0 ∷ drop 2 l
    two = drop_one l 0 (omega arith) ∙ ap (λ (u : List ℕ). get_or l 0 0 ∷ u) (drop_one l 1 (omega arith))

    pub first_cut : length l - 2 < n → Takes None w
    unfolding roots_by roots_from
    first_cut k = missing (λ most. rw (two, ← e, lt-ltb (length (drop 2 l)) n (omega (arith, k, length-drop 2 l))))

    whole : n ≤ length l - 2 → (most : ℕ) → roots_from (suc most) l ≡ take (2 + n - 2) (drop 2 l) ∷ roots_from most (drop n (drop 2 l))
    unfolding roots_from
    whole k most =
        let same : n ≡ 2 + n - 2 = omega arith in
        let read : roots_from (suc most) l ≡ take n (drop 2 l) ∷ roots_from most (drop n (drop 2 l)) =
        rw (two, ← e, le-ltb (length (drop 2 l)) n (omega (arith, length-drop 2 l))) in
        read ∙ ap (λ (m : ℕ). take m (drop 2 l) ∷ roots_from most (drop n (drop 2 l))) same

    pub first_root : n ≤ length l - 2 → {x : Stepped} {cs ns : List ℕ} → x ≡ (outcome_in text w (take (2 + n - 2) (drop 2 l))).stepped
        → cs ≡ (outcome_in text w (take (2 + n - 2) (drop 2 l))).calls → ns ≡ (outcome_in text w (take (2 + n - 2) (drop 2 l))).notices
        → Takes (Some x.answer) (world x.state cs ns)
    unfolding roots_in roots_by first_of series
    first_root k {x} {cs} {ns} p q r = go (length l) h
      where
        root : List ℕ
        root = take (2 + n - 2) (drop 2 l)

        go : (most : ℕ) → 2 ≤ most → (Some x.answer ≡ first_of text w (roots_from most l)) × (world x.state cs ns ≡ series text w (take 1 (roots_from most l)))
        go zero j = absurd (omega arith)
        go (suc most) j = rw (whole k most) (ap (λ (y : Stepped). Some y.answer) p, one_more text w root p q r)

-- ---- fills

next_fits : (text : List ℕ) (w : World) (tape : List ℕ) → Fits w → Fits (next text w tape)
unfolding root_outcome outcome_by moved
next_fits text w tape f = go (judge_root text w.state tape (length w.calls) (length w.notices)) refl
  where
    left : Judged Lowered → World
    left j =
        world (outcome_by w.state w.calls w.notices j).stepped.state (outcome_by w.state w.calls w.notices j).calls
        (outcome_by w.state w.calls w.notices j).notices

    go : (j : Judged Lowered) → judge_root text w.state tape (length w.calls) (length w.notices) ≡ j → Fits (left j)
    go (accepted l) e =
        let t = root_taken text w.state tape (length w.calls) (length w.notices) l e in (
          rw (length_laid w.state.calls l.calls w.calls t.calls_fit) t.calls_fit,
          rw (length_laid w.state.notices l.notices w.notices t.notices_fit) t.notices_fit,
        )
    go (refused r) e = f

series_fits : (text : List ℕ) (w : World) (roots : List (List ℕ)) → Fits w → Fits (series text w roots)
unfolding series
series_fits text w [] f = f
series_fits text w (t ∷ ts) f = series_fits text (next text w t) ts (next_fits text w t f)

pub left_fits : (text : List ℕ) (w : World) (roots : List (List ℕ)) {v : World} → v ≡ series text w roots → Fits w → Fits v
left_fits text w roots e f = subst Fits (sym e) (series_fits text w roots f)

-- ---- opening

pub job_fresh : (job text notices : List ℕ) (x : Stepped) → x ≡ (opened text job notices).stepped
    → (x.state.calls ≡ 0) × (x.state.notices ≤ length notices)
unfolding opened opened_by
job_fresh job text notices x e =
    subst (λ (y : Stepped). (y.state.calls ≡ 0) × (y.state.notices ≤ length notices)) (sym e) (go (judge_opening text job (length notices)) refl)
  where
    go : (j : Judged Settings) → judge_opening text job (length notices) ≡ j
        → ((opened_by text notices j).stepped.state.calls ≡ 0) × ((opened_by text notices j).stepped.state.notices ≤ length notices)
    go (accepted s) q = (refl, (opening_opens text job (length notices) s q).fits)
    go (refused r) q = (refl, omega arith)

-- ---- records

pub records_within : (text : List ℕ) (s : State) (k n : ℕ) (w : Result ℕ Refusal) → w ≡ records_answer (judge_records text s k) → w ≡ Ok n → n ≤ k
unfolding records_answer
records_within text s k n w e f = go (judge_records text s k) refl (sym e ∙ f)
  where
    go : (j : Judged (List ℕ)) → judge_records text s k ≡ j → records_answer j ≡ Ok n → n ≤ k
    go (accepted t) i g = let m : length t ≡ n = cc in omega (arith, records_taken text s k t i, m)
    go (refused r) i g = let z : ◌≡◌ {A = ℕ} 0 1 = cc in absurd (omega arith)
