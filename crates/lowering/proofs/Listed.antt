-- Lists of roots (`roots_in` of specs/RootLists) as the loop over them goes: what is ahead at a place, and what is left of a series of roots there.
--     cut_length, ahead_by                    what is ahead, by the code's tests
--     one_more                                what a root's outcome makes of a world
--     Left, left_all, left_root, left_end     the series from a place of the list on
--     Row, row_all, row_end, row_refused, row_root     the same up to the first root that is refused
--     list_long, list_ill, list_forged, list_going, list_tested     text and state before the roots, by the code's tests
--     run_is                                  what a run comes to; what it leaves is a series of roots
-- Assumes nothing.
use Rattle.std.specs.List.{IsSplitAt}
use Rattle.std.specs.Prelude.{MatchOption, Err, None, Ok, Option, Result, Some, ⊤}
use mathlib.Core.Path.{◌≡◌, refl, sym, ap, subst, ◌∙◌}
use mathlib.Core.Bool.{Bool, true, false, not, ◌||◌}
use mathlib.Core.List.{List, [], ◌∷◌}
use Prim.Native.Nat.{ℕ, zero, suc, ◌+◌, ◌-◌, ◌≤◌, ◌<◌}
use native.Mathlib.Omega.{arith}
use native.Mathlib.Nat.{add-zero}
use lib.ListN.{length, take, drop, get_or, length-drop}
use borrow.Author.Tests.{lt-ltb, le-ltb}
use Rattle.text.proofs.Lists.{drop_one}
use Rattle.tape.specs.Numbers.{u16_at}
use Rattle.text.specs.Utf8.{first_ill}
use Rattle.tape.specs.declared.refusal.Refusal.{Refusal}
use Rattle.tape.specs.declared.refusal.Refusal.TheVariants as refusal
use Rattle.definitions.specs.declared.state.State.{State}
use Rattle.definitions.specs.declared.state.Stepped.{Stepped}
use Rattle.definitions.specs.Judging.{Judged, accepted, refuse, refuse_at}
use Rattle.definitions.specs.States.{sound, overfilled}
use Rattle.definitions.specs.Series.{World, opening, outcome_in, next, series}
use Rattle.definitions.specs.declared.options.Settings.{Settings}
use Rattle.definitions.specs.Opening.{judge_opening}
use Rattle.definitions.specs.Claim.{Kept}
use Rattle.definitions.proofs.RootSeries.{refused_same}
use Rattle.definitions.proofs.Demand3.{demand3}
use Rattle.lowering.specs.declared.series.Listed.{Listed}
use Rattle.lowering.specs.Steps.{Going}
use Rattle.lowering.specs.RootLists.{roots_from, roots_in, roots_by, Run, run_by, run_of, list_bytes, ending, run_tested, judge_list, judged_run, run, ran, Ahead, Stands}
use Rattle.lowering.proofs.Judging.{unforged}

-- ---- what is ahead

short : (l : List ℕ) (most : ℕ) → length l < 2 → roots_from (suc most) l ≡ []
unfolding roots_from
short [] most h = refl
short (a ∷ []) most h = refl
short (a ∷ b ∷ l) most h = absurd (omega arith)

pub cut_length : (l : List ℕ) → length l < 2 → (most : ℕ) → roots_from (suc most) l ≡ roots_by most None
unfolding roots_by
cut_length l h most = short l most h

module _ (l : List ℕ) (h : 2 ≤ length l) where
  two : l ≡ get_or l 0 0 ∷ get_or l 1 0 ∷ drop 2 l
  two = drop_one l 0 (omega arith) ∙ ap (λ (u : List ℕ). get_or l 0 0 ∷ u) (drop_one l 1 (omega arith))

  cut_root : (n : ℕ) → n ≡ u16_at l 0 → length l - 2 < n → (most : ℕ) → roots_from (suc most) l ≡ roots_by most None
  unfolding roots_from roots_by
  cut_root n e k most = rw (two, ← e, lt-ltb (length (drop 2 l)) n (omega (arith, length-drop 2 l)))

  whole : (n : ℕ) (r : Ahead) → n ≡ u16_at l 0 → n ≤ length l - 2 → r.0.now ≡ take n (drop 2 l) → r.1.now ≡ drop n (drop 2 l) → (most : ℕ)
      → roots_from (suc most) l ≡ roots_by most (Some r)
  unfolding roots_from roots_by
  whole n r e k f g most = rw (two, ← e, le-ltb (length (drop 2 l)) n (omega (arith, length-drop 2 l)), f, g)

-- by a split of what follows the length
pub ahead_by : (l t : List ℕ) (n : ℕ) → 2 ≤ length l → t ≡ drop 2 l → n ≡ u16_at l 0 → (r : Option Ahead)
    → MatchOption r (length t < n) (λ p. IsSplitAt t n p.0.now p.1.now) → (most : ℕ) → roots_from (suc most) l ≡ roots_by most r
ahead_by l t n h e k None m most = cut_root l h n k (omega (arith, m, ap length e, length-drop 2 l)) most
ahead_by l t n h e k (Some p) m most =
    whole l h n p k (omega (arith, m.0, ap length e, length-drop 2 l)) (m.1 ∙ ap (λ (x : List ℕ). take n x) e) (m.2 ∙ ap (λ (x : List ℕ). drop n x) e) most

-- ---- a root more

pub one_more : (text : List ℕ) (w : World) (root : List ℕ) {t : Stepped} {calls notices : List ℕ}
    → t ≡ (outcome_in text w root).stepped → calls ≡ (outcome_in text w root).calls → notices ≡ (outcome_in text w root).notices
    → record { state = t.state; calls = calls; notices = notices } ≡ next text w root
one_more text w root e f g = λ ι. record { state = (e ι).state; calls = f ι; notices = g ι }

-- ---- what is left

-- from the rest of the list on, in a world, the series comes to what it comes to from its beginning
pub record Left (text l : List ℕ) (begun : World) (rest : List ℕ) (w : World) : Type 0 where
  pub most : ℕ
  pub enough : length rest ≤ most
  pub same : series text begun (roots_in l) ≡ series text w (roots_from most rest)

pub left_all : (text l : List ℕ) (w : World) → Left text l w l w
unfolding roots_in
left_all text l w = record { most = length l; enough = omega arith; same = refl }

module _ {text l : List ℕ} {begun : World} {rest : List ℕ} {w : World} (left : Left text l begun rest w) {r : Option Ahead}
    (ahead : (most : ℕ) → roots_from (suc most) rest ≡ roots_by most r) where
  pub left_end : r ≡ None → series text begun (roots_in l) ≡ w
  unfolding roots_from roots_by series
  left_end e = left.same ∙ go left.most
    where
      go : (most : ℕ) → series text w (roots_from most rest) ≡ w
      go zero = refl
      go (suc most) = rw (ahead most, e)

  pub left_root : {x : Ahead} {w' : World} → r ≡ Some x → Stands rest r → w' ≡ next text w x.0.now → Left text l begun x.1.now w'
  unfolding roots_by series
  left_root {x} {w'} f stands step =
      subst (λ (y : World). Left text l begun x.1.now y) (sym step) (go left.most left.enough left.same (rw f at stands))
    where
      go : (most : ℕ) → length rest ≤ most → series text begun (roots_in l) ≡ series text w (roots_from most rest) → Stands rest (Some x)
          → Left text l begun x.1.now (next text w x.0.now)
      go zero n s h = absurd (omega arith)
      go (suc most) n s h =
          record { most = most; enough = omega arith; same = s ∙ ap (series text w) (ahead most ∙ ap (roots_by most) f) }

-- ---- up to the first root that is refused

-- the run that n accepted roots begin
abbrev pub behind : ℕ → Run → Run
behind n r = record { answer = r.answer; world = r.world; taken = n + r.taken }

-- from the rest of the list on, behind n roots and in a world, the run is what it is from its beginning
pub record Row (text l : List ℕ) (begun : World) (rest : List ℕ) (n : ℕ) (w : World) : Type 0 where
  pub counted : n + length rest ≤ length l
  pub most : ℕ
  pub enough : length rest ≤ most
  pub whole : length l + list_bytes (roots_from most rest) ≡ length rest + list_bytes (roots_in l)
  pub same : run_tested text begun l ≡ behind n (run_of text w (ending (length l) (list_bytes (roots_in l))) (roots_from most rest))

pub row_all : (text l : List ℕ) (w : World) → Row text l w l 0 w
unfolding roots_in run_tested
row_all text l w =
    let e = ending (length l) (list_bytes (roots_in l)) in
    let z : 0 + (run_of text w e (roots_from (length l) l)).taken ≡ (run_of text w e (roots_from (length l) l)).taken = omega arith in
    record {
      counted = omega arith;
      most = length l;
      enough = omega arith;
      whole = refl;
      same = sym (λ ι. record { answer = (run_of text w e (roots_from (length l) l)).answer; world = (run_of text w e (roots_from (length l) l)).world; taken = z ι });
    }

module _ {text l : List ℕ} {begun : World} {rest : List ℕ} {n : ℕ} {w : World} (row : Row text l begun rest n w) {r : Option Ahead}
    (ahead : (most : ℕ) → roots_from (suc most) rest ≡ roots_by most r) where
  pub row_end : r ≡ None → run_tested text begun l ≡ record { answer = ending (length l) (length l - length rest); world = w; taken = n }
  unfolding roots_from roots_by run_of list_bytes
  row_end e = row.same ∙ go row.most row.whole
    where
      go : (most : ℕ) → length l + list_bytes (roots_from most rest) ≡ length rest + list_bytes (roots_in l)
          → behind n (run_of text w (ending (length l) (list_bytes (roots_in l))) (roots_from most rest))
          ≡ record { answer = ending (length l) (length l - length rest); world = w; taken = n }
      go zero h =
          let k : list_bytes (roots_in l) ≡ length l - length rest = omega (arith, h, row.counted) in
          λ ι. record { answer = ending (length l) (k ι); world = w; taken = add-zero n ι }
      go (suc most) h =
          let q : roots_from (suc most) rest ≡ [] = ahead most ∙ ap (roots_by most) e in
          let b : list_bytes (roots_from (suc most) rest) ≡ 0 = ap list_bytes q in
          let k : list_bytes (roots_in l) ≡ length l - length rest = omega (arith, h, b, row.counted) in
          ap (λ (x : List (List ℕ)). behind n (run_of text w (ending (length l) (list_bytes (roots_in l))) x)) q
          ∙ λ ι. record { answer = ending (length l) (k ι); world = w; taken = add-zero n ι }

  module _ {x : Ahead} (f : r ≡ Some x) (stands : Stands rest r) where
    here : Stands rest (Some x)
    here = rw f at stands

    ahead_root : (most : ℕ) → roots_from (suc most) rest ≡ x.0.now ∷ roots_from most x.1.now
    unfolding roots_by
    ahead_root most = ahead most ∙ ap (roots_by most) f

    -- the run over the root that is ahead
    over : (most : ℕ) → behind n (run_of text w (ending (length l) (list_bytes (roots_in l))) (roots_from (suc most) rest))
        ≡ behind n
        (run_by (outcome_in text w x.0.now).stepped.answer w
        (run_of text (next text w x.0.now) (ending (length l) (list_bytes (roots_in l))) (roots_from most x.1.now)))
    unfolding run_of
    over most = ap (λ (y : List (List ℕ)). behind n (run_of text w (ending (length l) (list_bytes (roots_in l))) y)) (ahead_root most)

    pub row_refused : {z : Refusal} {w' : World} → (outcome_in text w x.0.now).stepped.answer ≡ Err z
        → w' ≡ next text w x.0.now → run_tested text begun l ≡ record { answer = Err z; world = w'; taken = n }
    unfolding run_by
    row_refused {z} {w'} g step =
        row.same ∙ go row.most row.enough
        ∙ sym (ap (λ (v : World). record { answer = Err z; world = v; taken = n }) (step ∙ refused_same text w x.0.now z g))
      where
        go : (most : ℕ) → length rest ≤ most
            → behind n (run_of text w (ending (length l) (list_bytes (roots_in l))) (roots_from most rest)) ≡ record { answer = Err z; world = w; taken = n }
        go zero h = absurd (omega (arith, here))
        go (suc most) h =
            over most
            ∙ ap
            (λ (y : Result ⊤ Refusal). behind n (run_by y w (run_of text (next text w x.0.now) (ending (length l) (list_bytes (roots_in l))) (roots_from most x.1.now))))
            g
            ∙ λ ι. record { answer = Err z; world = w; taken = add-zero n ι }

    pub row_root : {w' : World} → (outcome_in text w x.0.now).stepped.answer ≡ Ok tt → w' ≡ next text w x.0.now
        → Row text l begun x.1.now (n + 1) w'
    unfolding run_by list_bytes
    row_root {w'} g step = subst (λ (y : World). Row text l begun x.1.now (n + 1) y) (sym step) (go row.most row.enough row.whole row.same)
      where
        go : (most : ℕ) → length rest ≤ most → length l + list_bytes (roots_from most rest) ≡ length rest + list_bytes (roots_in l)
            → run_tested text begun l ≡ behind n (run_of text w (ending (length l) (list_bytes (roots_in l))) (roots_from most rest))
            → Row text l begun x.1.now (n + 1) (next text w x.0.now)
        go zero h b q = absurd (omega (arith, here))
        go (suc most) h b q =
            let after = run_of text (next text w x.0.now) (ending (length l) (list_bytes (roots_in l))) (roots_from most x.1.now) in
            let bytes : list_bytes (roots_from (suc most) rest) ≡ 2 + length x.0.now + list_bytes (roots_from most x.1.now) = ap list_bytes (ahead_root most) in
            let count : n + suc after.taken ≡ n + 1 + after.taken = omega arith in
            record {
              counted = omega (arith, here, row.counted);
              most = most;
              enough = omega (arith, here);
              whole = omega (arith, here, b, bytes);
              same = q ∙ over most ∙ ap (λ (y : Result ⊤ Refusal). behind n (run_by y w after)) g ∙ λ ι. record { answer = after.answer; world = after.world; taken = count ι };
            }

-- what a run leaves is a series of the roots that it took
run_series : (text : List ℕ) (w : World) (end : Result ⊤ Refusal) (roots : List (List ℕ))
    → (run_of text w end roots).world ≡ series text w (take (run_of text w end roots).taken roots)
unfolding run_of run_by series
run_series text w end [] = refl
run_series text w end (t ∷ ts) = go (outcome_in text w t).stepped.answer (run_series text (next text w t) end ts)
  where
    go : (a : Result ⊤ Refusal) → (run_of text (next text w t) end ts).world ≡ series text (next text w t) (take (run_of text (next text w t) end ts).taken ts)
        → (run_by a w (run_of text (next text w t) end ts)).world ≡ series text w (take (run_by a w (run_of text (next text w t) end ts)).taken (t ∷ ts))
    go (Ok tt) h = h
    go (Err x) h = refl

-- ---- text and state before the roots

abbrev pub begun : State → List ℕ → List ℕ → World
begun s calls notices = record { state = s; calls = calls; notices = notices }

-- what is left is a series of the roots that were taken, refused before them or not
abbrev Leaves : List ℕ → World → List (List ℕ) → Run → Type 0
Leaves text w roots r = r.world ≡ series text w (take r.taken roots)

module _ (text : List ℕ) (w : World) (roots : List (List ℕ)) where
  leaves_refuse : (b : Bool) (x : Refusal) (j : Judged Run) → Leaves text w roots (judged_run w j) → Leaves text w roots (judged_run w (refuse b x j))
  unfolding refuse judged_run series
  leaves_refuse true x j h = refl
  leaves_refuse false x j h = h

  leaves_refuse_at : (f : Option ℕ) (x : ℕ → Refusal) (j : Judged Run) → Leaves text w roots (judged_run w j) → Leaves text w roots (judged_run w (refuse_at f x j))
  unfolding refuse_at judged_run series
  leaves_refuse_at (Some p) x j h = refl
  leaves_refuse_at None x j h = h

pub run_leaves : (text : List ℕ) (w : World) (l : List ℕ) → Leaves text w (roots_in l) (run text w l)
unfolding run judge_list run_tested judged_run
run_leaves text w l =
    leaves_refuse text w (roots_in l) _ _ _
    (leaves_refuse_at text w (roots_in l) _ _ _
    (leaves_refuse text w (roots_in l) _ _ _ (run_series text w (ending (length l) (list_bytes (roots_in l))) (roots_in l))))

-- by the code's tests
module _ (text : List ℕ) (s : State) (calls notices l : List ℕ) where
  pub list_long : {r : Listed} → 65535 < length text → r ≡ record { answer = Err refusal.TooLong; state = s; taken = 0 }
      → ran r calls notices ≡ run text (begun s calls notices) l
  unfolding run judge_list judged_run refuse
  list_long h e = rw (e, lt-ltb 65535 (length text) h)

  pub list_ill : {r : Listed} (p : ℕ) → length text ≤ 65535 → first_ill text ≡ Some p → r ≡ record { answer = Err (refusal.NotUtf8 p); state = s; taken = 0 }
      → ran r calls notices ≡ run text (begun s calls notices) l
  unfolding run judge_list judged_run refuse refuse_at
  list_ill p h f e = rw (e, le-ltb 65535 (length text) h, f)

  module _ (short : length text ≤ 65535) (formed : first_ill text ≡ None) where
    pub list_forged : {r : Listed} → (not (sound text s) || overfilled s (length calls) (length notices)) ≡ true
        → r ≡ record { answer = Err refusal.Forged; state = s; taken = 0 }
        → ran r calls notices ≡ run text (begun s calls notices) l
    unfolding run judge_list judged_run refuse refuse_at
    list_forged f e = rw (e, le-ltb 65535 (length text) short, formed, f)

    module _ (f : (not (sound text s) || overfilled s (length calls) (length notices)) ≡ false) where
      pub list_going : Going text s (length calls) (length notices)
      list_going =
          let u = unforged text s [] calls notices (record { short = short; tape_short = omega arith; formed = formed }) f in
          record { short = short; formed = formed; bore = u.bore; calls_within = u.calls_within; notices_within = u.notices_within }

      pub list_tested : {r : Listed} {calls' notices' : List ℕ} → ran r calls' notices' ≡ run_tested text (begun s calls notices) l
          → ran r calls' notices' ≡ run text (begun s calls notices) l
      unfolding run judge_list judged_run refuse refuse_at
      list_tested e = rw (le-ltb 65535 (length text) short, formed, f) e

-- a run's parts, and demand 3 of the roots that it took
pub run_is : (text l : List ℕ) (s : State) (calls notices : List ℕ) {r : Listed} {calls' notices' : List ℕ}
    → ran r calls' notices' ≡ run text (begun s calls notices) l
    → (r.answer ≡ (run text (begun s calls notices) l).answer)
    × (r.taken ≡ (run text (begun s calls notices) l).taken)
    × (begun r.state calls' notices' ≡ (run text (begun s calls notices) l).world)
    × (begun r.state calls' notices' ≡ series text (begun s calls notices) (take r.taken (roots_in l)))
    × ((job : List ℕ) (z : Settings) (target : List ℕ) → judge_opening text job (length target) ≡ accepted z
    → begun s calls notices ≡ opening text z calls target → Kept text z calls target (take r.taken (roots_in l)))
run_is text l s calls notices {r} e =
    let w = begun s calls notices in
    let t : r.taken ≡ (run text w l).taken = ap (λ (x : Run). x.taken) e in
    let v = ap (λ (x : Run). x.world) e in (
      ap (λ (x : Run). x.answer) e,
      t,
      v,
      v ∙ run_leaves text w l ∙ ap (λ (k : ℕ). series text w (take k (roots_in l))) (sym t),
      λ job z target h q. demand3 text job z calls target h (take r.taken (roots_in l)),
    )
