-- What hosts run is a series of roots (specs, Hosts).
--     held_of, unpacks          a world with its state packed, and back
--     root_held, roots_held  one call over such a world is the roots that it hands over
--     hosted, opening_hosted   and so are any number of calls behind an opening
-- Assumes nothing.
use Rattle.std.specs.Prelude.{Err, Ok, Option, Result, ⊤, unwrap_or, Bool, true, false, cond, not, eqb}
use Rattle.tape.specs.declared.refusal.Refusal.{Refusal}
use mathlib.Core.Path.{◌≡◌, refl, sym, ap, subst, ◌∙◌}
use mathlib.Core.List.{List, [], ◌∷◌, ◌++◌, append-nil}
use Prim.Native.Nat.{ℕ, zero, suc, ◌+◌, ◌≤◌}
use native.Mathlib.Omega.{arith}
use lib.ListN.{length, take, drop, length-append, length-take, length-drop, drop_of_length-le, take-append-drop}
use borrow.Author.Tests.{le-ltb, ne_eqb}
use Rattle.definitions.specs.declared.options.Settings.{Settings}
use Rattle.definitions.specs.declared.state.State.{State}
use Rattle.definitions.specs.declared.state.Stepped.{Stepped}
use Rattle.definitions.specs.Judging.{Judged, accepted, refused}
use Rattle.definitions.specs.Opening.{opening_bytes, judge_opening}
use Rattle.definitions.specs.Entries.{laid, open_state, opened_by, opened, Lowered, judge_root, moved, Outcome, outcome_by, root_outcome}
use Rattle.definitions.specs.Series.{World, opening, outcome_in, next, series}
use Rattle.definitions.proofs.Soundness.{length_records}
use Rattle.definitions.proofs.Verdicts.{root_taken, take_laid}
use Rattle.definitions.proofs.Openings.{Opens, opening_opens}
use Rattle.definitions.proofs.RootSeries.{front_laid, series_append}
use Rattle.definitions.proofs.Demand3.{kept}
use Rattle.lowering.specs.RootLists.{roots_in, Run, run}
use Rattle.lowering.proofs.Listed.{run_leaves}
use Rattle.packing.specs.Packed.{no_state, packed, packed_target}
use Rattle.packing.proofs.Bytes.{packed_length}
use Rattle.packing.proofs.Inverse.{unpacked_packed}
use Rattle.jsxlib.specs.Entries.{state_from, state_after, without_room, kept_state, root_over, run_over}
use Rattle.jsxlib.specs.Hosts.{Step, root, roots, Held, after_root, after_roots, after_step, after_steps, roots_of, roots_of_all, world_of, Served, Begins, Hosted}

-- a state that code can have
abbrev Eight : State → Type 0
Eight s = length s.records ≡ 8

-- a world as a host keeps it
abbrev held_of : World → Held
held_of w = record { state = packed w.state; calls = w.calls; notices = w.notices }

unpacks : (s : State) → Eight s → state_from (packed s) ≡ s
unpacks s e = ap (λ (f : Option State). unwrap_or f no_state) (unpacked_packed s e)

-- a state in the place of another
repacked : (s t : State) → Eight s → Eight t → packed_target t (packed s) ≡ packed t
unfolding packed_target laid
repacked s t es et =
    rw (packed_length s es, packed_length t et)
    (ap (λ (l : List ℕ). packed t ++ l) (drop_of_length-le (packed s) {i = 102} (omega (arith, packed_length s es))) ∙ append-nil (packed t))

-- ---- states keep their eight places

moved_eight : (s : State) (l : Lowered) → length l.bound ≤ 8 → Eight s → Eight (moved s l)
unfolding moved
moved_eight s l h e = simp (length-append, length-drop, length_records) (omega arith)

module _ (text : List ℕ) where
  next_eight : (w : World) (t : List ℕ) → Eight w.state → Eight (next text w t).state
  unfolding root_outcome outcome_by
  next_eight w t e = go (judge_root text w.state t (length w.calls) (length w.notices)) refl
    where
      go : (j : Judged Lowered) → judge_root text w.state t (length w.calls) (length w.notices) ≡ j → Eight (outcome_by w.state w.calls w.notices j).stepped.state
      go (accepted l) q = moved_eight w.state l (root_taken text w.state t _ _ l q).few e
      go (refused r) q = e

  series_eight : (w : World) (ts : List (List ℕ)) → Eight w.state → Eight (series text w ts).state
  unfolding series
  series_eight w [] e = e
  series_eight w (t ∷ ts) e = series_eight (next text w t) ts (next_eight w t e)

  -- ---- one call

  over_root : (w : World) (t : List ℕ) → Eight w.state → root_over text (packed w.state) t w.calls w.notices ≡ outcome_in text w t
  over_root w t e = ap (λ (s : State). root_outcome text s t w.calls w.notices) (unpacks w.state e)

  root_held : (w : World) (t : List ℕ) → Eight w.state → after_root (held_of w) (outcome_in text w t) ≡ held_of (next text w t)
  unfolding root_outcome outcome_by state_after
  root_held w t e = go (judge_root text w.state t (length w.calls) (length w.notices)) refl
    where
      after : Outcome → World
      after o = record { state = o.stepped.state; calls = o.calls; notices = o.notices }

      go : (j : Judged Lowered) → judge_root text w.state t (length w.calls) (length w.notices) ≡ j
          → after_root (held_of w) (outcome_by w.state w.calls w.notices j) ≡ held_of (after (outcome_by w.state w.calls w.notices j))
      go (accepted l) q =
          let p = repacked w.state (moved w.state l) e (moved_eight w.state l (root_taken text w.state t _ _ l q).few e) in
          λ ι. record { state = p ι; calls = laid w.state.calls l.calls w.calls; notices = laid w.state.notices l.notices w.notices }
      go (refused r) q = refl

  over_roots : (w : World) (l : List ℕ) → Eight w.state → run_over text (packed w.state) l w.calls w.notices ≡ run text w l
  over_roots w l e = ap (λ (s : State). run text (record { state = s; calls = w.calls; notices = w.notices }) l) (unpacks w.state e)

  -- the state's bytes behind so many roots
  kept_state_packed : (w v : World) (n : ℕ) (ts : List (List ℕ)) → Eight w.state → v ≡ series text w (take n ts) → kept_state n v.state (packed w.state) ≡ packed v.state
  unfolding kept_state series
  kept_state_packed w v zero ts e q = ap (λ (x : World). packed x.state) (sym q)
  kept_state_packed w v (suc n) ts e q =
      rw (ne_eqb (suc n) 0 (λ h. omega (arith, h)))
      (repacked w.state v.state e (subst (λ (x : World). Eight x.state) (sym q) (series_eight w (take (suc n) ts) e)))

  roots_held : (w : World) (l : List ℕ) → Eight w.state → after_roots (held_of w) (run text w l) ≡ held_of (run text w l).world
  roots_held w l e =
      let r = run text w l in
      let p = kept_state_packed w r.world r.taken (roots_in l) e (run_leaves text w l) in
      λ ι. record { state = p ι; calls = r.world.calls; notices = r.world.notices }

  step_is : (w : World) (c : Step) → Eight w.state → after_step text (held_of w) c ≡ held_of (series text w (roots_of text (held_of w) c))
  unfolding after_step roots_of series
  step_is w (root t) e = ap (after_root (held_of w)) (over_root w t e) ∙ root_held w t e
  step_is w (roots l) e =
      ap (after_roots (held_of w)) (over_roots w l e)
      ∙ roots_held w l e
      ∙ ap held_of (run_leaves text w l)
      ∙ ap (λ (r : Run). held_of (series text w (take r.taken (roots_in l)))) (sym (over_roots w l e))

  -- ---- any number of calls

  steps_are : (w : World) (cs : List Step) → Eight w.state → after_steps text (held_of w) cs ≡ held_of (series text w (roots_of_all text (held_of w) cs))
  unfolding after_steps roots_of_all series
  steps_are w [] e = refl
  steps_are w (c ∷ cs) e =
      let ts = roots_of text (held_of w) c in
      let v = series text w ts in
      let p = step_is w c e in
      ap (λ (h : Held). after_steps text h cs) p
      ∙ steps_are v cs (series_eight w ts e)
      ∙ ap (λ (h : Held). held_of (series text v (roots_of_all text h cs))) (sym p)
      ∙ ap held_of (sym (series_append text w ts (roots_of_all text (after_step text (held_of w) c) cs)))

  -- a target that begins with bytes is as if they were laid there
  laid_there : (bs target : List ℕ) → take (length bs) target ≡ bs → laid 0 bs target ≡ target
  unfolding laid
  laid_there bs target e =
      let z : 0 + length bs ≡ length bs = omega arith in
      rw z (ap (λ (l : List ℕ). l ++ drop (length bs) target) (sym e) ∙ take-append-drop (length bs) target)

  begins_fits : (bs target : List ℕ) → take (length bs) target ≡ bs → length bs ≤ length target
  begins_fits bs target e = omega (arith, ap length e, length-take (length bs) target)

  pub hosted : {room : ℕ} (s : Settings) → Opens text s room → Hosted text s (packed (open_state text s))
  hosted s o calls notices cs b =
      let w = opening text s calls notices in
      let h : held_of (opening text s calls notices) ≡ record { state = packed (open_state text s); calls = calls; notices = notices } =
      λ ι. record { state = packed (open_state text s); calls = calls; notices = laid_there (opening_bytes text s) notices b ι } in
      subst (λ (x : Held). Served text s calls notices (roots_of_all text x cs) (world_of (after_steps text x cs))) h
      (let ts = roots_of_all text (held_of w) cs in
      let p = ap world_of (steps_are w cs refl) in
      let q = unpacks (series text w ts).state (series_eight w ts refl) in
      record {
        is_series = p ∙ λ ι. record { state = q ι; calls = (series text w ts).calls; notices = (series text w ts).notices };
        kept =
            kept text s calls notices
            (record { short = o.short; well_formed = o.well_formed; bore = o.bore; fits = begins_fits (opening_bytes text s) notices b }) ts;
      })

-- the bytes that an accepted opening leaves
pub opened_bytes : (s : State) (target : List ℕ) → Eight s → 102 ≤ length target → take 102 (packed_target s target) ≡ packed s
unfolding packed_target
opened_bytes s target e h =
    let n : 102 ≡ 0 + length (packed s) = omega (arith, packed_length s e) in
    rw (le-ltb (length target) 102 h)
    (ap (λ (k : ℕ). take k (laid 0 (packed s) target)) n ∙ take_laid 0 (packed s) target (omega (arith, packed_length s e)))

-- the bytes that roots left, by whether there were any
pub kept_by : (n : ℕ) (s : State) (bytes : List ℕ) → kept_state n s bytes ≡ cond (not (eqb n 0)) (packed_target s bytes) bytes
unfolding kept_state
kept_by n s bytes = go (eqb n 0)
  where
    go : (t : Bool) → cond t bytes (packed_target s bytes) ≡ cond (not t) (packed_target s bytes) bytes
    go true = refl
    go false = refl

-- an opening whose state has no room leaves its bytes
pub kept_short : (a : Result ⊤ Refusal) (s : State) (bytes : List ℕ) → state_after (without_room a) s bytes ≡ bytes
unfolding state_after without_room
kept_short (Ok tt) s bytes = refl
kept_short (Err r) s bytes = refl

-- so all that hosts run behind it is a series
pub opening_hosted : (text job state notices : List ℕ) {after noticed : List ℕ} {told : Stepped} {a : Result ⊤ Refusal}
    → told ≡ (opened text job notices).stepped → noticed ≡ (opened text job notices).notices → a ≡ told.answer → after ≡ state_after a told.state state
    → (s : Settings) → judge_opening text job (length notices) ≡ accepted s → 102 ≤ length state → Begins text s noticed × Hosted text s (take 102 after)
unfolding opened opened_by state_after
opening_hosted text job state notices {after} {noticed} {told} o n i e s h room =
    let opens = opening_opens text job (length notices) s h in
    let p : after ≡ packed_target (open_state text s) state =
    e
    ∙ ap (λ (x : Result ⊤ Refusal). state_after x told.state state) i
    ∙ ap (λ (x : Stepped). state_after x.answer x.state state) o
    ∙ ap (λ (j : Judged Settings). state_after (opened_by text notices j).stepped.answer (opened_by text notices j).stepped.state state) h in
    let q : noticed ≡ laid 0 (opening_bytes text s) notices = n ∙ ap (λ (j : Judged Settings). (opened_by text notices j).notices) h in (
      ap (take (length (opening_bytes text s))) q ∙ front_laid (opening_bytes text s) notices opens.fits,
      subst (Hosted text s) (sym (ap (take 102) p ∙ opened_bytes (open_state text s) state refl room)) (hosted text s opens),
    )
