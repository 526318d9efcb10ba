-- A whole job (specs, `job_over`) by what its three parts come to.
--     opening_refused, root_refused, job_done     how far it came
--     job_is                                      the parts of that, and demand 3 of the roots that it took
-- Assumes nothing.
use Rattle.std.specs.Prelude.{Err, Ok, Result, ⊤}
use mathlib.Core.Path.{◌≡◌, refl, sym, ap, ◌∙◌}
use mathlib.Core.List.{List}
use Prim.Native.Nat.{ℕ}
use lib.ListN.{length, take}
use Rattle.tape.specs.declared.refusal.Refusal.{Refusal}
use Rattle.tape.specs.Refusals.{number_of, figure_of}
use Rattle.definitions.specs.declared.state.State.{State}
use Rattle.definitions.specs.declared.state.Stepped.{Stepped}
use Rattle.definitions.specs.declared.options.Settings.{Settings}
use Rattle.definitions.specs.Judging.{Judged, accepted}
use Rattle.definitions.specs.Opening.{judge_opening}
use Rattle.definitions.specs.Entries.{opened_by, opened, judge_records, records_answer, records_target}
use Rattle.definitions.specs.Series.{World, opening, series}
use Rattle.definitions.proofs.Demand3.{demand3}
use Rattle.lowering.specs.RootLists.{roots_in, run}
use Rattle.lowering.proofs.Listed.{run_leaves}
use Rattle.jsxlib.specs.Entries.{number_by, figure_by, records_figure, JobRun, job_records, job_roots, job_by, job_over}
use Rattle.jsxlib.specs.Hosts.{Served}

abbrev pub begun : State → List ℕ → List ℕ → World
begun s calls notices = record { state = s; calls = calls; notices = notices }

-- the number and the figure of a refusal
told_number : {a : Result ⊤ Refusal} {x : Refusal} {n : ℕ} → a ≡ Err x → n ≡ number_by a → number_of x ≡ n
unfolding number_by
told_number h e = sym (e ∙ ap number_by h)

told_figure : {a : Result ⊤ Refusal} {x : Refusal} {n : ℕ} → a ≡ Err x → n ≡ figure_by 0 a → figure_of x ≡ n
unfolding figure_by
told_figure h e = sym (e ∙ ap (figure_by 0) h)

module _ (text job roots calls notices records : List ℕ) (t : Stepped) (told : t ≡ (opened text job notices).stepped) {noted : List ℕ}
    (noticed : noted ≡ (opened text job notices).notices) where
  opens : job_over text job roots calls notices records ≡ job_by text t.answer (begun t.state calls noted) roots records
  opens = λ ι. job_by text (sym told ι).answer (begun (sym told ι).state calls (sym noticed ι)) roots records

  pub opening_refused : {x : Refusal} {n f : ℕ} → t.answer ≡ Err x → n ≡ number_by t.answer → f ≡ figure_by 0 t.answer
      → job_over text job roots calls notices records
      ≡ record { stage = 0; number = n; figure = f; taken = 0; world = begun t.state calls noted; records = records }
  unfolding job_by
  opening_refused h n f =
      opens ∙ ap (λ (a : Result ⊤ Refusal). job_by text a (begun t.state calls noted) roots records) h
      ∙ λ ι. record { stage = 0; number = told_number h n ι; figure = told_figure h f ι; taken = 0; world = begun t.state calls noted; records = records }

  module _ (accepts : t.answer ≡ Ok tt) {a : Result ⊤ Refusal} {k : ℕ} {w : World}
      (answers : a ≡ (run text (begun t.state calls noted) roots).answer)
      (takes : k ≡ (run text (begun t.state calls noted) roots).taken)
      (leaves : w ≡ (run text (begun t.state calls noted) roots).world) where
    runs : job_over text job roots calls notices records ≡ job_roots text a k w records
    unfolding job_by
    runs =
        opens ∙ ap (λ (b : Result ⊤ Refusal). job_by text b (begun t.state calls noted) roots records) accepts
        ∙ λ ι. job_roots text (sym answers ι) (sym takes ι) (sym leaves ι) records

    pub root_refused : {x : Refusal} {n f : ℕ} → a ≡ Err x → n ≡ number_by a → f ≡ figure_by 0 a
        → job_over text job roots calls notices records ≡ record { stage = 1; number = n; figure = f; taken = k; world = w; records = records }
    unfolding job_roots
    root_refused h n f =
        runs ∙ ap (λ (b : Result ⊤ Refusal). job_roots text b k w records) h
        ∙ λ ι. record { stage = 1; number = told_number h n ι; figure = told_figure h f ι; taken = k; world = w; records = records }

    pub job_done : {n f : ℕ} {rs : List ℕ} → a ≡ Ok tt
        → n ≡ number_by (records_answer (judge_records text w.state (length records)))
        → f ≡ records_figure (records_answer (judge_records text w.state (length records)))
        → rs ≡ records_target records (judge_records text w.state (length records))
        → job_over text job roots calls notices records ≡ record { stage = 2; number = n; figure = f; taken = k; world = w; records = rs }
    unfolding job_roots job_records
    job_done h n f r =
        runs ∙ ap (λ (b : Result ⊤ Refusal). job_roots text b k w records) h
        ∙ λ ι. record { stage = 2; number = sym n ι; figure = sym f ι; taken = k; world = w; records = sym r ι }

-- the world that a job leaves behind an accepted opening is the series of the roots that it took
roots_leave : (text : List ℕ) (a : Result ⊤ Refusal) (k : ℕ) (w : World) (records : List ℕ) → ((job_roots text a k w records).world ≡ w) × ((job_roots text a k w records).taken ≡ k)
unfolding job_roots job_records
roots_leave text (Ok tt) k w records = (refl, refl)
roots_leave text (Err x) k w records = (refl, refl)

module _ (text job roots calls notices records : List ℕ) where
  job_served : (s : Settings) → judge_opening text job (length notices) ≡ accepted s
      → Served text s calls notices (take (job_over text job roots calls notices records).taken (roots_in roots)) (job_over text job roots calls notices records).world
  unfolding opened opened_by job_by
  job_served s h =
      let w = opening text s calls notices in
      let r = run text w roots in
      let l = roots_leave text r.answer r.taken r.world records in
      let o : job_over text job roots calls notices records ≡ job_roots text r.answer r.taken r.world records =
      ap
      (λ (j : Judged Settings).
      job_by text (opened_by text notices j).stepped.answer (begun (opened_by text notices j).stepped.state calls (opened_by text notices j).notices) roots records)
      h in
      let k = ap (λ (j : JobRun). j.taken) o ∙ l.1 in
      record {
        is_series = ap (λ (j : JobRun). j.world) o ∙ l.0 ∙ run_leaves text w roots ∙ ap (λ (n : ℕ). series text w (take n (roots_in roots))) (sym k);
        kept = demand3 text job s calls notices h (take (job_over text job roots calls notices records).taken (roots_in roots));
      }

  -- what the contract of `jsx_job` says, of a job that came to o
  abbrev pub Ends : JobRun → Type 0
  Ends o = record {
    number : o.number ≡ (job_over text job roots calls notices records).number;
    stage_after : o.stage ≡ (job_over text job roots calls notices records).stage;
    taken_after : o.taken ≡ (job_over text job roots calls notices records).taken;
    call_fill_after : o.world.state.calls ≡ (job_over text job roots calls notices records).world.state.calls;
    notice_fill_after : o.world.state.notices ≡ (job_over text job roots calls notices records).world.state.notices;
    figure_after : o.figure ≡ (job_over text job roots calls notices records).figure;
    calls_after : o.world.calls ≡ (job_over text job roots calls notices records).world.calls;
    notices_after : o.world.notices ≡ (job_over text job roots calls notices records).world.notices;
    records_after : o.records ≡ (job_over text job roots calls notices records).records;
    served : (s : Settings) → judge_opening text job (length notices) ≡ accepted s
        → Served text s calls notices (take (job_over text job roots calls notices records).taken (roots_in roots))
        (job_over text job roots calls notices records).world;
  }

  pub job_is : {o : JobRun} → job_over text job roots calls notices records ≡ o → Ends o
  job_is e =
      let r = sym e in
      record {
        number = ap (λ (j : JobRun). j.number) r;
        stage_after = ap (λ (j : JobRun). j.stage) r;
        taken_after = ap (λ (j : JobRun). j.taken) r;
        call_fill_after = ap (λ (j : JobRun). j.world.state.calls) r;
        notice_fill_after = ap (λ (j : JobRun). j.world.state.notices) r;
        figure_after = ap (λ (j : JobRun). j.figure) r;
        calls_after = ap (λ (j : JobRun). j.world.calls) r;
        notices_after = ap (λ (j : JobRun). j.world.notices) r;
        records_after = ap (λ (j : JobRun). j.records) r;
        served = job_served;
      }
