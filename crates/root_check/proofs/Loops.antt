-- A loop over a list on a tape: `Passed`, its invariant, and what each step makes of it. The list is told of by `Steps`, one step at a time.
-- Assumes nothing.
use mathlib.Core.Path.{◌≡◌, sym, ap, subst, ◌∙◌}
use mathlib.Core.List.{List}
use Prim.Native.Nat.{ℕ, zero, suc, ◌+◌, ◌-◌, ◌≤◌, ◌<◌}
use native.Mathlib.Omega.{arith}
use lib.ListN.{length, take, drop, length-drop}
use lib.Seq.{drop-drop}
use Rattle.std.specs.Prelude.{Result, Ok, Err}
use Rattle.text.proofs.Lists.{tail_part}
use Rattle.tape.specs.declared.refusal.TapeError.{TapeError}
use Rattle.root_check.specs.declared.check.Step.{Step}
use Rattle.root_check.specs.declared.check.Step.TheVariants as step
use Rattle.tape.specs.Refusals.{fault_at}
use Rattle.root_check.specs.Checking.{Scan, shifted, stepped, Moves, Steps}
use Rattle.root_check.proofs.Scans.{shifted_zero, shifted_shifted}

-- i bytes are passed: `whole`, which is asked for any bound of the turns, is what is left, with as many turns as that needs
pub record Passed (whole : ℕ → Scan) (read : ℕ → List ℕ → Scan) (tape : List ℕ) (i : ℕ) : Type 0 where
  pub inside : i ≤ length tape
  pub rest : (f : ℕ) → length tape < f → (g : ℕ) × (length tape < i + g) × (whole f ≡ shifted i (read g (drop i tape)))

-- ---- from the front on

pub passed_none : (read : ℕ → List ℕ → Scan) (tape : List ℕ) → Passed (λ f. read f tape) read tape 0
passed_none read tape = record { inside = omega arith; rest = λ f h. (f, omega arith, sym (shifted_zero (read f tape))) }

-- ---- how far a step goes

module _ (tape : List ℕ) (i : ℕ) (inside : i ≤ length tape) {s : Result Step TapeError} (m : Moves (length (take (length tape - i) (drop i tape))) s) where
  moved : {x : Result Step TapeError} → s ≡ x → Moves (length (drop i tape)) x
  moved e = subst (Moves (length (drop i tape))) e (subst (λ (p : List ℕ). Moves (length p) s) (tail_part tape i) m)

  pub next_room : {u : ℕ} → s ≡ Ok (step.Next u) → (1 ≤ u) × (i + u ≤ length tape)
  next_room {u} e = let n : (1 ≤ u) × (u ≤ length (drop i tape)) = moved e in (n.0, omega (arith, length-drop i tape))

-- ---- one step

module _ {whole : ℕ → Scan} {read : ℕ → List ℕ → Scan} {tape : List ℕ} {i : ℕ} (P : Passed whole read tape i) where
  -- what stands there is X
  pub passed_by : (X : ℕ → Scan) → ((g : ℕ) → length (drop i tape) < suc g → read (suc g) (drop i tape) ≡ X g)
      → (f : ℕ) → length tape < f → (g : ℕ) × (length tape < i + suc g) × (whole f ≡ shifted i (X g))
  passed_by X k f h = let y = P.rest f h in go y.0 y.1 y.2
    where
      go : (g : ℕ) → length tape < i + g → whole f ≡ shifted i (read g (drop i tape)) → (g : ℕ) × (length tape < i + suc g) × (whole f ≡ shifted i (X g))
      go zero lt e = absurd (omega (arith, P.inside))
      go (suc g) lt e = (g, lt, e ∙ ap (shifted i) (k g (omega (arith, length-drop i tape, P.inside))))

  -- one more of u bytes
  pub passed_on : (next : ℕ → List ℕ → Scan) (u : ℕ) → 1 ≤ u → i + u ≤ length tape
      → ((g : ℕ) → length (drop i tape) < suc g → read (suc g) (drop i tape) ≡ shifted u (next g (drop u (drop i tape))))
      → Passed whole next tape (i + u)
  passed_on next u one room k =
      record {
        inside = room;
        rest = λ f h.
            let y = passed_by (λ g. shifted u (next g (drop u (drop i tape)))) k f h in (
              y.0,
              omega (arith, y.1),
              y.2 ∙ shifted_shifted i u (next y.0 (drop u (drop i tape))) ∙ ap (λ (l : List ℕ). shifted (i + u) (next y.0 l)) (drop-drop u i tape),
            );
      }

  module _ {s : Result Step TapeError} (S : Steps read (take (length tape - i) (drop i tape)) s) where
    -- what the list comes to from there
    told : {x : Result Step TapeError} → s ≡ x → (g : ℕ) → length (drop i tape) < suc g
        → read (suc g) (drop i tape) ≡ stepped x (λ u. shifted u (read g (drop u (drop i tape))))
    told e = (subst (Steps read (drop i tape)) e (subst (λ (p : List ℕ). Steps read p s) (tail_part tape i) S)).tells

    pub passed_next : {u : ℕ} → s ≡ Ok (step.Next u) → Passed whole read tape (i + u)
    unfolding stepped
    passed_next {u} e =
        let n : (1 ≤ u) × (i + u ≤ length tape) = next_room tape i P.inside S.moves e in
        passed_on read u n.0 n.1 (told e)

    pub passed_end : {u : ℕ} → s ≡ Ok (step.End u) → (f : ℕ) → length tape < f → whole f ≡ Ok (i + u)
    unfolding stepped shifted
    passed_end {u} e f h = (passed_by (λ g. Ok u) (told e) f h).2

    pub passed_bad : {x : TapeError} → s ≡ Err x → (f : ℕ) → length tape < f → whole f ≡ Err (fault_at x.fault (i + x.place))
    unfolding stepped shifted
    passed_bad {x} e f h = (passed_by (λ g. Err x) (told e) f h).2
