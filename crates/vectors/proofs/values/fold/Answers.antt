-- `vectors::values::fold` meets its contract. The loop's invariant: folding what is left onto the value has the answer. Assumes nothing.
use native.Mathlib.Omega.{arith}
use mathlib.Core.Path.{sym, ◌∙◌}
use native.Mathlib.Nat.{mod-lt}
use Rattle.vectors.proofs.Folding.{fold_step, fold_end}
use Rattle.vectors.proofs.values.fold.Goals as goal

pub loop-b-preserved : goal.loop-b-preserved
loop-b-preserved c =
    let step = fold_step _ _ _ _ c.loop-b-test.true in
    (mod-lt _ (omega arith), c.loop-b.invariant.1 ∙ (step ∙ rw c.mark.ensures.value))

pub returns : goal.returns
returns c = record {
  value = sym (c.loop-b.invariant.1 ∙ fold_end _ _ _ _ c.loop-b-test.false);
  upper_bound = c.loop-b.invariant.0;
}
