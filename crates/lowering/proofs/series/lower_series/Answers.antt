-- Demand 3 of a list of roots: `Left` (proofs/Listed) goes from root to root, and the claim is `demand3` of definitions.
use Rattle.std.proofs.Common.{◌≡◌, Some, refl, sym, ap, ◌∙◌}
use Rattle.definitions.specs.Series.{World}
use Rattle.definitions.proofs.Demand3.{demand3}
use Rattle.lowering.proofs.Listed.{begun, one_more, left_all, left_root, left_end}
use Rattle.lowering.proofs.series.lower_series.Goals as goal

pub loop-root-init : goal.loop-root-init
loop-root-init c = (refl, refl, left_all _ _ _)

pub loop-root-preserved : goal.loop-root-preserved
loop-root-preserved c =
    let e : c.next_root.result ≡ Some (c.in-Some.root, c.in-Some.behind) = cc in (
      c.lower_root.auto.calls ∙ c.loop-root.invariant.0,
      c.lower_root.auto.notices ∙ c.loop-root.invariant.1,
      left_root c.loop-root.invariant.2 c.next_root.ensures.roots_by e c.next_root.ensures.stands (one_more _ (begun c.loop-root.last c.loop-root.calls c.loop-root.notices) _ c.lower_root.ensures.value c.lower_root.ensures.calls_after c.lower_root.ensures.notices_after),
    )

pub returns-clause-state_after : goal.returns-clause-state_after
returns-clause-state_after c = ap (λ (w : World). w.state) (sym (left_end c.loop-root.invariant.2 c.next_root.ensures.roots_by c.in_default.is))

pub returns-clause-calls_after : goal.returns-clause-calls_after
returns-clause-calls_after c = ap (λ (w : World). w.calls) (sym (left_end c.loop-root.invariant.2 c.next_root.ensures.roots_by c.in_default.is))

pub returns-clause-notices_after : goal.returns-clause-notices_after
returns-clause-notices_after c = ap (λ (w : World). w.notices) (sym (left_end c.loop-root.invariant.2 c.next_root.ensures.roots_by c.in_default.is))

pub returns-clause-kept : goal.returns-clause-kept
returns-clause-kept c = λ job s target h _. demand3 _ job s _ target h _
