-- A list up to the first root that is refused: `Row` (proofs/Listed) goes from root to root, and text and state are in order behind each.
use Rattle.std.proofs.Common.{◌≡◌, Some, refl, sym, ap, ◌∙◌}
use Rattle.definitions.specs.declared.state.Stepped.{Stepped}
use Rattle.lowering.specs.Steps.{stepped}
use Rattle.lowering.specs.RootLists.{Stands}
use Rattle.lowering.proofs.Judging.{known, known_judged, going_after}
use Rattle.lowering.proofs.Listed.{begun, one_more, row_all, row_end, row_refused, row_root}
use Rattle.lowering.proofs.series.lower_in_turn.Goals as goal
use Rattle.lowering.proofs.series.lower_in_turn.Goals.{In-Some}

pub loop-root-init : goal.loop-root-init
loop-root-init c = (refl, refl, row_all _ _ _, c.requires)

-- the root that is ahead stands on the list
ahead : (c : In-Some) → c.next_root.result ≡ Some (c.in-Some.root, c.in-Some.behind)
ahead c = cc

standing : (c : In-Some) → Stands c.loop-root.rest.now (Some (c.in-Some.root, c.in-Some.behind))
standing c = rw (ahead c) at c.next_root.ensures.stands

-- text, state and root are in order
pub lower_tape-requires : goal.lower_tape-requires
lower_tape-requires c = known _ _ _ _ _ c.loop-root.invariant.3 (standing (goal.at.lower_tape-requires c).In-Some).1

pub loop-root-preserved : goal.loop-root-preserved
unfolding stepped
loop-root-preserved c =
    let o = rw c.in-Ok.is at (known_judged _ _ _ _ _ c.loop-root.invariant.3 (standing (goal.at.loop-root-preserved c).In-Some).1 c.lower_tape.ensures) in (
      c.lower_tape.auto.calls ∙ c.loop-root.invariant.0,
      c.lower_tape.auto.notices ∙ c.loop-root.invariant.1,
      row_root c.loop-root.invariant.2 c.next_root.ensures.roots_by (ahead (goal.at.loop-root-preserved c).In-Some) c.next_root.ensures.stands
          (ap (λ (t : Stepped). t.answer) (sym o.answered)) (one_more _ _ _ o.answered o.called o.noticed),
      going_after _ _ _ _ _ o refl,
    )

pub returns-in-Err : goal.returns-in-Err
unfolding stepped
returns-in-Err c =
    let o = rw c.in-Err.is at (known_judged _ _ _ _ _ c.loop-root.invariant.3 (standing (goal.at.returns-in-Err c).In-Some).1 c.lower_tape.ensures) in
    sym
    (row_refused c.loop-root.invariant.2 c.next_root.ensures.roots_by (ahead (goal.at.returns-in-Err c).In-Some) c.next_root.ensures.stands
    (ap (λ (t : Stepped). t.answer) (sym o.answered)) (one_more _ _ _ o.answered o.called o.noticed))

pub returns : goal.returns
returns c =
    let e = row_end c.loop-root.invariant.2 c.next_root.ensures.roots_by c.in_default.is in
    sym (e ∙ λ ι.
    record {
      answer = sym c.list_end.ensures ι;
      world = begun c.loop-root.last c.loop-root.calls c.loop-root.notices;
      taken = c.loop-root.taken;
    })
