use Rattle.std.proofs.Common.{◌≡◌, ◌+◌, ◌<◌, ◌≤◌, List, ℕ, length, arith, rules, sym, ap, ◌∙◌}
use Rattle.definitions.specs.Comments.{comment_from, with_comment}
use Rattle.comments.specs.Searches.{some, known_for, pragma_for, pragma_from}
use Rattle.text.proofs.Lists.{told}
use Rattle.comments.proofs.Values.{enter, no_more, lies, onward, comment_fits}
use Rattle.comments.proofs.update_options_with_comment.Goals as goal
use Rattle.comments.proofs.update_options_with_comment.Goals.{After-part-content, In-Some}

fits : (c : After-part-content) → c.args.comment.start + length c.part-content.result.now ≤ 65535
fits c = rw c.part-content.ensures (comment_fits _ _ c.requires (search rules))

-- the next pragma, and where its value lies
hit : (c : In-Some) → pragma_from c.part-content.result.now c.loop-pragma.at ≡ some (known_for c.in-Some.pragma.kind) c.in-Some.pragma.value.now c.in-Some.pragma.end
unfolding pragma_for
hit c = told c.find_jsx_pragma.ensures (ap pragma_for c.in-Some.is)

place : (c : In-Some) → (c.loop-pragma.at + length c.in-Some.pragma.value.now < c.in-Some.pragma.end) × (c.in-Some.pragma.end ≤ length c.part-content.result.now)
place c = lies _ _ _ _ _ (hit c)

pub loop-pragma-init : goal.loop-pragma-init
loop-pragma-init c = enter _ _ _

pub overflow_add-from : goal.overflow_add-from
overflow_add-from c = omega (arith, place (goal.at.overflow_add-from c).In-Some, fits (goal.at.overflow_add-from c).After-part-content)

pub overflow_sub-from : goal.overflow_sub-from
overflow_sub-from c = omega (arith, place (goal.at.overflow_sub-from c).In-Some)

pub new-span-requires : goal.new-span-requires
new-span-requires c = omega (arith, place (goal.at.new-span-requires c).In-Some, fits (goal.at.new-span-requires c).After-part-content)

pub overflow_add-at : goal.overflow_add-at
overflow_add-at c = omega (arith, place (goal.at.overflow_add-at c).In-Some, fits (goal.at.overflow_add-at c).After-part-content)

pub loop-pragma-smaller : goal.loop-pragma-smaller
loop-pragma-smaller c = omega (arith, place (goal.at.loop-pragma-smaller c).In-Some)

pub loop-pragma-preserved : goal.loop-pragma-preserved
loop-pragma-preserved c = rw (c.apply-held.ensures, c.new-span.ensures, c.from.ensures) (onward _ _ _ _ _ c.loop-pragma.invariant _ _ _ (hit (goal.at.loop-pragma-preserved c).In-Some))

pub returns : goal.returns
unfolding with_comment pragma_for
returns c =
    sym (no_more _ _ _ _ _ c.loop-pragma.invariant (told c.find_jsx_pragma.ensures (ap pragma_for c.in_default.is)))
    ∙ ap (λ (l : List ℕ). comment_from (length l) c.args.options c.args.comment.start l 0) c.part-content.ensures
