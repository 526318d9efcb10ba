use Rattle.std.specs.Prelude.{Some}
use Rattle.std.proofs.Common.{◌≡◌, ◌<◌, length, drop, not, rules, arith, sym, ap, ◌∙◌}
use Rattle.definitions.specs.Comments.{is_blank, pragma, seek, place_from, value_of}
use borrow.Author.Tests.{eqb-true, eqb-false}
use Rattle.text.proofs.Lists.{told, tail_part}
use Rattle.comments.specs.Searches.{known_for, search_for, pragma_for, pragma_of}
use Rattle.comments.proofs.Signs.{place_range}
use Rattle.comments.proofs.Values.{blank_rest, valued, by_none, by_some}
use Rattle.comments.proofs.find_jsx_pragma.Goals as goal
use Rattle.comments.proofs.find_jsx_pragma.Goals.{In-Some, In-Some-place_from, After-value_of-value}

-- a keyword was found
hit : (c : In-Some) → seek (length c.args.comment.now) c.args.comment.now c.args.at ≡ pragma (known_for c.in-Some.kind) c.in-Some.from
unfolding search_for
hit c = told c.find_keyword.ensures (ap search_for c.in-Some.is)

-- its value begins behind it
starts : (c : In-Some-place_from) → place_from (λ b. not (is_blank b)) c.args.comment.now c.in-Some.from ≡ Some c.in-Some-place_from.start
starts c = told (c.place_from.ensures (λ b. not (is_blank b)) (λ b r h. search rules)) c.in-Some-place_from.is

inside : (c : In-Some-place_from) → c.in-Some-place_from.start < length c.args.comment.now
inside c = (place_range (λ b. not (is_blank b)) _ _ _ (starts c)).1

value : (c : After-value_of-value) → c.value_of-value.result.now ≡ value_of (drop c.in-Some-place_from.start c.args.comment.now)
value c = c.value_of-value.ensures ∙ ap value_of (tail_part c.args.comment.now c.in-Some-place_from.start)

pub returns-in_default : goal.returns-in_default
unfolding pragma_of pragma_for search_for
returns-in_default c = rw (told c.find_keyword.ensures (ap search_for c.in_default.is))

pub returns-in_default-place_from : goal.returns-in_default-place_from
unfolding pragma_for
returns-in_default-place_from c =
    sym (blank_rest _ _ _ _ (hit (goal.at.returns-in_default-place_from c).In-Some) (told (c.place_from.ensures (λ b. not (is_blank b)) (λ b r h. search rules)) c.in_default-place_from.is))

pub slice_bounds-value_of-count : goal.slice_bounds-value_of-count
slice_bounds-value_of-count c = omega (arith, inside (goal.at.slice_bounds-value_of-count c).In-Some-place_from)

pub slice_bounds-value_of-start : goal.slice_bounds-value_of-start
slice_bounds-value_of-start c = omega (arith, inside (goal.at.slice_bounds-value_of-start c).In-Some-place_from)

pub returns-then-is_empty : goal.returns-then-is_empty
unfolding pragma_for
returns-then-is_empty c =
    let at = goal.at.returns-then-is_empty c in
    sym (valued _ _ _ _ (hit at.In-Some) _ (starts at.In-Some-place_from) ∙ by_none _ _ _ (ap length (sym (value at.After-value_of-value)) ∙ eqb-true _ 0 (sym c.is_empty.ensures ∙ c.if-is_empty.true)))

pub returns : goal.returns
unfolding pragma_for
returns c =
    let at = goal.at.returns c in
    rw (value at.After-value_of-value)
    (sym (valued _ _ _ _ (hit at.In-Some) _ (starts at.In-Some-place_from) ∙ by_some _ _ _ (λ z. eqb-false _ 0 (sym c.is_empty.ensures ∙ c.if-is_empty.false) (ap length (value at.After-value_of-value) ∙ z))))
