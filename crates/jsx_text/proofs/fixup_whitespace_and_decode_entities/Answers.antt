-- `jsx_text::fixup_whitespace_and_decode_entities` meets its contract. The loop's invariant is a `Turn`: how the present line stands, and
-- what is still to be written. Assumes nothing.
use Rattle.std.specs.Prelude.{None}
use Rattle.std.proofs.Common.{rules}
use Prim.Native.Nat.{ℕ, min, ◌≤◌, ◌<◌, ◌+◌, ◌^◌}
use native.Mathlib.Omega.{arith}
use mathlib.Core.Path.{◌≡◌, refl, ap}
use lib.ListN.{length}
use Rattle.text.specs.Utf8.{first_ill}
use Rattle.text.specs.Spans.{part_of}
use Rattle.jsx_text.specs.declared.Mark.{Mark}
use Rattle.jsx_text.proofs.Characters.{size_of}
use Rattle.jsx_text.proofs.Turns.{turn_start, turn_ink, turn_white, turn_moves, turn_blank, turn_line, last_inside, end_whole}
use Rattle.jsx_text.proofs.Turns.{end_with_line, end_with_none, left_line, left_end, part_inside}
use Rattle.jsx_text.proofs.fixup_whitespace_and_decode_entities.Goals as goal
use Rattle.jsx_text.proofs.fixup_whitespace_and_decode_entities.Goals.{After-mark_at, At-loop-i}

pub loop-i-init : goal.loop-i-init
loop-i-init c =
    let m : c.min.result ≡ min c.args.at (2 ^ 63) = search rules in
    rw (c.part-chars.ensures, m) (turn_start c.args.text.now c.args.span c.args.calls.now c.args.at (omega arith))

-- the text's part is well-formed, and where it is not empty its places fit a span
chars_good : (c : At-loop-i) → first_ill c.part-chars.result.now ≡ None
chars_good c =
    rw c.part-chars.ensures c.requires.well_formed

chars_short : (c : At-loop-i) → 0 < length c.part-chars.result.now
    → c.args.span.start + length c.part-chars.result.now ≤ 65535
chars_short c h =
    let e : length c.part-chars.result.now ≡ length (part_of c.args.text.now c.args.span) =
    ap length c.part-chars.ensures in
    omega (arith, e, c.requires.text_len_bound, part_inside c.args.text.now c.args.span (omega (arith, e, h)))

moves : (c : After-mark_at) (k : Mark) (w : ℕ) → c.mark_at.result ≡ k → size_of k ≡ w
    → (0 < w) × (c.loop-i.i + w ≤ length c.part-chars.result.now)
moves c k w e f =
    turn_moves _ _ _ _ _ _ _ _ _ _ c.loop-i.invariant ((let it : first_ill c.part-chars.result.now ≡ None = rw c.part-chars.ensures c.requires.well_formed in it)) c.loop-i-test.true _ c.mark_at.ensures w k e f

pub overflow_add-i : goal.overflow_add-i
unfolding size_of
overflow_add-i c = omega (arith, moves (goal.at.overflow_add-i c).After-mark_at _ _ c.in-Ink.is refl)

pub loop-i-smaller-in-Ink : goal.loop-i-smaller-in-Ink
unfolding size_of
loop-i-smaller-in-Ink c = omega (arith, moves (goal.at.loop-i-smaller-in-Ink c).After-mark_at _ _ c.in-Ink.is refl)

pub loop-i-preserved-in-Ink : goal.loop-i-preserved-in-Ink
loop-i-preserved-in-Ink c =
    let m : c.min-first_non_whitespace.result ≡ min c.loop-i.first_non_whitespace c.loop-i.i = search rules in
    rw m
    (turn_ink _ _ _ _ _ _ _ _ _ _ c.loop-i.invariant (chars_good (goal.at.loop-i-preserved-in-Ink c).At-loop-i) c.loop-i-test.true _ c.mark_at.ensures _
    c.in-Ink.is)

pub overflow_add-i-in-White : goal.overflow_add-i-in-White
unfolding size_of
overflow_add-i-in-White c = omega (arith, moves (goal.at.overflow_add-i-in-White c).After-mark_at _ _ c.in-White.is refl)

pub loop-i-smaller-in-White : goal.loop-i-smaller-in-White
unfolding size_of
loop-i-smaller-in-White c = omega (arith, moves (goal.at.loop-i-smaller-in-White c).After-mark_at _ _ c.in-White.is refl)

pub loop-i-preserved-in-White : goal.loop-i-preserved-in-White
loop-i-preserved-in-White c =
    turn_white _ _ _ _ _ _ _ _ _ _ c.loop-i.invariant (chars_good (goal.at.loop-i-preserved-in-White c).At-loop-i) c.loop-i-test.true _ c.mark_at.ensures _ c.in-White.is

pub overflow_add-i-in-Terminator : goal.overflow_add-i-in-Terminator
unfolding size_of
overflow_add-i-in-Terminator c = omega (arith, moves (goal.at.overflow_add-i-in-Terminator c).After-mark_at _ _ c.in-Terminator.is refl)

pub span_between-line-requires : goal.span_between-line-requires
span_between-line-requires c =
    (omega arith, omega (arith, last_inside _ _ _ _ _ _ _ _ _ _ c.loop-i.invariant, chars_short (goal.at.span_between-line-requires c).At-loop-i (omega arith)))

pub loop-i-smaller-then-first_non_whitespace-last_non_whitespace : goal.loop-i-smaller-then-first_non_whitespace-last_non_whitespace
unfolding size_of
loop-i-smaller-then-first_non_whitespace-last_non_whitespace c =
    omega (arith, moves (goal.at.loop-i-smaller-then-first_non_whitespace-last_non_whitespace c).After-mark_at _ _ c.in-Terminator.is refl)

pub loop-i-preserved-then-first_non_whitespace-last_non_whitespace : goal.loop-i-preserved-then-first_non_whitespace-last_non_whitespace
loop-i-preserved-then-first_non_whitespace-last_non_whitespace c =
    turn_line _ _ _ _ _ _ _ _ _ _ c.loop-i.invariant
    (chars_good (goal.at.loop-i-preserved-then-first_non_whitespace-last_non_whitespace c).At-loop-i)
    c.loop-i-test.true _
    c.mark_at.ensures _
    c.in-Terminator.is c.if-first_non_whitespace-last_non_whitespace.true _
    c.span_between-line.ensures _ _ (omega arith)
    c.add_line_of_jsx_text-texted.ensures.wrote c.add_line_of_jsx_text-texted.ensures.survives

pub loop-i-smaller : goal.loop-i-smaller
unfolding size_of
loop-i-smaller c = omega (arith, moves (goal.at.loop-i-smaller c).After-mark_at _ _ c.in-Terminator.is refl)

pub loop-i-preserved : goal.loop-i-preserved
loop-i-preserved c =
    turn_blank _ _ _ _ _ _ _ _ _ _ c.loop-i.invariant (chars_good (goal.at.loop-i-preserved c).At-loop-i) c.loop-i-test.true _ c.mark_at.ensures _
    c.in-Terminator.is c.if-first_non_whitespace-last_non_whitespace.false

pub returns-then-first_non_whitespace-eq0 : goal.returns-then-first_non_whitespace-eq0
returns-then-first_non_whitespace-eq0 c =
    let it = left_end _ _ _ _ _
    (left_line _ _ _ _ _ _ _
    (end_whole _ _ _ _ _ _ _ _ _ _ c.loop-i.invariant
    c.loop-i-test.false
    c.if-first_non_whitespace-eq0.true) _ _
    (omega arith) c.add_line_of_jsx_text-whole.ensures.wrote
    c.add_line_of_jsx_text-whole.ensures.survives) _ _ c.end_of_jsx_text.ensures.wrote
    c.end_of_jsx_text.ensures.survives in
    record { wrote = it.0; survives = it.1 }

pub span_between-line-requires-then-first_non_whitespace-chars : goal.span_between-line-requires-then-first_non_whitespace-chars
span_between-line-requires-then-first_non_whitespace-chars c = (omega arith, omega (arith, chars_short (goal.at.span_between-line-requires-then-first_non_whitespace-chars c).At-loop-i (omega arith)))

pub returns-then-first_non_whitespace-chars : goal.returns-then-first_non_whitespace-chars
returns-then-first_non_whitespace-chars c =
    let it = left_end _ _ _ _ _
    (left_line _ _ _ _ _ _ _
    (end_with_line _ _ _ _ _ _ _ _ _ _
    c.loop-i.invariant
    c.loop-i-test.false
    c.if-first_non_whitespace-eq0.false
    c.if-first_non_whitespace-chars.true _
    c.span_between-line-then-first_non_whitespace-chars.ensures) _ _ (omega arith)
    c.add_line_of_jsx_text-last.ensures.wrote
    c.add_line_of_jsx_text-last.ensures.survives) _ _ c.end_of_jsx_text-then-first_non_whitespace-chars.ensures.wrote
    c.end_of_jsx_text-then-first_non_whitespace-chars.ensures.survives in
    record { wrote = it.0; survives = it.1 }

pub returns : goal.returns
returns c =
    let it = left_end _ _ _ _ _
    (end_with_none _ _ _ _ _ _ _ _ _ _ c.loop-i.invariant c.loop-i-test.false c.if-first_non_whitespace-eq0.false c.if-first_non_whitespace-chars.false) _ _
    c.end_of_jsx_text-2.ensures.wrote c.end_of_jsx_text-2.ensures.survives in
    record { wrote = it.0; survives = it.1 }
