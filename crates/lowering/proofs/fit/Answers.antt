use native.Mathlib.Omega.{arith}
use Rattle.pen.proofs.Measuring.{pen_is}
use Rattle.lowering.proofs.Judging.{few_records}
use Rattle.lowering.proofs.Running.{Counted, counts, no_number, no_bound, no_notice_room, all_fits}
use Rattle.lowering.proofs.fit.Goals as goal
use Rattle.lowering.proofs.fit.Goals.{After-lower}

-- what the run has told
told : (c : After-lower)
    → Counted c.args.text.now c.args.state c.args.tape.now c.args.call_room c.args.notice_room c.lower.new.pen
told c =
    counts c.requires (omega arith) (pen_is c.args.state _ _ _ _ c.store_of.ensures) c.lower.ensures.written

pub store_of-requires : goal.store_of-requires
store_of-requires c =
    few_records c.requires.unforged

pub lower-requires : goal.lower-requires
lower-requires c = record {
  text_len_bound = c.requires.unforged.spelled.short;
  text_value = c.requires.unforged.spelled.formed;
}

pub returns-then-pen : goal.returns-then-pen
returns-then-pen c = no_number (told (goal.at.returns-then-pen c).After-lower) c.if-pen.true

pub overflow_sub-call_room : goal.overflow_sub-call_room
overflow_sub-call_room c =
    c.requires.unforged.calls_within

pub returns-then-call_room-state : goal.returns-then-call_room-state
returns-then-call_room-state c =
    no_bound (told (goal.at.returns-then-call_room-state c).After-lower) c.if-pen.false c.if-call_room-state.true

pub overflow_sub-notice_room : goal.overflow_sub-notice_room
overflow_sub-notice_room c =
    c.requires.unforged.notices_within

pub returns-then-notice_room-state : goal.returns-then-notice_room-state
returns-then-notice_room-state c =
    no_notice_room (told (goal.at.returns-then-notice_room-state c).After-lower) c.if-pen.false c.if-call_room-state.false c.if-notice_room-state.true

pub returns : goal.returns
returns c =
    all_fits (told (goal.at.returns c).After-lower) c.if-pen.false c.if-call_room-state.false c.if-notice_room-state.false
