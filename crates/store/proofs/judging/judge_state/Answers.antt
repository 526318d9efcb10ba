use Rattle.text.proofs.Lists.{told}
use borrow.Author.Tests.{lt-ltb, le-ltb}
use Rattle.store.specs.Judging.{behind}
use Rattle.definitions.specs.Judging.{refuse, refuse_at}
use Rattle.definitions.specs.Entries.{judge_writing}
use Rattle.store.proofs.judging.judge_state.Goals as goal

pub returns-then-text-gt-MAX_LENGTH : goal.returns-then-text-gt-MAX_LENGTH
unfolding judge_writing refuse refuse_at behind
returns-then-text-gt-MAX_LENGTH c = λ j. rw (lt-ltb _ _ c.if-text-gt-MAX_LENGTH.true)

pub returns : goal.returns
unfolding judge_writing refuse refuse_at behind
returns c =
    λ j.
    rw (
      le-ltb _ _ c.if-text-gt-MAX_LENGTH.false,
      told c.first_ill_formed.ensures c.in_default.is,
      told
          c.is_sound.ensures c.if-not-is_sound.false,
    )

pub returns-in-Some : goal.returns-in-Some
unfolding judge_writing refuse refuse_at behind
returns-in-Some c =
    λ j. rw (le-ltb _ _ c.if-text-gt-MAX_LENGTH.false, told c.first_ill_formed.ensures c.in-Some.is)

pub returns-then-not-is_sound : goal.returns-then-not-is_sound
unfolding judge_writing refuse refuse_at behind
returns-then-not-is_sound c =
    λ j.
    rw (
      le-ltb _ _ c.if-text-gt-MAX_LENGTH.false,
      told c.first_ill_formed.ensures c.in_default.is,
      told
          c.is_sound.ensures c.if-not-is_sound.true,
    )
