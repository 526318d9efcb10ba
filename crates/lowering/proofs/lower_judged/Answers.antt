use mathlib.Core.Path.{refl}
use Rattle.text.proofs.Lists.{told}
use Rattle.lowering.specs.Steps.{Text, stepped}
use Rattle.lowering.proofs.Judging.{text_long, tape_long, ill_formed, forged, unforged, judged}
use Rattle.lowering.proofs.lower_judged.Goals as goal
use Rattle.lowering.proofs.lower_judged.Goals.{In_default}

-- text and tape are in order
spelled : (c : In_default) → Text c.args.text.now c.args.tape.now
spelled c = record { short = c.if-text-gt-MAX_LENGTH.false; tape_short = c.if-tape-gt-MAX_LENGTH.false; formed = told c.first_ill_formed.ensures c.in_default.is }

pub returns-then-text-gt-MAX_LENGTH : goal.returns-then-text-gt-MAX_LENGTH
unfolding stepped
returns-then-text-gt-MAX_LENGTH c =
    text_long _ _ _ _ _ c.if-text-gt-MAX_LENGTH.true refl

pub returns-then-tape-gt-MAX_LENGTH : goal.returns-then-tape-gt-MAX_LENGTH
unfolding stepped
returns-then-tape-gt-MAX_LENGTH c =
    tape_long _ _ _ _ _ c.if-text-gt-MAX_LENGTH.false c.if-tape-gt-MAX_LENGTH.true refl

pub returns-in-Some : goal.returns-in-Some
unfolding stepped
returns-in-Some c =
    ill_formed _ _ _ _ _ _ c.if-text-gt-MAX_LENGTH.false c.if-tape-gt-MAX_LENGTH.false
    (told c.first_ill_formed.ensures c.in-Some.is) refl

pub returns-then-is_forged : goal.returns-then-is_forged
unfolding stepped
returns-then-is_forged c =
    forged _ _ _ _ _ (spelled (goal.at.returns-then-is_forged c).In_default)
    (told c.is_forged.ensures c.if-is_forged.true) refl

pub lower_tape-requires : goal.lower_tape-requires
lower_tape-requires c =
    unforged _ _ _ _ _ (spelled (goal.at.lower_tape-requires c).In_default) (told c.is_forged.ensures c.if-is_forged.false)

pub returns : goal.returns
returns c =
    judged _ _ _ _ _ (spelled (goal.at.returns c).In_default)
    (told c.is_forged.ensures c.if-is_forged.false) c.lower_tape.ensures
