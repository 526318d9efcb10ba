-- `jsx_text::mark_of` meets its contract. Assumes nothing.
use Rattle.text.proofs.Lists.{told}
use Rattle.jsx_text.specs.Marks.{marked}
use Rattle.jsx_text.proofs.mark_of.Goals as goal

pub returns-then-is_line_terminator : goal.returns-then-is_line_terminator
unfolding marked
returns-then-is_line_terminator c = rw (told c.is_line_terminator.ensures c.if-is_line_terminator.true)

pub returns-then-is_white_space : goal.returns-then-is_white_space
unfolding marked
returns-then-is_white_space c =
    rw (told c.is_line_terminator.ensures c.if-is_line_terminator.false, told c.is_white_space.ensures c.if-is_white_space.true)

pub returns : goal.returns
unfolding marked
returns c =
    rw (told c.is_line_terminator.ensures c.if-is_line_terminator.false, told c.is_white_space.ensures c.if-is_white_space.false)
