-- `jsx_text::mark_at` meets its contract: one law for each return. Assumes nothing.
use mathlib.Core.Path.{ap, ◌∙◌}
use Prim.Native.Nat.{ℕ}
use native.Mathlib.Omega.{arith}
use Rattle.text.proofs.Lists.{told}
use Rattle.jsx_text.specs.Marks.{marked}
use Rattle.jsx_text.proofs.Marking.{marks_ill, marks_character, marks_ascii, marks_plain, marks_spaces}
use Rattle.jsx_text.proofs.mark_at.Goals as goal

pub returns-in-Some : goal.returns-in-Some
returns-in-Some c = marks_character _ _ _ _ (told c.first_char.ensures c.in-Some.is) c.mark_of-in-Some.ensures

pub returns-in-None : goal.returns-in-None
returns-in-None c = marks_ill _ _ (told c.first_char.ensures c.in-None.is)

pub returns-in-33-to-127 : goal.returns-in-33-to-127
returns-in-33-to-127 c = marks_plain _ _ _ c.plain_end.ensures

pub returns-in-32 : goal.returns-in-32
returns-in-32 c = marks_spaces _ _ _ c.in-32.is c.run_end.ensures

pub returns-in_default : goal.returns-in_default
returns-in_default c =
    marks_ascii _ _ _ c.requires (omega arith) (c.mark_of.ensures ∙ ap (λ (n : ℕ). marked (record { code = n; width = 1 })) c.from.ensures)
