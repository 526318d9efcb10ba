-- docs/TAPES.md, "Opening tape": "61 flags u16; then at most one each, in this order, of 62 pragma S, 63 pragmaFrag S, 64 importSource S; then any
-- number of 60 comment S (its content)." Which command stands at the front of a part of the opening tape. Of a command that may not stand
-- there `Wrong` is told first, then `Cut` (its operands are cut off, or the tape ends), then `Bad` (an operand is not allowed).
use Rattle.std.specs.Prelude.{ℕ, cond, ◌&&◌, List, [], ◌∷◌, eqb, ltb, Option, None, Some, Result, Ok, Err}
use Rattle.text.specs.declared.spans.Span.{Span}
use Rattle.commands.specs.declared.error.CommandError.{CommandError}
use Rattle.commands.specs.declared.error.CommandError.TheVariants.{Wrong, Cut, Bad}
use Rattle.commands.specs.declared.opening.OptionCommand.{OptionCommand}
use Rattle.commands.specs.declared.opening.OptionCommand.TheVariants.{Pragma, PragmaFrag, ImportSource, Comment}
use Rattle.tape.specs.Numbers.{u16_at, span_at}
use Rattle.commands.specs.Operands.{operands}

-- "Other bits are zero": the flags are bits 0 to 7
abbrev pub flags_with : List ℕ → Result ℕ CommandError
flags_with t = operands 2 t (cond (ltb (u16_at t 0) 256) (Ok (u16_at t 0)) (Err Bad))

-- the first command: 61 and nothing else
unfoldable pub flags_command : List ℕ → Result ℕ CommandError
flags_command [] = Err Cut
flags_command (b ∷ t) = cond (eqb b 0x61) (flags_with t) (Err Wrong)

-- a command with one span, from the bytes behind it
abbrev pub option_with : (Span → OptionCommand) → List ℕ → Result (Option OptionCommand) CommandError
option_with c t = operands 4 t (Ok (Some (c (span_at t 0))))

-- a command behind the first, or none at the tape's end. `last` is the last of 61 to 64 on the tape, 64 once a comment has come: an option stands only behind lesser ones
unfoldable pub option_command : ℕ → List ℕ → Result (Option OptionCommand) CommandError
option_command last [] = Ok None
option_command last (b ∷ t) =
    cond (eqb b 0x60) (option_with Comment t)
    (cond (ltb last b && eqb b 0x62) (option_with Pragma t)
    (cond (ltb last b && eqb b 0x63) (option_with PragmaFrag t)
    (cond (ltb last b && eqb b 0x64) (option_with ImportSource t)
    (Err Wrong))))
