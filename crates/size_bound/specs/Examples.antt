-- Worked examples of the bound, computed from the definition.
use Rattle.std.specs.Prelude.{◌≡◌, refl, [], ◌∷◌, map, replicate}
use Rattle.commands.specs.Sizes.{root_commands, size_in, command_size}
use Rattle.size_bound.specs.SizeBound.{text_length, texts_behind, size_bound, call_size_bound}

-- no tape; one end; a text of 258 bytes; two texts of three, and a 50 among the operands of a 41, which is none; a text that is cut off
pub rooms :
    map call_size_bound
    ([]
    ∷ (0x1f ∷ [])
    ∷ (0x50 ∷ 0 ∷ 0 ∷ 2 ∷ 1 ∷ [])
    ∷ (0x50 ∷ 0 ∷ 0 ∷ 3 ∷ 0 ∷ 0x41 ∷ 0x50 ∷ 0 ∷ 9 ∷ 0 ∷ 0x50 ∷ 3 ∷ 0 ∷ 3 ∷ 0 ∷ [])
    ∷ (0x50 ∷ 0 ∷ 0 ∷ 9 ∷ [])
    ∷ [])
    ≡ 0 ∷ 4 ∷ 1568 ∷ 96 ∷ 16 ∷ []
unfolding call_size_bound size_bound texts_behind text_length command_size size_in root_commands
rooms = refl

-- a tape over the limit
pub over_limit : call_size_bound (replicate 65536 0) ≡ 0
unfolding call_size_bound
over_limit = refl
