-- The bytes of a JSX text's lines on the call tape: "8A, pieces, 8D string (8B S, 8C space, 8E colon; an empty S is no piece)".
use Rattle.std.specs.Prelude.{ℕ, Bool, cond, List, [], ◌∷◌, eqb}
use Rattle.text.specs.declared.spans.Span.{Span}
use Rattle.tape.specs.Numbers.{span_bytes}
use Rattle.definitions.specs.Calls.{call_bytes}
use Rattle.definitions.specs.Store.{numbered_all}
use Rattle.definitions.specs.Lowering.{lower_text, commands_of}

-- the bytes of a text child whose lines are these
unfoldable pub text_bytes : List Span → List ℕ
text_bytes ls = call_bytes (numbered_all [] (commands_of (lower_text ls)))

-- ---- the same line by line, as it is written: whether a line was written before decides how the next one begins

abbrev pub piece_bytes : Span → List ℕ
piece_bytes s = cond (eqb s.len 0) [] (0x8b ∷ span_bytes s)

-- a line: the string's begin or a space, and the piece
unfoldable pub line_bytes : Bool → Span → List ℕ
line_bytes later s = cond later 0x8c 0x8a ∷ piece_bytes s

-- behind the last line
unfoldable pub end_bytes : Bool → List ℕ
end_bytes some = cond some (0x8d ∷ []) []
