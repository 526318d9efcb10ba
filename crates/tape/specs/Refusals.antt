-- The number of a refusal and the figure that is returned with it: the table of docs/TAPES.md, Refusals.
use Rattle.std.specs.Prelude.{ℕ, List, [], ◌∷◌}
use Rattle.tape.specs.declared.refusal.Fault.{Fault}
use Rattle.tape.specs.declared.refusal.Fault.TheVariants.{Grammar, Outside, Cuts, EmptyName, Depth, Reference, Position}
use Rattle.tape.specs.declared.refusal.TapeError.{TapeError}
use Rattle.tape.specs.declared.refusal.Refusal.{Refusal}
use Rattle.tape.specs.declared.refusal.Refusal.TheVariants.{TooLong, NotUtf8, Tape, PragmaByte, Bindings, Space, NoticeSpace, Forged}

-- the number of what is wrong at a command: "A span that ends beyond the text keeps 4. One that cuts a character gets its own number, and so does an empty name."
unfoldable pub fault_number : Fault → ℕ
fault_number Grammar = 3
fault_number Outside = 4
fault_number Cuts = 13
fault_number EmptyName = 14
fault_number Depth = 6
fault_number Reference = 7
fault_number Position = 8

-- in which order the faults of one command are told: "13 span cuts a character, directly after 4; 14 empty name, directly after 13", and the others as they were. By
-- number it is 3, 4, 13, 14, 6, 7, 8 (Examples, `order_by_number`)
abbrev pub fault_order : List Fault
fault_order = Grammar ∷ Outside ∷ Cuts ∷ EmptyName ∷ Depth ∷ Reference ∷ Position ∷ []

unfoldable pub number_of : Refusal → ℕ
number_of TooLong = 1
number_of (NotUtf8 p) = 2
number_of (Tape f p) = fault_number f
number_of (PragmaByte p) = 5
number_of Bindings = 9
number_of (Space n) = 10
number_of (NoticeSpace n) = 11
number_of Forged = 12

unfoldable pub figure_of : Refusal → ℕ
figure_of TooLong = 65535
figure_of (NotUtf8 p) = p
figure_of (Tape f p) = p
figure_of (PragmaByte p) = p
figure_of Bindings = 8
figure_of (Space n) = n
figure_of (NoticeSpace n) = n
figure_of Forged = 0

-- what is wrong at a command, and the place that is told with it
abbrev pub fault_at : Fault → ℕ → TapeError
fault_at f p = record { fault = f; place = p }
