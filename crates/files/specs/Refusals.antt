-- A refusal as the programs print it. The specification: "a refusal prints one line, `refused N P`, number and returned figure in decimal".
use Rattle.std.specs.Prelude.{ℕ, List, [], ◌∷◌, ◌++◌, decimal}
use Rattle.text.specs.Bytes.{ascii}
use Rattle.tape.specs.declared.refusal.Refusal.{Refusal}
use Rattle.tape.specs.Refusals.{number_of, figure_of}

abbrev pub refusal_line : Refusal → List ℕ
refusal_line r = ascii "refused " ++ decimal (number_of r) ++ ascii " " ++ decimal (figure_of r) ++ (0x0a ∷ [])
