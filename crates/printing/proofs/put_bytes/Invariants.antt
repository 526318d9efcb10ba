use Rattle.printing.specs.Lines.{hex_bytes}
use Rattle.tape.proofs.Filling.{Filled}
use Rattle.printing.proofs.put_bytes.Given as goal

abbrev pub invariant-loop-b : goal.invariant-loop-b
invariant-loop-b l = Filled hex_bytes l.bytes l.initial.out l.out l.at l.next l.b-index
