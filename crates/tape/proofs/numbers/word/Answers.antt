use native.Mathlib.Omega.{arith}
use Rattle.tape.proofs.Shifts.{joined}
use Rattle.tape.proofs.numbers.word.Goals as goal

pub returns : goal.returns
returns c = joined c.args.a c.args.b 8 16 (omega arith) (omega arith) (omega arith)
