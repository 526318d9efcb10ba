use native.Mathlib.Omega.{arith}
use Rattle.tape.proofs.Shifts.{four_joined}
use Rattle.tape.proofs.numbers.long.Goals as goal

pub returns : goal.returns
returns c = four_joined c.args.a c.args.b c.args.c c.args.d (omega arith) (omega arith) (omega arith) (omega arith)
