use native.Mathlib.Omega.{arith}
use Rattle.std.proofs.lemmas.Fmt.{decimal_digit}
use Rattle.files.proofs.Lines.{more_digits}
use Rattle.files.proofs.+put_decimal.Goals as goal

pub returns-then-n-lt10 : goal.returns-then-n-lt10
returns-then-n-lt10 t c = rw (decimal_digit c.args.n c.if-n-lt10.true) c.encode.ensures

pub returns : goal.returns
returns t c = more_digits c.args.n c.if-n-lt10.false (omega arith) (omega arith) c.put_decimal-next.ensures c.encode-2.ensures
