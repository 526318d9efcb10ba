use borrow.Author.Tests.{lt-ltb, le-ltb}
use Rattle.printing.specs.Lines.{hex_digit}
use mathlib.Core.Path.{refl}
use Rattle.printing.proofs.digit.Goals as goal

pub returns-then-n-lt10 : goal.returns-then-n-lt10
unfolding hex_digit
returns-then-n-lt10 c = rw (lt-ltb _ _ c.if-n-lt10.true) refl

pub returns : goal.returns
unfolding hex_digit
returns c = rw (le-ltb _ _ c.if-n-lt10.false) refl
