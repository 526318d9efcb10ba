use Rattle.printing.specs.Lines.{hex_bytes}
use Rattle.tape.proofs.Filling.{filled_start, filled_next}
use Rattle.printing.proofs.Filling.{hex_snoc}
use native.Mathlib.Omega.{arith}
use mathlib.Core.Path.{refl}
use Rattle.printing.proofs.put_bytes.Goals as goal

pub loop-b-init : goal.loop-b-init
unfolding hex_bytes
loop-b-init c = filled_start hex_bytes _ refl (omega arith)

pub loop-b-preserved : goal.loop-b-preserved
loop-b-preserved c =
    filled_next hex_bytes _ (λ xs. hex_snoc xs _) (omega arith) c.loop-b-test.true c.loop-b.invariant c.put_byte-next.ensures
