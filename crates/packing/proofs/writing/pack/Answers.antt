use native.Mathlib.Omega.{arith}
use mathlib.Core.Path.{◌≡◌}
use lib.ListN.{length}
use Rattle.packing.proofs.Bytes.{packed_laid}
use Rattle.packing.proofs.writing.pack.Goals as goal

pub returns-clause-out_after : goal.returns-clause-out_after
returns-clause-out_after c =
    let e : length c.args.state.records ≡ 8 = omega arith in
    packed_laid c.args.state c.args.out.now e c.if-out-lt-STATE_SIZE.false c.put_state.ensures
