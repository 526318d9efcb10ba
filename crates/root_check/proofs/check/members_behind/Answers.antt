use Rattle.root_check.proofs.Readings.{members_reads}
use Rattle.root_check.proofs.Behind.{part_reach, opens_behind}
use native.Mathlib.Omega.{arith}
use Rattle.root_check.proofs.check.members_behind.Goals as goal

pub further-requires : goal.further-requires
further-requires c =
    omega (arith, part_reach (λ f t. members_reads f c.args.text.now t) c.args.n c.args.tape.now c.requires.1 c.check_members.ensures)

pub returns : goal.returns
returns c = opens_behind c.args.n _ c.requires.0 c.requires.1 c.check_members.ensures c.further.ensures
