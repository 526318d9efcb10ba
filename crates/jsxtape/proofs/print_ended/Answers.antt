use native.Mathlib.Omega.{arith}
use Rattle.jsxtape.proofs.Ending.{parts}
use Rattle.jsxtape.proofs.print_ended.Goals as goal

pub shared_ref_as_front-print_line : goal.shared_ref_as_front-print_line
shared_ref_as_front-print_line g c = omega (arith, (parts c.args.ended _ c.in-Ok.is c.requires).0)

pub shared_ref_as_front-print_line-in-Ok : goal.shared_ref_as_front-print_line-in-Ok
shared_ref_as_front-print_line-in-Ok g c = omega (arith, (parts c.args.ended _ c.in-Ok.is c.requires).1)

pub shared_ref_as_front-print_line-in-Ok-2 : goal.shared_ref_as_front-print_line-in-Ok-2
shared_ref_as_front-print_line-in-Ok-2 g c = omega (arith, (parts c.args.ended _ c.in-Ok.is c.requires).2)
