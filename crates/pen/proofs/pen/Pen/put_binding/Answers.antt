use Rattle.std.proofs.Common.{[], ◌∷◌, refl, arith}
use Rattle.definitions.specs.Store.{bound_by, numbered}
use Rattle.definitions.specs.Calls.{bytes_of}
use Rattle.pen.proofs.Commands.{numbered_lent, called_bound}
use Rattle.pen.proofs.pen.Pen.put_binding.Goals as goal

pub returns-clause-written : goal.returns-clause-written
unfolding bound_by numbered bytes_of
returns-clause-written c =
    called_bound c.args.import (λ n. 0x96 ∷ n ∷ []) (λ js. refl) (λ js. refl) (λ k m. refl)
    (numbered_lent c.args.import c.number_of-number.ensures.after c.put_call.ensures.lent)
    (record { calls = omega arith; notices = omega arith })
    (rw (← c.number_of-number.ensures.number, ← c.number_of-number.ensures.after) c.put_call.ensures)
