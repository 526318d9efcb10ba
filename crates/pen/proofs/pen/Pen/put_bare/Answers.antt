use Rattle.std.proofs.Common.{ℕ, [], ◌∷◌, refl, ap, sym, arith}
use Rattle.definitions.specs.Store.{bound_by, numbered}
use Rattle.definitions.specs.Calls.{bytes_of}
use Rattle.pen.proofs.Commands.{called_plain}
use Rattle.pen.proofs.pen.Pen.put_bare.Goals as goal

pub returns-clause-written : goal.returns-clause-written
unfolding bound_by numbered bytes_of
returns-clause-written c = called_plain (λ js. refl) (λ js. ap (λ (b : ℕ). b ∷ []) (sym c.code.ensures)) c.put_call.ensures.lent (record { calls = omega arith; notices = omega arith }) c.put_call.ensures
