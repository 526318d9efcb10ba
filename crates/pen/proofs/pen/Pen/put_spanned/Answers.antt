use Rattle.std.proofs.Common.{ℕ, ◌∷◌, refl, ap, sym, arith}
use Rattle.tape.specs.Numbers.{span_bytes}
use Rattle.definitions.specs.Store.{bound_by, numbered}
use Rattle.definitions.specs.Calls.{bytes_of}
use Rattle.pen.proofs.Emitting.{lent_then}
use Rattle.pen.proofs.Commands.{called_plain, call_then}
use Rattle.pen.proofs.pen.Pen.put_spanned.Goals as goal

pub returns-clause-written : goal.returns-clause-written
unfolding bound_by numbered bytes_of
returns-clause-written c = called_plain (λ js. refl) (λ js. ap (λ (b : ℕ). b ∷ span_bytes c.args.span) (sym c.code-code.ensures)) (lent_then c.put_call.ensures.lent c.put_call-2.ensures.lent) (record { calls = omega arith; notices = omega arith }) (call_then (omega arith) c.put_call.ensures c.put_call-2.ensures)
