use Rattle.definitions.specs.Calls.{bare_code, span_code}
use Rattle.definitions.specs.Lowering.{attribute_name, is_found}
use Rattle.pen.proofs.Emitting.{produced_then}
use Rattle.emit.proofs.jsx_impl.get_attribute_name.Goals as goal

pub returns-in-Some-clause-written : goal.returns-in-Some-clause-written
unfolding attribute_name is_found bare_code
returns-in-Some-clause-written c = λ s b. rw (← c.part.ensures, ← c.in-Some.ensures)
    (produced_then c.put_bare.ensures.written c.put_string.ensures.written)

pub returns-in-None-clause-written : goal.returns-in-None-clause-written
unfolding attribute_name is_found span_code
returns-in-None-clause-written c = λ s b. rw (← c.part.ensures, ← c.in-None.ensures) c.put_spanned.ensures.written
