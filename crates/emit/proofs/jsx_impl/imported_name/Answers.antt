use Rattle.definitions.specs.Lowering.{imported}
use Rattle.definitions.specs.Calls.{byte_code}
use Rattle.pen.proofs.Emitting.{produced_then}
use Rattle.emit.proofs.jsx_impl.imported_name.Goals as goal

pub returns-in-Module-clause-written : goal.returns-in-Module-clause-written
unfolding imported
returns-in-Module-clause-written c = rw (c.in-Module.is, ← c.source_of-source.ensures) c.put_binding.ensures.written

pub returns-in-Script-clause-written : goal.returns-in-Script-clause-written
unfolding imported byte_code
returns-in-Script-clause-written c = rw (c.in-Script.is, ← c.source_of-source.ensures)
    (produced_then c.put_binding-in-Script.ensures.written c.put_byte.ensures.written)

pub returns-in-Classic-clause-written : goal.returns-in-Classic-clause-written
unfolding imported byte_code
returns-in-Classic-clause-written c = rw (c.in-Classic.is, ← c.number.ensures) c.put_byte-in-Classic.ensures.written
