use Rattle.std.proofs.Common.{rules, ◌≡◌}
use Rattle.definitions.specs.Lowering.{pure_byte}
use Rattle.pen.proofs.Emitting.{produced_then}
use Rattle.emit.proofs.jsx_impl.closing.Goals as goal

pub returns-clause-written : goal.returns-clause-written
returns-clause-written c =
    let e : c.from.result ≡ pure_byte c.args.context.now.settings.now.pure = search rules in
    produced_then c.put_bare.ensures.written (produced_then c.get_create_element.ensures.written (rw (← e) c.put_byte.ensures.written))
