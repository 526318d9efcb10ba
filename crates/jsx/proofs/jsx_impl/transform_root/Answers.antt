use Rattle.std.proofs.Common.{true, arith}
use borrow.Author.Rules.{rules}
use Rattle.text.proofs.Lists.{tail_part}
use Rattle.commands.proofs.Lengths.{scope_fits}
use Rattle.emit.specs.Contexts.{context_of}
use Rattle.jsx.proofs.Turns.{arm}
use Rattle.jsx.proofs.Heads.{root_element, root_fragment}
use Rattle.jsx.proofs.jsx_impl.transform_root.Goals as goal

pub slice_bounds-transform_jsx-count : goal.slice_bounds-transform_jsx-count
slice_bounds-transform_jsx-count c = scope_fits true c.args.tape.now (arm c.scope_command_at.ensures c.in-Ok-Element.is c.in-Ok-Element.field-0-is)

pub slice_bounds-transform_jsx-start : goal.slice_bounds-transform_jsx-start
slice_bounds-transform_jsx-start c = omega (arith, scope_fits true c.args.tape.now (arm c.scope_command_at.ensures c.in-Ok-Element.is c.in-Ok-Element.field-0-is))

pub slice_bounds-fragment-count : goal.slice_bounds-fragment-count
slice_bounds-fragment-count c = scope_fits true c.args.tape.now (arm c.scope_command_at.ensures c.in-Ok-Fragment.is c.in-Ok-Fragment.field-0-is)

pub slice_bounds-fragment-start : goal.slice_bounds-fragment-start
slice_bounds-fragment-start c = omega (arith, scope_fits true c.args.tape.now (arm c.scope_command_at.ensures c.in-Ok-Fragment.is c.in-Ok-Fragment.field-0-is))

pub returns-in-Ok-Element-clause-written : goal.returns-in-Ok-Element-clause-written
returns-in-Ok-Element-clause-written c =
    let q = arm c.scope_command_at.ensures c.in-Ok-Element.is c.in-Ok-Element.field-0-is in
    root_element (context_of c.args.sound.now.context) c.args.tape.now _ (tail_part c.args.tape.now 9) (scope_fits true c.args.tape.now q) c.in-Ok-Element.place q (search rules)
    (search rules) c.transform_jsx.ensures.written

pub returns-in-Ok-Fragment-clause-written : goal.returns-in-Ok-Fragment-clause-written
returns-in-Ok-Fragment-clause-written c =
    let q = arm c.scope_command_at.ensures c.in-Ok-Fragment.is c.in-Ok-Fragment.field-0-is in
    root_fragment (context_of c.args.sound.now.context) c.args.tape.now _ (tail_part c.args.tape.now 9) (scope_fits true c.args.tape.now q) _ q c.fragment.ensures.written
