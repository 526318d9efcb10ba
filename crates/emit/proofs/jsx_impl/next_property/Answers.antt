use Rattle.std.proofs.Common.{◌≡◌, Ok, ap, ◌∙◌, arith}
use Rattle.text.proofs.Lists.{told, tail_part}
use Rattle.commands.specs.declared.root.PropertyCommand.TheVariants as command
use Rattle.commands.specs.Root.{property_command}
use Rattle.commands.proofs.Lengths.{property_fits}
use Rattle.emit.specs.Properties.{NextIs}
use Rattle.emit.proofs.Readings.{part_smaller}
use Rattle.emit.proofs.Properties.{next_unnamed, next_named, next_end, next_error}
use Rattle.emit.proofs.jsx_impl.next_property.Goals as goal
use Rattle.emit.proofs.jsx_impl.next_property.Goals.{In-Property, In-Named}

unnamed : (c : In-Property) → property_command c.args.tape.now ≡ Ok (command.Property c.in-Property.value)
unnamed c = told c.property_command_at.ensures (c.in-Ok.is ∙ ap Ok c.in-Property.is)

named : (c : In-Named) → property_command c.args.tape.now ≡ Ok (command.Named c.in-Named.value c.in-Named.name)
named c = told c.property_command_at.ensures (c.in-Ok.is ∙ ap Ok c.in-Named.is)

pub returns-in_default-clause-next : goal.returns-in_default-clause-next
returns-in_default-clause-next c = λ f text ps u d. next_error f text c.args.tape.now ps u d (told c.property_command_at.ensures c.in_default.is)

pub slice_bounds-result-count : goal.slice_bounds-result-count
slice_bounds-result-count c = property_fits c.args.tape.now (unnamed (goal.at.slice_bounds-result-count c).In-Property)

pub slice_bounds-result-start : goal.slice_bounds-result-start
slice_bounds-result-start c = omega (arith, property_fits c.args.tape.now (unnamed (goal.at.slice_bounds-result-start c).In-Property))

pub slice_bounds-result-count-in-Named : goal.slice_bounds-result-count-in-Named
slice_bounds-result-count-in-Named c = property_fits c.args.tape.now (named (goal.at.slice_bounds-result-count-in-Named c).In-Named)

pub slice_bounds-result-start-in-Named : goal.slice_bounds-result-start-in-Named
slice_bounds-result-start-in-Named c = omega (arith, property_fits c.args.tape.now (named (goal.at.slice_bounds-result-start-in-Named c).In-Named))

pub returns-in-Property-clause-shorter : goal.returns-in-Property-clause-shorter
returns-in-Property-clause-shorter c =
    part_smaller c.args.tape.now 3 (omega arith) (property_fits c.args.tape.now (unnamed (goal.at.returns-in-Property-clause-shorter c).In-Property))

pub returns-in-Property-clause-next : goal.returns-in-Property-clause-next
unfolding NextIs
returns-in-Property-clause-next c =
    λ f text ps u d. next_unnamed f text c.args.tape.now ps u d c.in-Property.value _ (unnamed (goal.at.returns-in-Property-clause-next c).In-Property) (tail_part c.args.tape.now 3)

pub returns-in-Named-clause-shorter : goal.returns-in-Named-clause-shorter
returns-in-Named-clause-shorter c =
    part_smaller c.args.tape.now 7 (omega arith) (property_fits c.args.tape.now (named (goal.at.returns-in-Named-clause-shorter c).In-Named))

pub returns-in-Named-clause-next : goal.returns-in-Named-clause-next
unfolding NextIs
returns-in-Named-clause-next c =
    λ f text ps u d.
    next_named f text c.args.tape.now ps u d c.in-Named.value c.in-Named.name _ (named (goal.at.returns-in-Named-clause-next c).In-Named) (tail_part c.args.tape.now 7)

pub returns-in-End-clause-next : goal.returns-in-End-clause-next
unfolding NextIs
returns-in-End-clause-next c = λ f text ps u d. next_end f text c.args.tape.now ps u d (told c.property_command_at.ensures (c.in-Ok.is ∙ ap Ok c.in-End.is))
