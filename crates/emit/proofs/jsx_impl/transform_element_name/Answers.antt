use Rattle.std.proofs.Common.{◌≡◌, Ok, arith}
use Rattle.text.proofs.Lists.{told}
use Rattle.commands.specs.declared.root.NameCommand.TheVariants as command
use Rattle.commands.specs.Root.{name_command}
use Rattle.commands.proofs.Lengths.{name_fits}
use Rattle.definitions.specs.Reading.{members_at}
use Rattle.definitions.specs.Calls.{span_code, bare_code}
use Rattle.definitions.specs.Lowering.{lower_name}
use Rattle.emit.proofs.Readings.{in_part, part_short}
use Rattle.emit.proofs.Names.{name_plain, name_identifier, name_this, name_namespaced, name_error}
use Rattle.pen.proofs.Emitting.{produced_then}
use Rattle.emit.proofs.jsx_impl.transform_element_name.Goals as goal
use Rattle.emit.proofs.jsx_impl.transform_element_name.Goals.{In-Ok-Identifier, In-Ok-This, In-Ok-Namespaced, then-context, else-context}

identifier : (c : In-Ok-Identifier) → name_command c.args.tape.now ≡ Ok (command.Identifier c.in-Ok-Identifier.name)
identifier c = told c.name_command_at.ensures (let e : c.name_command_at.result ≡ Ok (command.Identifier c.in-Ok-Identifier.name) = cc in e)

this : (c : In-Ok-This) → name_command c.args.tape.now ≡ Ok command.This
this c = told c.name_command_at.ensures (let e : c.name_command_at.result ≡ Ok command.This = cc in e)

namespaced : (c : In-Ok-Namespaced) → name_command c.args.tape.now ≡ Ok (command.Namespaced c.in-Ok-Namespaced.namespace c.in-Ok-Namespaced.name)
namespaced c =
    told c.name_command_at.ensures
    (let e : c.name_command_at.result ≡ Ok (command.Namespaced c.in-Ok-Namespaced.namespace c.in-Ok-Namespaced.name) = cc in e)

pub slice_bounds-transform_jsx_member_expression-count : goal.slice_bounds-transform_jsx_member_expression-count
slice_bounds-transform_jsx_member_expression-count c =
    name_fits c.args.tape.now (identifier (goal.at.slice_bounds-transform_jsx_member_expression-count c).In-Ok-Identifier)

pub slice_bounds-transform_jsx_member_expression-start : goal.slice_bounds-transform_jsx_member_expression-start
slice_bounds-transform_jsx_member_expression-start c =
    omega (arith, name_fits c.args.tape.now (identifier (goal.at.slice_bounds-transform_jsx_member_expression-start c).In-Ok-Identifier))

pub slice_bounds-transform_jsx_member_expression-count-in-Ok-This : goal.slice_bounds-transform_jsx_member_expression-count-in-Ok-This
slice_bounds-transform_jsx_member_expression-count-in-Ok-This c =
    name_fits c.args.tape.now (this (goal.at.slice_bounds-transform_jsx_member_expression-count-in-Ok-This c).In-Ok-This)

pub slice_bounds-transform_jsx_member_expression-start-in-Ok-This : goal.slice_bounds-transform_jsx_member_expression-start-in-Ok-This
slice_bounds-transform_jsx_member_expression-start-in-Ok-This c =
    omega (arith, name_fits c.args.tape.now (this (goal.at.slice_bounds-transform_jsx_member_expression-start-in-Ok-This c).In-Ok-This))

pub returns-after-context-clause-written : goal.returns-after-context-clause-written
unfolding lower_name
returns-after-context-clause-written c = λ t b text f n u h r.
    let q = name_namespaced f text c.args.tape.now n u r c.in-Ok-Namespaced.namespace c.in-Ok-Namespaced.name (namespaced (goal.at.returns-after-context-clause-written c).In-Ok-Namespaced) in
    elim c.if-context.branch [
      | then-context w ↦ rw (← q, w.if-context.true) (produced_then w.namespace_does_not_support.ensures.notice (rw w.pen-is at c.put_namespaced.ensures.written))
      | else-context w ↦ rw (← q, w.if-context.false) (rw w.pen-is at c.put_namespaced.ensures.written)
    ]

pub returns-in-Ok-Plain-clause-written : goal.returns-in-Ok-Plain-clause-written
unfolding lower_name
returns-in-Ok-Plain-clause-written c =
    let e : c.name_command_at.result ≡ Ok (command.Plain c.in-Ok-Plain.name) = cc in
    λ t b text f n u h r. rw (← name_plain f text c.args.tape.now n u r c.in-Ok-Plain.name (told c.name_command_at.ensures e)) c.put_string.ensures.written

pub returns-in-Ok-Identifier-clause-written : goal.returns-in-Ok-Identifier-clause-written
unfolding lower_name span_code
returns-in-Ok-Identifier-clause-written c = λ t b text f n u h r.
    let m = name_identifier f text c.args.tape.now n u r c.in-Ok-Identifier.name (identifier (goal.at.returns-in-Ok-Identifier-clause-written c).In-Ok-Identifier) in
    rw (← m.is)
    (produced_then c.put_spanned.ensures.written
    (c.transform_jsx_member_expression.ensures.written text f m.members m.size (part_short c.args.tape.now 5 f h) (in_part (members_at f text) c.args.tape.now 5 m.reads)))

pub returns-in-Ok-This-clause-written : goal.returns-in-Ok-This-clause-written
unfolding lower_name bare_code
returns-in-Ok-This-clause-written c = λ t b text f n u h r.
    let m = name_this f text c.args.tape.now n u r (this (goal.at.returns-in-Ok-This-clause-written c).In-Ok-This) in
    rw (← m.is)
    (produced_then c.put_bare.ensures.written
    (c.transform_jsx_member_expression-in-Ok-This.ensures.written text f m.members m.size (part_short c.args.tape.now 1 f h) (in_part (members_at f text) c.args.tape.now 1 m.reads)))

pub returns-in-Err-clause-written : goal.returns-in-Err-clause-written
returns-in-Err-clause-written c = λ t b text f n u h r. name_error f text c.args.tape.now n u r (told c.name_command_at.ensures c.in-Err.is)
