use Rattle.std.proofs.Common.{◌≡◌, Ok, ap, ◌∙◌, arith}
use Rattle.text.proofs.Lists.{told, tail_part}
use Rattle.std.proofs.Common.{length}
use lib.ListN.{length-drop}
use Rattle.commands.specs.declared.root.NameCommand.TheVariants as names
use Rattle.commands.specs.Root.{name_command}
use Rattle.commands.proofs.Lengths.{name_fits}
use Rattle.definitions.specs.Reading.{members_at}
use Rattle.emit.proofs.Readings.{in_part}
use Rattle.parts.proofs.Fronts.{plain_name, namespaced_name, identifier_name, this_name, error_name}
use Rattle.parts.proofs.jsx_impl.skip_name.Goals as goal
use Rattle.parts.proofs.jsx_impl.skip_name.Goals.{In-Plain, In-Identifier, In-This, In-Namespaced}

plain : (c : In-Plain) → name_command c.args.tape.now ≡ Ok (names.Plain c.in-Plain.field-0)
plain c = told c.name_command_at.ensures (c.in-Ok.is ∙ ap Ok c.in-Plain.is)

identifier : (c : In-Identifier) → name_command c.args.tape.now ≡ Ok (names.Identifier c.in-Identifier.field-0)
identifier c = told c.name_command_at.ensures (c.in-Ok.is ∙ ap Ok c.in-Identifier.is)

this : (c : In-This) → name_command c.args.tape.now ≡ Ok names.This
this c = told c.name_command_at.ensures (c.in-Ok.is ∙ ap Ok c.in-This.is)

namespaced : (c : In-Namespaced) → name_command c.args.tape.now ≡ Ok (names.Namespaced c.in-Namespaced.field-0 c.in-Namespaced.field-1)
namespaced c = told c.name_command_at.ensures (c.in-Ok.is ∙ ap Ok c.in-Namespaced.is)

pub slice_bounds-skip_members-count : goal.slice_bounds-skip_members-count
slice_bounds-skip_members-count c = name_fits _ (identifier (goal.at.slice_bounds-skip_members-count c).In-Identifier)

pub slice_bounds-skip_members-start : goal.slice_bounds-skip_members-start
slice_bounds-skip_members-start c = omega (arith, name_fits _ (identifier (goal.at.slice_bounds-skip_members-start c).In-Identifier))

pub slice_bounds-skip_members-count-in-This : goal.slice_bounds-skip_members-count-in-This
slice_bounds-skip_members-count-in-This c = name_fits _ (this (goal.at.slice_bounds-skip_members-count-in-This c).In-This)

pub slice_bounds-skip_members-start-in-This : goal.slice_bounds-skip_members-start-in-This
slice_bounds-skip_members-start-in-This c = omega (arith, name_fits _ (this (goal.at.slice_bounds-skip_members-start-in-This c).In-This))

pub returns-in-Plain-clause-within : goal.returns-in-Plain-clause-within
returns-in-Plain-clause-within c = name_fits _ (plain (goal.at.returns-in-Plain-clause-within c).In-Plain)

pub returns-in-Plain-clause-read : goal.returns-in-Plain-clause-read
returns-in-Plain-clause-read c = λ f text n u e. plain_name f text _ n u e _ (plain (goal.at.returns-in-Plain-clause-read c).In-Plain)

pub returns-in-Identifier-clause-within : goal.returns-in-Identifier-clause-within
returns-in-Identifier-clause-within c =
    omega
    (arith, name_fits _ (identifier (goal.at.returns-in-Identifier-clause-within c).In-Identifier), c.skip_members.ensures.within, ap length (tail_part c.args.tape.now 5), length-drop 5 c.args.tape.now)

pub returns-in-Identifier-clause-read : goal.returns-in-Identifier-clause-read
returns-in-Identifier-clause-read c = λ f text n u e.
    let m = identifier_name f text _ n u e _ (identifier (goal.at.returns-in-Identifier-clause-read c).In-Identifier) in
    omega (arith, c.skip_members.ensures.read f text m.0 m.1 (in_part (members_at f text) c.args.tape.now 5 m.2), m.3)

pub returns-in-This-clause-within : goal.returns-in-This-clause-within
returns-in-This-clause-within c =
    omega
    (arith, name_fits _ (this (goal.at.returns-in-This-clause-within c).In-This), c.skip_members-in-This.ensures.within, ap length (tail_part c.args.tape.now 1), length-drop 1 c.args.tape.now)

pub returns-in-This-clause-read : goal.returns-in-This-clause-read
returns-in-This-clause-read c = λ f text n u e.
    let m = this_name f text _ n u e (this (goal.at.returns-in-This-clause-read c).In-This) in
    omega (arith, c.skip_members-in-This.ensures.read f text m.0 m.1 (in_part (members_at f text) c.args.tape.now 1 m.2), m.3)

pub returns-in-Namespaced-clause-within : goal.returns-in-Namespaced-clause-within
returns-in-Namespaced-clause-within c = name_fits _ (namespaced (goal.at.returns-in-Namespaced-clause-within c).In-Namespaced)

pub returns-in-Namespaced-clause-read : goal.returns-in-Namespaced-clause-read
returns-in-Namespaced-clause-read c = λ f text n u e. namespaced_name f text _ n u e _ _ (namespaced (goal.at.returns-in-Namespaced-clause-read c).In-Namespaced)

pub returns-in_default-clause-read : goal.returns-in_default-clause-read
returns-in_default-clause-read c = λ f text n u e. absurd (error_name f text _ n u e (told c.name_command_at.ensures c.in_default.is))
