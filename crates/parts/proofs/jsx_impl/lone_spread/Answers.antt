use Rattle.std.proofs.Common.{◌≡◌, Ok, ap, ◌∙◌, arith}
use Rattle.text.proofs.Lists.{told, tail_part}
use Rattle.std.proofs.Common.{length}
use lib.ListN.{length-drop}
use Rattle.emit.specs.Contexts.{over_both}
use Rattle.commands.specs.declared.root.AttributeCommand.TheVariants as attributes
use Rattle.commands.specs.Root.{attribute_command}
use Rattle.commands.proofs.Lengths.{attribute_fits}
use Rattle.parts.proofs.Spreading.{lone_on, lone_other, lone_error, lone_spread, lone_literal, lone_proto, on_self, on_source, off_both, alone_within}
use Rattle.parts.proofs.jsx_impl.lone_spread.Goals as goal
use Rattle.parts.proofs.jsx_impl.lone_spread.Goals.{In-Spread, In-Literal, then-flags-via-then-flags, then-flags-via-else-flags+then-flags-2}

spread : (c : In-Spread) → attribute_command c.args.tape.now ≡ Ok (attributes.Spread c.in-Spread.e)
spread c = told c.attribute_command_at.ensures (c.in-Ok.is ∙ ap Ok c.in-Spread.is)

literal : (c : In-Literal) → attribute_command c.args.tape.now ≡ Ok (attributes.Literal c.in-Literal.e)
literal c = told c.attribute_command_at.ensures (c.in-Ok.is ∙ ap Ok c.in-Literal.is)

pub returns-then-flags-clause-sole_at : goal.returns-then-flags-clause-sole_at
returns-then-flags-clause-sole_at c = λ b f d a u h i.
    elim c.then-flags.branch [
      | then-flags-via-then-flags w ↦ lone_on _ a u (on_self (over_both c.args.context.now b) w.if-flags.true)
      | then-flags-via-else-flags+then-flags-2 w ↦ lone_on _ a u (on_source (over_both c.args.context.now b) w.if-flags-2.true)
    ]

pub sole-requires : goal.sole-requires
sole-requires c = attribute_fits c.args.tape.now (spread (goal.at.sole-requires c).In-Spread)

pub slice_bounds-has_proto-count : goal.slice_bounds-has_proto-count
slice_bounds-has_proto-count c = attribute_fits c.args.tape.now (literal (goal.at.slice_bounds-has_proto-count c).In-Literal)

pub slice_bounds-has_proto-start : goal.slice_bounds-has_proto-start
slice_bounds-has_proto-start c = omega (arith, attribute_fits c.args.tape.now (literal (goal.at.slice_bounds-has_proto-start c).In-Literal))

pub returns-then-proto-clause-sole_at : goal.returns-then-proto-clause-sole_at
returns-then-proto-clause-sole_at c =
    let q = literal (goal.at.returns-then-proto-clause-sole_at c).In-Literal in
    λ b f d a u h i.
    lone_proto _ _ c.args.tape.now f d a u i _ _ _ q
    (λ g ps w j l. c.has_proto-proto.ensures.found_value _ _ g ps w j l) h (attribute_fits c.args.tape.now q) c.if-proto.true

pub sole-requires-in-Literal : goal.sole-requires-in-Literal
sole-requires-in-Literal c =
    omega
    (arith, c.has_proto-proto.ensures.used_in_bounds, ap length (tail_part c.args.tape.now 3), length-drop 3 c.args.tape.now, attribute_fits c.args.tape.now (literal (goal.at.sole-requires-in-Literal c).In-Literal))

pub returns-in-Spread-clause-lone_within : goal.returns-in-Spread-clause-lone_within
returns-in-Spread-clause-lone_within c = alone_within c.args.tape.now _ 3 _ c.sole.ensures

pub returns-in-Spread-clause-sole_at : goal.returns-in-Spread-clause-sole_at
returns-in-Spread-clause-sole_at c =
    let q = spread (goal.at.returns-in-Spread-clause-sole_at c).In-Spread in
    λ b f d a u h i. lone_spread _ _ c.args.tape.now f d a u i _ _ q (off_both (over_both c.args.context.now b) c.if-flags.false c.if-flags-2.false) c.sole.ensures

pub returns-else-proto-clause-lone_within : goal.returns-else-proto-clause-lone_within
returns-else-proto-clause-lone_within c = alone_within c.args.tape.now _ _ _ c.sole-in-Literal.ensures

pub returns-else-proto-clause-sole_at : goal.returns-else-proto-clause-sole_at
returns-else-proto-clause-sole_at c =
    let q = literal (goal.at.returns-else-proto-clause-sole_at c).In-Literal in
    λ b f d a u h i.
    lone_literal _ _ c.args.tape.now f d a u i _ _ _ _ q (off_both (over_both c.args.context.now b) c.if-flags.false c.if-flags-2.false)
    (λ g ps w j l. c.has_proto-proto.ensures.found_value _ _ g ps w j l) h (attribute_fits c.args.tape.now q) c.if-proto.false
    c.sole-in-Literal.ensures

pub returns-in_default-clause-sole_at : goal.returns-in_default-clause-sole_at
returns-in_default-clause-sole_at c = λ b f d a u h i. lone_error _ _ c.args.tape.now f d a u i (told c.attribute_command_at.ensures c.in_default.is)

pub returns-in_default-command-clause-sole_at : goal.returns-in_default-command-clause-sole_at
returns-in_default-command-clause-sole_at c = λ b f d a u h i.
    lone_other _ _ c.args.tape.now f d a u i _ (told c.attribute_command_at.ensures c.in-Ok.is) c.in_default-command.not-Spread c.in_default-command.not-Literal
