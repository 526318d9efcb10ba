use Rattle.std.proofs.Common.{◌≡◌, Ok, ap, ◌∙◌, arith}
use Rattle.text.proofs.Lists.{told, tail_part}
use Rattle.std.proofs.Common.{length}
use lib.ListN.{length-drop}
use Rattle.text.proofs.Sequences.{both}
use Rattle.commands.specs.declared.root.AttributeCommand.TheVariants as attributes
use Rattle.commands.specs.Root.{attribute_command}
use Rattle.commands.proofs.Lengths.{attribute_fits}
use Rattle.parts.proofs.Fronts.{front_key, front_plain, front_namespaced, front_spread, front_literal, front_end}
use Rattle.parts.proofs.Inversions.{attributes_error}
use Rattle.parts.proofs.jsx_impl.front_attribute.Goals as goal
use Rattle.parts.proofs.jsx_impl.front_attribute.Goals.{In-Plain, In-Namespaced, In-Spread, In-Literal}

plain : (c : In-Plain) → attribute_command c.args.tape.now ≡ Ok (attributes.Plain c.in-Plain.span)
plain c = told c.attribute_command_at.ensures (c.in-Ok.is ∙ ap Ok c.in-Plain.is)

namespaced : (c : In-Namespaced) → attribute_command c.args.tape.now ≡ Ok (attributes.Namespaced c.in-Namespaced.field-0 c.in-Namespaced.field-1)
namespaced c = told c.attribute_command_at.ensures (c.in-Ok.is ∙ ap Ok c.in-Namespaced.is)

spread : (c : In-Spread) → attribute_command c.args.tape.now ≡ Ok (attributes.Spread c.in-Spread.field-0)
spread c = told c.attribute_command_at.ensures (c.in-Ok.is ∙ ap Ok c.in-Spread.is)

literal : (c : In-Literal) → attribute_command c.args.tape.now ≡ Ok (attributes.Literal c.in-Literal.field-0)
literal c = told c.attribute_command_at.ensures (c.in-Ok.is ∙ ap Ok c.in-Literal.is)

pub returns-then-is_late_key-clause-front_is : goal.returns-then-is_late_key-clause-front_is
returns-then-is_late_key-clause-front_is c =
    let q = plain (goal.at.returns-then-is_late_key-clause-front_is c).In-Plain in
    λ s b f d a u h i. let w = both _ _ (told (c.is_late_key.ensures s b) c.if-is_late_key.true) in front_key _ _ c.args.tape.now _ f d a u i _ q w.0 w.1

pub slice_bounds-value-count : goal.slice_bounds-value-count
slice_bounds-value-count c = attribute_fits c.args.tape.now (plain (goal.at.slice_bounds-value-count c).In-Plain)

pub slice_bounds-value-start : goal.slice_bounds-value-start
slice_bounds-value-start c = omega (arith, attribute_fits c.args.tape.now (plain (goal.at.slice_bounds-value-start c).In-Plain))

pub slice_bounds-value-count-in-Namespaced : goal.slice_bounds-value-count-in-Namespaced
slice_bounds-value-count-in-Namespaced c = attribute_fits c.args.tape.now (namespaced (goal.at.slice_bounds-value-count-in-Namespaced c).In-Namespaced)

pub slice_bounds-value-start-in-Namespaced : goal.slice_bounds-value-start-in-Namespaced
slice_bounds-value-start-in-Namespaced c =
    omega (arith, attribute_fits c.args.tape.now (namespaced (goal.at.slice_bounds-value-start-in-Namespaced c).In-Namespaced))

pub slice_bounds-properties-count : goal.slice_bounds-properties-count
slice_bounds-properties-count c = attribute_fits c.args.tape.now (literal (goal.at.slice_bounds-properties-count c).In-Literal)

pub slice_bounds-properties-start : goal.slice_bounds-properties-start
slice_bounds-properties-start c = omega (arith, attribute_fits c.args.tape.now (literal (goal.at.slice_bounds-properties-start c).In-Literal))

pub returns-else-is_late_key-clause-front_within : goal.returns-else-is_late_key-clause-front_within
returns-else-is_late_key-clause-front_within c =
    let fits = attribute_fits c.args.tape.now (plain (goal.at.returns-else-is_late_key-clause-front_within c).In-Plain) in
    (omega arith, omega (arith, c.skip_value.ensures.within, ap length (tail_part c.args.tape.now 5), length-drop 5 c.args.tape.now, fits))

pub returns-else-is_late_key-clause-front_is : goal.returns-else-is_late_key-clause-front_is
returns-else-is_late_key-clause-front_is c =
    let q = plain (goal.at.returns-else-is_late_key-clause-front_is c).In-Plain in
    λ s b f d a u h i.
    front_plain _ _ c.args.tape.now _ f d a u i _ q h (attribute_fits c.args.tape.now q) (told (c.is_late_key.ensures s b) c.if-is_late_key.false) _
    (λ g v w j l. c.skip_value.ensures.read g _ d v w j l)

pub returns-in-Namespaced-clause-front_within : goal.returns-in-Namespaced-clause-front_within
returns-in-Namespaced-clause-front_within c =
    let fits = attribute_fits c.args.tape.now (namespaced (goal.at.returns-in-Namespaced-clause-front_within c).In-Namespaced) in
    (omega arith, omega (arith, c.skip_value-in-Namespaced.ensures.within, ap length (tail_part c.args.tape.now 9), length-drop 9 c.args.tape.now, fits))

pub returns-in-Namespaced-clause-front_is : goal.returns-in-Namespaced-clause-front_is
returns-in-Namespaced-clause-front_is c =
    let q = namespaced (goal.at.returns-in-Namespaced-clause-front_is c).In-Namespaced in
    λ s b f d a u h i.
    front_namespaced _ _ c.args.tape.now _ f d a u i _ _ q h (attribute_fits c.args.tape.now q) _
    (λ g v w j l. c.skip_value-in-Namespaced.ensures.read g _ d v w j l)

pub returns-in-Spread-clause-front_within : goal.returns-in-Spread-clause-front_within
returns-in-Spread-clause-front_within c =
    (omega arith, attribute_fits c.args.tape.now (spread (goal.at.returns-in-Spread-clause-front_within c).In-Spread))

pub returns-in-Spread-clause-front_is : goal.returns-in-Spread-clause-front_is
returns-in-Spread-clause-front_is c =
    λ s b f d a u h i. front_spread _ _ c.args.tape.now _ f d a u i _ (spread (goal.at.returns-in-Spread-clause-front_is c).In-Spread)

pub returns-in-Literal-clause-front_within : goal.returns-in-Literal-clause-front_within
returns-in-Literal-clause-front_within c =
    let fits = attribute_fits c.args.tape.now (literal (goal.at.returns-in-Literal-clause-front_within c).In-Literal) in
    (omega arith, omega (arith, c.skip_properties.ensures.within, ap length (tail_part c.args.tape.now 3), length-drop 3 c.args.tape.now, fits))

pub returns-in-Literal-clause-front_is : goal.returns-in-Literal-clause-front_is
returns-in-Literal-clause-front_is c =
    let q = literal (goal.at.returns-in-Literal-clause-front_is c).In-Literal in
    λ s b f d a u h i.
    front_literal _ _ c.args.tape.now _ f d a u i _ q h (attribute_fits c.args.tape.now q) _
    (λ g v w j l. c.skip_properties.ensures.read g _ v w j l)

pub returns-in-End-clause-front_is : goal.returns-in-End-clause-front_is
returns-in-End-clause-front_is c = λ s b f d a u h i. front_end _ _ c.args.tape.now _ f d a u i (told c.attribute_command_at.ensures (c.in-Ok.is ∙ ap Ok c.in-End.is))

pub returns-in_default-clause-front_is : goal.returns-in_default-clause-front_is
returns-in_default-clause-front_is c = λ s b f d a u h i. absurd (attributes_error _ c.args.tape.now d f (told c.attribute_command_at.ensures c.in_default.is) i)
