use Rattle.definitions.proofs.Legible.{command_read, command_unread}
use Rattle.root_check.proofs.Commands.{value_absent, value_text, value_expression, value_empty, value_element, value_fragment}
use Rattle.root_check.proofs.Commands.{value_unread, opens_bad, opens_element, opens_fragment, element_reach, element_no_name}
use Rattle.root_check.proofs.Commands.{element_no_attributes, element_whole}
use Rattle.root_check.proofs.Firsts.{named_within, plain_refused, plain_valued, namespaced_refused, namespaced_valued, attributes_spread, attributes_literal}
use Rattle.root_check.proofs.Firsts.{attributes_end, attributes_unread, children_text, children_expression, children_empty}
use Rattle.root_check.proofs.Firsts.{children_spread, children_element, children_fragment, children_ended, children_unread}
use Rattle.root_check.proofs.Behind.{part_length, part_reach, shifted_within, reports_within, within_good, opens_behind}
use Rattle.root_check.proofs.Readings.{name_reads, properties_reads, attributes_reads, value_reads, children_reads}
use Rattle.root_check.proofs.Scans.{opened_shallow}
use Rattle.commands.proofs.Lengths.{attribute_fits, value_fits, child_fits}
use Rattle.text.proofs.Lists.{told}
use Rattle.std.specs.Prelude.{Err}
use Rattle.std.proofs.Common.{rules}
use mathlib.Core.Path.{◌≡◌}
use Prim.Native.Nat.{ℕ, ◌≤◌, ◌+◌}
use native.Mathlib.Omega.{arith}
use lib.ListN.{length}
use Rattle.root_check.proofs.check.+nodes.Goals as goal
use Rattle.root_check.proofs.check.+nodes.Goals.{check_element-In_ok-u, check_element-In_ok-v}

pub attribute_step-returns-in_err-command : goal.attribute_step-returns-in_err-command
attribute_step-returns-in_err-command t c =
    let k = command_unread _ c.attribute_command_at.ensures c.legible.ensures c.in_err-command.was in
    let e : c.from_residual.result ≡ Err c.in_err-command.field-0.0 = search rules in
    rw (e, k.2) (attributes_unread _ _ _ k.1)

pub attribute_step-returns-in_err-n-in-Plain : goal.attribute_step-returns-in_err-n-in-Plain
attribute_step-returns-in_err-n-in-Plain t c =
    let e : c.from_residual-in_err-n-in-Plain.result ≡ Err c.in_err-n-in-Plain.field-0.0 = search rules in
    rw e (plain_refused _ _ _ (command_read _ c.attribute_command_at.ensures c.legible.ensures c.in_ok-command.was c.in-Plain.is) c.check_label.ensures c.in_err-n-in-Plain.was)

pub attribute_step-value_behind-requires : goal.attribute_step-value_behind-requires
attribute_step-value_behind-requires t c = (
  omega arith,
  within_good c.in_ok-n-in-Plain.was (named_within 5 _ (omega arith) (attribute_fits _ (command_read _ c.attribute_command_at.ensures c.legible.ensures c.in_ok-command.was c.in-Plain.is)) _ c.check_label.ensures),
)

pub attribute_step-returns-in_ok-n-in-Plain : goal.attribute_step-returns-in_ok-n-in-Plain
attribute_step-returns-in_ok-n-in-Plain t c =
    plain_valued _ _ _ (command_read _ c.attribute_command_at.ensures c.legible.ensures c.in_ok-command.was c.in-Plain.is)
    c.check_label.ensures c.in_ok-n-in-Plain.was c.value_behind.ensures c.onward.ensures

pub attribute_step-returns-in_err-n-in-Namespaced : goal.attribute_step-returns-in_err-n-in-Namespaced
attribute_step-returns-in_err-n-in-Namespaced t c =
    let e : c.from_residual-in_err-n-in-Namespaced.result ≡ Err c.in_err-n-in-Namespaced.field-0.0 = search rules in
    rw e (namespaced_refused _ _ _ (command_read _ c.attribute_command_at.ensures c.legible.ensures c.in_ok-command.was c.in-Namespaced.is) c.check_labels.ensures c.in_err-n-in-Namespaced.was)

pub attribute_step-value_behind-requires-in-Namespaced : goal.attribute_step-value_behind-requires-in-Namespaced
attribute_step-value_behind-requires-in-Namespaced t c = (
  omega arith,
  within_good c.in_ok-n-in-Namespaced.was (named_within 9 _ (omega arith) (attribute_fits _ (command_read _ c.attribute_command_at.ensures c.legible.ensures c.in_ok-command.was c.in-Namespaced.is)) _ c.check_labels.ensures),
)

pub attribute_step-returns-in_ok-n-in-Namespaced : goal.attribute_step-returns-in_ok-n-in-Namespaced
attribute_step-returns-in_ok-n-in-Namespaced t c =
    namespaced_valued _ _ _ (command_read _ c.attribute_command_at.ensures c.legible.ensures c.in_ok-command.was c.in-Namespaced.is)
    c.check_labels.ensures c.in_ok-n-in-Namespaced.was c.value_behind-in-Namespaced.ensures c.onward-in-Namespaced.ensures

pub attribute_step-slice_bounds-check_properties-count : goal.attribute_step-slice_bounds-check_properties-count
attribute_step-slice_bounds-check_properties-count t c =
    omega (arith, attribute_fits _ (command_read _ c.attribute_command_at.ensures c.legible.ensures c.in_ok-command.was c.in-Literal.is))

pub attribute_step-slice_bounds-check_properties-start : goal.attribute_step-slice_bounds-check_properties-start
attribute_step-slice_bounds-check_properties-start t c =
    omega (arith, attribute_fits _ (command_read _ c.attribute_command_at.ensures c.legible.ensures c.in_ok-command.was c.in-Literal.is))

pub attribute_step-further-requires : goal.attribute_step-further-requires
attribute_step-further-requires t c =
    omega (
      arith,
      part_reach (λ f t. properties_reads f c.args.text.now t) 3 c.args.tape.now
          (attribute_fits _ (command_read _ c.attribute_command_at.ensures c.legible.ensures c.in_ok-command.was c.in-Literal.is))
          c.check_properties.ensures,
    )

pub attribute_step-returns-in-Spread : goal.attribute_step-returns-in-Spread
attribute_step-returns-in-Spread t c =
    attributes_spread _ _ _ _ (command_read _ c.attribute_command_at.ensures c.legible.ensures c.in_ok-command.was c.in-Spread.is)

pub attribute_step-returns-in-Literal : goal.attribute_step-returns-in-Literal
attribute_step-returns-in-Literal t c =
    attributes_literal _ _ _ _ (command_read _ c.attribute_command_at.ensures c.legible.ensures c.in_ok-command.was c.in-Literal.is)
    c.check_properties.ensures c.further.ensures c.onward-in-Literal.ensures

pub attribute_step-returns-in-End : goal.attribute_step-returns-in-End
attribute_step-returns-in-End t c =
    attributes_end _ _ _ (command_read _ c.attribute_command_at.ensures c.legible.ensures c.in_ok-command.was c.in-End.is)

-- the name of an element stays within the tape, and so do the attributes behind it
check_element_named : (t : ℕ) (c : check_element-In_ok-u t) → (1 ≤ c.in_ok-u.u) × (c.in_ok-u.u ≤ length c.args.tape.now)
check_element_named t c = within_good c.in_ok-u.was (reports_within (λ f t. name_reads f c.args.text.now t) c.check_name.ensures)

check_element_attributed : (t : ℕ) (c : check_element-In_ok-v t) → (1 ≤ c.in_ok-v.v) × (c.in_ok-v.v ≤ length c.args.tape.now)
check_element_attributed t c =
    let n : (1 ≤ c.in_ok-u.u) × (c.in_ok-u.u ≤ length c.args.tape.now) = within_good c.in_ok-u.was (reports_within (λ f t. name_reads f c.args.text.now t) c.check_name.ensures) in
    within_good c.in_ok-v.was
    (shifted_within (λ f t. attributes_reads f c.args.text.now (c.args.depth + 1) t) _ c.args.tape.now n.0 n.1 c.check_attributes.ensures c.further.ensures)

pub check_element-returns-in_err-u : goal.check_element-returns-in_err-u
check_element-returns-in_err-u t c =
    let e : c.from_residual.result ≡ Err c.in_err-u.field-0.0 = search rules in
    λ p. rw e (element_no_name _ _ _ c.check_name.ensures c.in_err-u.was p)

pub check_element-slice_bounds-check_attributes-count : goal.check_element-slice_bounds-check_attributes-count
check_element-slice_bounds-check_attributes-count t c =
    omega (arith, check_element_named t (goal.at.check_element-slice_bounds-check_attributes-count t c).In_ok-u)

pub check_element-slice_bounds-check_attributes-start : goal.check_element-slice_bounds-check_attributes-start
check_element-slice_bounds-check_attributes-start t c =
    omega (arith, check_element_named t (goal.at.check_element-slice_bounds-check_attributes-start t c).In_ok-u)

pub check_element-further-requires : goal.check_element-further-requires
check_element-further-requires t c =
    omega (
      arith,
      part_reach (λ f t. attributes_reads f c.args.text.now (c.args.depth + 1) t) c.in_ok-u.u
          c.args.tape.now (check_element_named t (goal.at.check_element-further-requires t c).In_ok-u).1 c.check_attributes.ensures,
    )

pub check_element-returns-in_err-v : goal.check_element-returns-in_err-v
check_element-returns-in_err-v t c =
    let e : c.from_residual-in_err-v.result ≡ Err c.in_err-v.field-0.0 = search rules in
    λ p. rw e
    (element_no_attributes _ _ _ c.check_name.ensures c.in_ok-u.was (check_element_named t (goal.at.check_element-returns-in_err-v t c).In_ok-u).1
    c.check_attributes.ensures c.further.ensures c.in_err-v.was p)

pub check_element-slice_bounds-check_children-count : goal.check_element-slice_bounds-check_children-count
check_element-slice_bounds-check_children-count t c =
    omega (arith, check_element_attributed t (goal.at.check_element-slice_bounds-check_children-count t c).In_ok-v)

pub check_element-slice_bounds-check_children-start : goal.check_element-slice_bounds-check_children-start
check_element-slice_bounds-check_children-start t c =
    omega (arith, check_element_attributed t (goal.at.check_element-slice_bounds-check_children-start t c).In_ok-v)

pub check_element-further-requires-2 : goal.check_element-further-requires-2
check_element-further-requires-2 t c =
    omega (
      arith,
      part_reach (λ f t. children_reads f c.args.text.now (c.args.depth + 1) t) c.in_ok-v.v
          c.args.tape.now (check_element_attributed t (goal.at.check_element-further-requires-2 t c).In_ok-v).1 c.check_children.ensures,
    )

pub check_element-returns : goal.check_element-returns
check_element-returns t c =
    element_whole _ _ _ c.check_name.ensures c.in_ok-u.was (check_element_named t (goal.at.check_element-returns t c).In_ok-u).1
    c.check_attributes.ensures c.further.ensures c.in_ok-v.was
    (check_element_attributed t (goal.at.check_element-returns t c).In_ok-v).1 c.check_children.ensures c.further-2.ensures

pub check_value-returns-in_err-command : goal.check_value-returns-in_err-command
check_value-returns-in_err-command t c =
    let k = command_unread _ c.value_command_at.ensures c.legible.ensures c.in_err-command.was in
    let e : c.from_residual.result ≡ Err c.in_err-command.field-0.0 = search rules in
    rw (e, k.2) (value_unread _ _ _ k.1)

pub check_value-open_element-requires : goal.check_value-open_element-requires
check_value-open_element-requires t c =
    (omega arith, value_fits _ (command_read _ c.value_command_at.ensures c.legible.ensures c.in_ok-command.was c.in-Element.is))

pub check_value-open_fragment-requires : goal.check_value-open_fragment-requires
check_value-open_fragment-requires t c =
    (omega arith, value_fits _ (command_read _ c.value_command_at.ensures c.legible.ensures c.in_ok-command.was c.in-Fragment.is))

pub check_value-returns-in-Absent : goal.check_value-returns-in-Absent
check_value-returns-in-Absent t c =
    value_absent _ _ _ (command_read _ c.value_command_at.ensures c.legible.ensures c.in_ok-command.was c.in-Absent.is)

pub check_value-returns-in-Text : goal.check_value-returns-in-Text
check_value-returns-in-Text t c =
    value_text _ _ _ _ (command_read _ c.value_command_at.ensures c.legible.ensures c.in_ok-command.was c.in-Text.is) c.check_text.ensures

pub check_value-returns-in-Expression : goal.check_value-returns-in-Expression
check_value-returns-in-Expression t c =
    value_expression _ _ _ _ (command_read _ c.value_command_at.ensures c.legible.ensures c.in_ok-command.was c.in-Expression.is)

pub check_value-returns-in-Empty : goal.check_value-returns-in-Empty
check_value-returns-in-Empty t c =
    value_empty _ _ _ (command_read _ c.value_command_at.ensures c.legible.ensures c.in_ok-command.was c.in-Empty.is)

pub check_value-returns-in-Element : goal.check_value-returns-in-Element
check_value-returns-in-Element t c =
    value_element _ _ _ _ (command_read _ c.value_command_at.ensures c.legible.ensures c.in_ok-command.was c.in-Element.is) c.open_element.ensures

pub check_value-returns-in-Fragment : goal.check_value-returns-in-Fragment
check_value-returns-in-Fragment t c =
    value_fragment _ _ _ _ (command_read _ c.value_command_at.ensures c.legible.ensures c.in_ok-command.was c.in-Fragment.is) c.open_fragment.ensures

pub child_step-returns-in_err-command : goal.child_step-returns-in_err-command
child_step-returns-in_err-command t c =
    let k = command_unread _ c.child_command_at.ensures c.legible.ensures c.in_err-command.was in
    let e : c.from_residual.result ≡ Err c.in_err-command.field-0.0 = search rules in
    rw (e, k.2) (children_unread _ _ _ k.1)

pub child_step-open_element-requires : goal.child_step-open_element-requires
child_step-open_element-requires t c =
    (omega arith, child_fits _ (command_read _ c.child_command_at.ensures c.legible.ensures c.in_ok-command.was c.in-Element.is))

pub child_step-open_fragment-requires : goal.child_step-open_fragment-requires
child_step-open_fragment-requires t c =
    (omega arith, child_fits _ (command_read _ c.child_command_at.ensures c.legible.ensures c.in_ok-command.was c.in-Fragment.is))

pub child_step-returns-in-Text : goal.child_step-returns-in-Text
child_step-returns-in-Text t c =
    children_text _ _ _ _ (command_read _ c.child_command_at.ensures c.legible.ensures c.in_ok-command.was c.in-Text.is) c.check_text.ensures c.onward.ensures

pub child_step-returns-in-Expression : goal.child_step-returns-in-Expression
child_step-returns-in-Expression t c =
    children_expression _ _ _ _ (command_read _ c.child_command_at.ensures c.legible.ensures c.in_ok-command.was c.in-Expression.is)

pub child_step-returns-in-Empty : goal.child_step-returns-in-Empty
child_step-returns-in-Empty t c =
    children_empty _ _ _ (command_read _ c.child_command_at.ensures c.legible.ensures c.in_ok-command.was c.in-Empty.is)

pub child_step-returns-in-Spread : goal.child_step-returns-in-Spread
child_step-returns-in-Spread t c =
    children_spread _ _ _ _ (command_read _ c.child_command_at.ensures c.legible.ensures c.in_ok-command.was c.in-Spread.is)

pub child_step-returns-in-Element : goal.child_step-returns-in-Element
child_step-returns-in-Element t c =
    children_element _ _ _ _ (command_read _ c.child_command_at.ensures c.legible.ensures c.in_ok-command.was c.in-Element.is) c.open_element.ensures c.onward-in-Element.ensures

pub child_step-returns-in-Fragment : goal.child_step-returns-in-Fragment
child_step-returns-in-Fragment t c =
    children_fragment _ _ _ _ (command_read _ c.child_command_at.ensures c.legible.ensures c.in_ok-command.was c.in-Fragment.is) c.open_fragment.ensures c.onward-in-Fragment.ensures

pub child_step-returns-in-End : goal.child_step-returns-in-End
child_step-returns-in-End t c =
    children_ended _ _ _ (command_read _ c.child_command_at.ensures c.legible.ensures c.in_ok-command.was c.in-End.is)

pub open_element-returns-in_err-check_place : goal.open_element-returns-in_err-check_place
open_element-returns-in_err-check_place t c =
    let e : c.from_residual.result ≡ Err c.in_err-check_place.field-0.0 = search rules in
    rw e (opens_bad _ _ _ c.check_place.ensures _ c.in_err-check_place.was)

pub open_element-check_element-requires : goal.open_element-check_element-requires
open_element-check_element-requires t c =
    (omega (arith, part_length 9 c.args.tape.now), opened_shallow _ _ _ (told c.check_place.ensures c.in_ok-check_place.was))

pub open_element-further-requires : goal.open_element-further-requires
open_element-further-requires t c =
    omega (arith, element_reach c.args.text.now c.args.tape.now c.args.depth 9 c.requires c.check_element.ensures)

pub open_element-returns : goal.open_element-returns
open_element-returns t c =
    opens_element _ _ _ c.check_place.ensures _ _ c.in_ok-check_place.was c.requires c.check_element.ensures c.further.ensures

pub open_fragment-returns-in_err-check_place : goal.open_fragment-returns-in_err-check_place
open_fragment-returns-in_err-check_place t c =
    let e : c.from_residual.result ≡ Err c.in_err-check_place.field-0.0 = search rules in
    rw e (opens_bad _ _ _ c.check_place.ensures _ c.in_err-check_place.was)

pub open_fragment-overflow_add-depth : goal.open_fragment-overflow_add-depth
open_fragment-overflow_add-depth t c =
    omega (arith, opened_shallow _ _ _ (told c.check_place.ensures c.in_ok-check_place.was))

pub open_fragment-further-requires : goal.open_fragment-further-requires
open_fragment-further-requires t c =
    omega (
      arith,
      part_reach (λ f t. children_reads f c.args.text.now (c.args.depth + 1) t) 9 c.args.tape.now
          c.requires c.check_children.ensures,
    )

pub open_fragment-returns : goal.open_fragment-returns
open_fragment-returns t c =
    opens_fragment _ _ _ c.check_place.ensures _ _ c.in_ok-check_place.was c.requires c.check_children.ensures c.further.ensures

pub value_behind-further-requires : goal.value_behind-further-requires
value_behind-further-requires t c =
    omega (arith, part_reach (λ f t. value_reads f c.args.text.now c.args.depth t) c.args.n c.args.tape.now c.requires.1 c.check_value.ensures)

pub value_behind-returns : goal.value_behind-returns
value_behind-returns t c =
    opens_behind c.args.n _ c.requires.0 c.requires.1 c.check_value.ensures c.further.ensures
