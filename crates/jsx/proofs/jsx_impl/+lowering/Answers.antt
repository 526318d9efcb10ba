use Rattle.std.proofs.Common.{◌≤◌, ◌+◌, length, sym, ap, ◌∙◌, arith}
use borrow.Author.Rules.{rules}
use Rattle.std.proofs.lemmas.Bool.{eqb-true}
use Rattle.text.proofs.Lists.{told, tail_part}
use Rattle.commands.proofs.Lengths.{attribute_fits, value_fits, child_fits}
use Rattle.pen.proofs.Emitting.{lent_none, lent_then}
use Rattle.root_check.proofs.Behind.{part_length}
use Rattle.emit.specs.Contexts.{context_of}
use Rattle.parts.proofs.Inversions.{value_error, attributes_error}
use Rattle.parts.proofs.Ends.{some_there, over_attributes, over_children}
use Rattle.jsx.specs.Parts.{is_classic_form}
use Rattle.jsx.proofs.Turns.{arm, clash}
use Rattle.jsx.proofs.Nesting.{children_error}
use Rattle.jsx.proofs.Lowerings.{absent_written, empty_written, text_written, expression_written}
use Rattle.jsx.proofs.Parenting.{value_element_written, value_fragment_written, child_text, child_expression, child_spread, child_empty, child_element, child_fragment, kids_start, kids_go, kids_over, kids_never, object_bare, object_full}
use Rattle.jsx.proofs.Attributing.{value_behind_written, plain_written, plain_key, plain_property, plain_passed, namespaced_step, spread_step, literal_step, left_begin, key_within, left_more, left_over, left_never, key_none, key_some}
use Rattle.jsx.proofs.Calling.{sole_argument, object_argument, some_object, no_object, classic_element_written, automatic_element_written, bare_classic_call, bare_automatic_call, element_lowered_classic, element_lowered_automatic, fragment_lowered_classic, fragment_lowered_automatic}
use Rattle.jsx.proofs.jsx_impl.+lowering.Goals as goal

pub argument-returns-in-Some-clause-written : goal.argument-returns-in-Some-clause-written
argument-returns-in-Some-clause-written t c =
    λ d f a u h e q. sole_argument _ a u _ _ (c.lone_spread.ensures.sole_at _ f d a u h e) _ c.in-Some.is c.put_over.ensures.written

pub argument-returns-in-None-clause-written : goal.argument-returns-in-None-clause-written
argument-returns-in-None-clause-written t c =
    λ d f a u h e q. object_argument _ a u _ _ (c.lone_spread.ensures.sole_at _ f d a u h e) c.in-None.is (c.or_null.ensures.written d f a u h e q)

pub attribute-slice_bounds-value-count : goal.attribute-slice_bounds-value-count
attribute-slice_bounds-value-count t c = attribute_fits c.args.tape.now (arm c.attribute_command_at.ensures c.in-Ok-Plain.is c.in-Ok-Plain.field-0-is)

pub attribute-slice_bounds-value-start : goal.attribute-slice_bounds-value-start
attribute-slice_bounds-value-start t c = omega (arith, attribute_fits c.args.tape.now (arm c.attribute_command_at.ensures c.in-Ok-Plain.is c.in-Ok-Plain.field-0-is))

pub attribute-plain-requires : goal.attribute-plain-requires
attribute-plain-requires t c = (omega arith, attribute_fits c.args.tape.now (arm c.attribute_command_at.ensures c.in-Ok-Plain.is c.in-Ok-Plain.field-0-is))

pub attribute-returns-then-not-is_valued_key-clause-step : goal.attribute-returns-then-not-is_valued_key-clause-step
attribute-returns-then-not-is_valued_key-clause-step t c =
    plain_property _ _ c.args.tape.now _ (arm c.attribute_command_at.ensures c.in-Ok-Plain.is c.in-Ok-Plain.field-0-is) _ (c.is_valued_key.ensures c.args.sound.now.context.settings.now c.args.sound.now.context.self_allowed) _ c.if-not-is_valued_key.true c.plain.ensures.property c.plain.ensures.written

pub attribute-plain-requires-in-Classic : goal.attribute-plain-requires-in-Classic
attribute-plain-requires-in-Classic t c = (omega arith, attribute_fits c.args.tape.now (arm c.attribute_command_at.ensures c.in-Ok-Plain.is c.in-Ok-Plain.field-0-is))

pub attribute-returns-in-Classic-clause-step : goal.attribute-returns-in-Classic-clause-step
attribute-returns-in-Classic-clause-step t c =
    plain_key _ _ c.args.tape.now _ (arm c.attribute_command_at.ensures c.in-Ok-Plain.is c.in-Ok-Plain.field-0-is) _ (c.is_valued_key.ensures c.args.sound.now.context.settings.now c.args.sound.now.context.self_allowed) _ c.if-not-is_valued_key.false (ap is_classic_form c.in-Classic.is) c.plain-in-Classic.ensures.property c.plain-in-Classic.ensures.written

pub attribute-behind-requires : goal.attribute-behind-requires
attribute-behind-requires t c = (omega arith, (omega arith, attribute_fits c.args.tape.now (arm c.attribute_command_at.ensures c.in-Ok-Namespaced.is c.in-Ok-Namespaced.field-0-is)))

pub attribute-literal_attribute-requires : goal.attribute-literal_attribute-requires
attribute-literal_attribute-requires t c = attribute_fits c.args.tape.now (arm c.attribute_command_at.ensures c.in-Ok-Literal.is c.in-Ok-Literal.field-0-is)

pub attribute-returns-in-Automatic-clause-moves : goal.attribute-returns-in-Automatic-clause-moves
attribute-returns-in-Automatic-clause-moves t c =
    let q = arm c.attribute_command_at.ensures c.in-Ok-Plain.is c.in-Ok-Plain.field-0-is in
    rw c.passed.ensures (omega (arith, attribute_fits c.args.tape.now q, c.skip_value.ensures.within, part_length 5 c.args.tape.now), omega arith, omega arith)

pub attribute-returns-in-Automatic-clause-step : goal.attribute-returns-in-Automatic-clause-step
attribute-returns-in-Automatic-clause-step t c =
    let q = arm c.attribute_command_at.ensures c.in-Ok-Plain.is c.in-Ok-Plain.field-0-is in
    rw c.passed.ensures (plain_passed _ _ c.args.tape.now _ q _ (c.is_valued_key.ensures c.args.sound.now.context.settings.now c.args.sound.now.context.self_allowed) (record { calls = omega arith; notices = omega arith }) c.if-not-is_valued_key.false (ap is_classic_form c.in-Automatic.is)
    (attribute_fits c.args.tape.now q) c.skip_value.ensures.read)

pub attribute-returns-in-Ok-Namespaced-clause-step : goal.attribute-returns-in-Ok-Namespaced-clause-step
attribute-returns-in-Ok-Namespaced-clause-step t c =
    namespaced_step _ _ c.args.tape.now _ _ (arm c.attribute_command_at.ensures c.in-Ok-Namespaced.is c.in-Ok-Namespaced.field-0-is) c.put_bare.ensures.written
    c.put_namespaced.ensures.written _ c.behind.ensures.property c.behind.ensures.written

pub attribute-returns-in-Ok-Spread-clause-moves : goal.attribute-returns-in-Ok-Spread-clause-moves
attribute-returns-in-Ok-Spread-clause-moves t c = (attribute_fits c.args.tape.now (arm c.attribute_command_at.ensures c.in-Ok-Spread.is c.in-Ok-Spread.field-0-is), omega arith, tt)

pub attribute-returns-in-Ok-Spread-clause-step : goal.attribute-returns-in-Ok-Spread-clause-step
attribute-returns-in-Ok-Spread-clause-step t c =
    spread_step _ _ c.args.tape.now _ (arm c.attribute_command_at.ensures c.in-Ok-Spread.is c.in-Ok-Spread.field-0-is) c.put_over.ensures.written

pub attribute-returns-in-Ok-Literal-clause-step : goal.attribute-returns-in-Ok-Literal-clause-step
attribute-returns-in-Ok-Literal-clause-step t c =
    literal_step _ _ c.args.tape.now _ (arm c.attribute_command_at.ensures c.in-Ok-Literal.is c.in-Ok-Literal.field-0-is) _ c.literal_attribute.ensures.moves.0 (c.literal_attribute.ensures.literal_written _ _)

pub attribute-returns-in-Ok-End-clause-moves : goal.attribute-returns-in-Ok-End-clause-moves
attribute-returns-in-Ok-End-clause-moves t c = rw c.passed-in-Ok-End.ensures (omega arith, c.requires.some, tt)

pub attribute-returns-in-Ok-End-clause-step : goal.attribute-returns-in-Ok-End-clause-step
attribute-returns-in-Ok-End-clause-step t c =
    λ f d a u h e. clash (sym c.requires.not_over ∙ over_attributes c.args.tape.now (arm c.attribute_command_at.ensures c.in-Ok-End.is c.in-Ok-End.field-0-is))

pub attribute-returns-in-Err-clause-moves : goal.attribute-returns-in-Err-clause-moves
attribute-returns-in-Err-clause-moves t c = rw c.passed-in-Err.ensures (omega arith, c.requires.some, tt)

pub attribute-returns-in-Err-clause-step : goal.attribute-returns-in-Err-clause-step
attribute-returns-in-Err-clause-step t c =
    λ f d a u h e. absurd (attributes_error _ c.args.tape.now d f (told c.attribute_command_at.ensures c.in-Err.is) e)

pub attrs-loop-rest-init : goal.attrs-loop-rest-init
attrs-loop-rest-init t c = (lent_none, omega arith, tt, left_begin _ _ c.args.tape.now (record { calls = omega arith; notices = omega arith }))

pub attrs-returns-then-starts_with-clause-within : goal.attrs-returns-then-starts_with-clause-within
attrs-returns-then-starts_with-clause-within t c = (
  omega
      (arith, some_there 0x1e _ (sym c.starts_with.ensures ∙ c.if-starts_with.true), part_length c.loop-rest.i c.args.tape.now, c.loop-rest.invariant.1),
  c.loop-rest.invariant.2,
)

pub attrs-returns-then-starts_with-clause-written : goal.attrs-returns-then-starts_with-clause-written
attrs-returns-then-starts_with-clause-written t c =
    λ f d a u h e. left_over _ _ c.args.tape.now c.loop-rest.invariant.1 (sym c.starts_with.ensures ∙ c.if-starts_with.true) d a u
    (c.loop-rest.invariant.3 f d a u h e)

pub attrs-loop-rest-preserved : goal.attrs-loop-rest-preserved
attrs-loop-rest-preserved t c =
    let moves = c.attribute-step.ensures.moves in
    let inside : c.loop-rest.i + c.attribute-step.result.used ≤ length c.args.tape.now =
    omega (arith, moves.0, part_length c.loop-rest.i c.args.tape.now, c.loop-rest.invariant.1) in (
      lent_then c.loop-rest.invariant.0 c.attribute-step.ensures.lent,
      inside,
      key_within (length c.args.tape.now) c.loop-rest.i c.loop-rest.key c.attribute-step.result.key c.attribute-step.result.used c.loop-rest.invariant.2 moves.2 inside c.newer-key.ensures,
      λ f d a u h e. left_more _ _ c.args.tape.now c.loop-rest.invariant.1 c.attribute-step.result c.attribute-step.ensures.step
          c.newer-key.ensures moves.1 d a u (c.loop-rest.invariant.3 f d a u h e),
    )

pub attrs-returns-then-is_empty-clause-written : goal.attrs-returns-then-is_empty-clause-written
attrs-returns-then-is_empty-clause-written t c =
    λ f d a u h e. left_never _ _ c.args.tape.now c.loop-rest.invariant.1 (eqb-true _ 0 (told c.is_empty.ensures c.if-is_empty.true)) d a u (c.loop-rest.invariant.3 f d a u h e)

pub automatic-returns-clause-written : goal.automatic-returns-clause-written
automatic-returns-clause-written t c =
    λ d f n a v k w P q. automatic_element_written _ _ _ _ P c.put_byte.ensures.written
    c.put_bare.ensures.written c.attrs-props.ensures.written c.inner-items.ensures.written c.key_of.ensures.written
    (c.static_children.ensures.written _ _) (c.source_output.ensures.written _ _ q.line q.column) (c.self_output.ensures.written _)
    c.put_bare-2.ensures.written (c.transform_element_name.ensures.written _ _) (c.automatic_name.ensures _ _) c.closing.ensures.written

pub bare-returns-clause-written : goal.bare-returns-clause-written
bare-returns-clause-written t c =
    λ f d k u h e. bare_classic_call _ k c.put_byte.ensures.written
    c.put_bare.ensures.written (c.children-items.ensures.written f d k u h e) c.put_bare-2.ensures.written
    c.get_fragment.ensures.written c.closing.ensures.written

pub bare_auto-returns-clause-written : goal.bare_auto-returns-clause-written
bare_auto-returns-clause-written t c =
    λ f d k u h e. bare_automatic_call _ k c.put_byte.ensures.written
    c.put_bare.ensures.written (c.inner-items.ensures.written f d k u h e) (c.no_key.ensures.written _ _)
    (c.static_children.ensures.written _ _) c.put_bare-2.ensures.written c.get_fragment.ensures.written (c.automatic_name.ensures _ _) c.closing.ensures.written

pub behind-returns-clause-written : goal.behind-returns-clause-written
behind-returns-clause-written t c =
    value_behind_written _ c.args.tape.now c.args.n c.requires.0 c.requires.1 c.transform_jsx_attribute_value.ensures.written

pub children-loop-rest-init : goal.children-loop-rest-init
children-loop-rest-init t c = kids_start _ _ (record { calls = omega arith; notices = omega arith })

pub children-returns-then-starts_with-clause-within : goal.children-returns-then-starts_with-clause-within
children-returns-then-starts_with-clause-within t c = (
  omega (arith, some_there 0x1f _ (sym c.starts_with.ensures ∙ c.if-starts_with.true), c.loop-rest.invariant.rest.size),
  omega (arith, c.loop-rest.invariant.few, c.loop-rest.invariant.rest.size),
)

pub children-returns-then-starts_with-clause-written : goal.children-returns-then-starts_with-clause-written
children-returns-then-starts_with-clause-written t c =
    kids_over c.loop-rest.invariant (sym c.starts_with.ensures ∙ c.if-starts_with.true) (omega (arith, c.loop-rest.invariant.rest.size))

pub children-loop-rest-preserved : goal.children-loop-rest-preserved
children-loop-rest-preserved t c =
    kids_go c.loop-rest.invariant c.transform_jsx_child-step.result c.transform_jsx_child-step.ensures.moves
    (tail_part c.loop-rest.rest.now c.transform_jsx_child-step.result.used) c.transform_jsx_child-step.ensures.lent c.transform_jsx_child-step.ensures.step

pub children-returns-then-is_empty-clause-written : goal.children-returns-then-is_empty-clause-written
children-returns-then-is_empty-clause-written t c =
    λ f d k u h e. kids_never c.loop-rest.invariant (eqb-true _ 0 (told c.is_empty.ensures c.if-is_empty.true)) f d k u h e

pub create-returns-clause-written : goal.create-returns-clause-written
create-returns-clause-written t c =
    λ d f n a v k w P q. classic_element_written _ _ _ _ P q c.put_byte.ensures.written
    c.argument.ensures.written c.children-items.ensures.written c.put_bare.ensures.written
    (c.transform_element_name.ensures.written _ _) c.closing.ensures.written

pub fragment-returns-then-is_classic-clause-written : goal.fragment-returns-then-is_classic-clause-written
fragment-returns-then-is_classic-clause-written t c =
    λ f d place n u h e. fragment_lowered_classic _ _ f d place n u h e (told c.is_classic.ensures c.if-is_classic.true) c.bare.ensures.written

pub fragment-returns-clause-written : goal.fragment-returns-clause-written
fragment-returns-clause-written t c =
    λ f d place n u h e. fragment_lowered_automatic _ _ f d place n u h e (told c.is_classic.ensures c.if-is_classic.false) c.bare_auto.ensures.written

pub inner-returns-then-items-eq0-clause-written : goal.inner-returns-then-items-eq0-clause-written
inner-returns-then-items-eq0-clause-written t c =
    λ f d k u h e. object_bare (context_of c.args.sound.now.context) c.put_bare.ensures.written c.children-items.result
    (c.children-items.ensures.written f d k u h e) c.if-items-eq0.true c.put_bare-then-items-eq0.ensures.written

pub inner-returns-clause-written : goal.inner-returns-clause-written
inner-returns-clause-written t c =
    λ f d k u h e. object_full (context_of c.args.sound.now.context) c.put_bare.ensures.written c.children-items.result
    (c.children-items.ensures.written f d k u h e) _ c.if-items-eq0.false c.children_form.ensures c.put_byte.ensures.written
    c.put_bare-2.ensures.written

pub key_of-returns-in-Some-clause-written : goal.key_of-returns-in-Some-clause-written
key_of-returns-in-Some-clause-written t c =
    key_some c.in-Some.place c.args.key c.in-Some.is (rw c.in-Some.is at c.requires) c.put_bare.ensures.written
    c.transform_jsx_attribute_value.ensures.written

pub key_of-returns-in-None-clause-written : goal.key_of-returns-in-None-clause-written
key_of-returns-in-None-clause-written t c = key_none c.args.key c.in-None.is (c.no_key.ensures.written _ _)

pub or_null-returns-then-has_more-clause-written : goal.or_null-returns-then-has_more-clause-written
or_null-returns-then-has_more-clause-written t c =
    λ d f a u h e q. some_object _ _ a c.put_bare.ensures.written
    (c.attrs-props.ensures.written f d a u h e) (c.self_output.ensures.written _) (c.source_output.ensures.written _ _ q.line q.column)
    (λ os i. c.has_more.ensures _ _ os i) c.if-has_more.true c.put_bare-then-has_more.ensures.written

pub or_null-returns-clause-written : goal.or_null-returns-clause-written
or_null-returns-clause-written t c =
    λ d f a u h e q. no_object _ _ a c.put_bare.ensures.written
    (c.attrs-props.ensures.written f d a u h e) (c.self_output.ensures.written _) (c.source_output.ensures.written _ _ q.line q.column)
    (λ os i. c.has_more.ensures _ _ os i) c.if-has_more.false c.put_bare-2.ensures.written

pub plain-returns-clause-written : goal.plain-returns-clause-written
plain-returns-clause-written t c =
    plain_written _ c.args.tape.now _ (c.key_notice.ensures.notice _ _) (c.get_attribute_name.ensures.written _ _)
    c.behind.ensures.written

pub transform_jsx-returns-then-is_classic_element-clause-written : goal.transform_jsx-returns-then-is_classic_element-clause-written
transform_jsx-returns-then-is_classic_element-clause-written t c =
    λ f d n u h e q. element_lowered_classic _ _ _ _ f d n u h e c.skip_name-at.ensures.read (c.is_classic_element.ensures _)
    c.if-is_classic_element.true q c.create.ensures.written

pub transform_jsx-returns-clause-written : goal.transform_jsx-returns-clause-written
transform_jsx-returns-clause-written t c =
    λ f d n u h e q. element_lowered_automatic _ _ _ _ f d n u h e c.skip_name-at.ensures.read (c.is_classic_element.ensures _)
    c.if-is_classic_element.false q c.automatic.ensures.written

pub transform_jsx_attribute_value-slice_bounds-inside-count : goal.transform_jsx_attribute_value-slice_bounds-inside-count
transform_jsx_attribute_value-slice_bounds-inside-count t c = value_fits c.args.tape.now (arm c.value_command_at.ensures c.in-Ok-Element.is c.in-Ok-Element.field-0-is)

pub transform_jsx_attribute_value-slice_bounds-inside-start : goal.transform_jsx_attribute_value-slice_bounds-inside-start
transform_jsx_attribute_value-slice_bounds-inside-start t c = omega (arith, value_fits c.args.tape.now (arm c.value_command_at.ensures c.in-Ok-Element.is c.in-Ok-Element.field-0-is))

pub transform_jsx_attribute_value-transform_jsx-requires : goal.transform_jsx_attribute_value-transform_jsx-requires
transform_jsx_attribute_value-transform_jsx-requires t c = omega (arith, value_fits c.args.tape.now (arm c.value_command_at.ensures c.in-Ok-Element.is c.in-Ok-Element.field-0-is), part_length 9 c.args.tape.now)

pub transform_jsx_attribute_value-slice_bounds-inside-count-in-Ok-Fragment : goal.transform_jsx_attribute_value-slice_bounds-inside-count-in-Ok-Fragment
transform_jsx_attribute_value-slice_bounds-inside-count-in-Ok-Fragment t c = value_fits c.args.tape.now (arm c.value_command_at.ensures c.in-Ok-Fragment.is c.in-Ok-Fragment.field-0-is)

pub transform_jsx_attribute_value-slice_bounds-inside-start-in-Ok-Fragment : goal.transform_jsx_attribute_value-slice_bounds-inside-start-in-Ok-Fragment
transform_jsx_attribute_value-slice_bounds-inside-start-in-Ok-Fragment t c = omega (arith, value_fits c.args.tape.now (arm c.value_command_at.ensures c.in-Ok-Fragment.is c.in-Ok-Fragment.field-0-is))

pub transform_jsx_attribute_value-fragment-requires : goal.transform_jsx_attribute_value-fragment-requires
transform_jsx_attribute_value-fragment-requires t c = omega (arith, value_fits c.args.tape.now (arm c.value_command_at.ensures c.in-Ok-Fragment.is c.in-Ok-Fragment.field-0-is), part_length 9 c.args.tape.now)

pub transform_jsx_attribute_value-returns-in-Ok-Absent-clause-used_in_bounds : goal.transform_jsx_attribute_value-returns-in-Ok-Absent-clause-used_in_bounds
transform_jsx_attribute_value-returns-in-Ok-Absent-clause-used_in_bounds t c = value_fits c.args.tape.now (arm c.value_command_at.ensures c.in-Ok-Absent.is c.in-Ok-Absent.field-0-is)

pub transform_jsx_attribute_value-returns-in-Ok-Absent-clause-written : goal.transform_jsx_attribute_value-returns-in-Ok-Absent-clause-written
transform_jsx_attribute_value-returns-in-Ok-Absent-clause-written t c =
    λ f d v u h e. absent_written (context_of c.args.sound.now.context) _ _ f d v u e (arm c.value_command_at.ensures c.in-Ok-Absent.is c.in-Ok-Absent.field-0-is) c.put_bare.ensures.written

pub transform_jsx_attribute_value-returns-in-Ok-Empty-clause-used_in_bounds : goal.transform_jsx_attribute_value-returns-in-Ok-Empty-clause-used_in_bounds
transform_jsx_attribute_value-returns-in-Ok-Empty-clause-used_in_bounds t c = value_fits c.args.tape.now (arm c.value_command_at.ensures c.in-Ok-Empty.is c.in-Ok-Empty.field-0-is)

pub transform_jsx_attribute_value-returns-in-Ok-Empty-clause-written : goal.transform_jsx_attribute_value-returns-in-Ok-Empty-clause-written
transform_jsx_attribute_value-returns-in-Ok-Empty-clause-written t c =
    λ f d v u h e. empty_written (context_of c.args.sound.now.context) _ _ f d v u e (arm c.value_command_at.ensures c.in-Ok-Empty.is c.in-Ok-Empty.field-0-is) c.put_bare-in-Ok-Empty.ensures.written

pub transform_jsx_attribute_value-returns-in-Ok-Text-clause-used_in_bounds : goal.transform_jsx_attribute_value-returns-in-Ok-Text-clause-used_in_bounds
transform_jsx_attribute_value-returns-in-Ok-Text-clause-used_in_bounds t c = value_fits c.args.tape.now (arm c.value_command_at.ensures c.in-Ok-Text.is c.in-Ok-Text.field-0-is)

pub transform_jsx_attribute_value-returns-in-Ok-Text-clause-written : goal.transform_jsx_attribute_value-returns-in-Ok-Text-clause-written
transform_jsx_attribute_value-returns-in-Ok-Text-clause-written t c =
    λ f d v u h e. text_written (context_of c.args.sound.now.context) _ _ f d v u e _ (arm c.value_command_at.ensures c.in-Ok-Text.is c.in-Ok-Text.field-0-is) c.put_string.ensures.written

pub transform_jsx_attribute_value-returns-in-Ok-Expression-clause-used_in_bounds : goal.transform_jsx_attribute_value-returns-in-Ok-Expression-clause-used_in_bounds
transform_jsx_attribute_value-returns-in-Ok-Expression-clause-used_in_bounds t c = value_fits c.args.tape.now (arm c.value_command_at.ensures c.in-Ok-Expression.is c.in-Ok-Expression.field-0-is)

pub transform_jsx_attribute_value-returns-in-Ok-Expression-clause-written : goal.transform_jsx_attribute_value-returns-in-Ok-Expression-clause-written
transform_jsx_attribute_value-returns-in-Ok-Expression-clause-written t c =
    λ f d v u h e. expression_written (context_of c.args.sound.now.context) _ _ f d v u e _ (arm c.value_command_at.ensures c.in-Ok-Expression.is c.in-Ok-Expression.field-0-is) c.put_over.ensures.written

pub transform_jsx_attribute_value-returns-in-Ok-Element-clause-used_in_bounds : goal.transform_jsx_attribute_value-returns-in-Ok-Element-clause-used_in_bounds
transform_jsx_attribute_value-returns-in-Ok-Element-clause-used_in_bounds t c =
    omega (arith, value_fits c.args.tape.now (arm c.value_command_at.ensures c.in-Ok-Element.is c.in-Ok-Element.field-0-is), c.transform_jsx.ensures.used_in_bounds, part_length 9 c.args.tape.now)

pub transform_jsx_attribute_value-returns-in-Ok-Element-clause-written : goal.transform_jsx_attribute_value-returns-in-Ok-Element-clause-written
transform_jsx_attribute_value-returns-in-Ok-Element-clause-written t c =
    let q = arm c.value_command_at.ensures c.in-Ok-Element.is c.in-Ok-Element.field-0-is in
    value_element_written (context_of c.args.sound.now.context) c.args.tape.now _ (tail_part c.args.tape.now 9) (value_fits c.args.tape.now q) c.in-Ok-Element.place q (search rules)
    (search rules) c.transform_jsx.ensures.written

pub transform_jsx_attribute_value-returns-in-Ok-Fragment-clause-used_in_bounds : goal.transform_jsx_attribute_value-returns-in-Ok-Fragment-clause-used_in_bounds
transform_jsx_attribute_value-returns-in-Ok-Fragment-clause-used_in_bounds t c =
    omega (arith, value_fits c.args.tape.now (arm c.value_command_at.ensures c.in-Ok-Fragment.is c.in-Ok-Fragment.field-0-is), c.fragment.ensures.used_in_bounds, part_length 9 c.args.tape.now)

pub transform_jsx_attribute_value-returns-in-Ok-Fragment-clause-written : goal.transform_jsx_attribute_value-returns-in-Ok-Fragment-clause-written
transform_jsx_attribute_value-returns-in-Ok-Fragment-clause-written t c =
    let q = arm c.value_command_at.ensures c.in-Ok-Fragment.is c.in-Ok-Fragment.field-0-is in
    value_fragment_written (context_of c.args.sound.now.context) c.args.tape.now _ (tail_part c.args.tape.now 9) (value_fits c.args.tape.now q) _ q c.fragment.ensures.written

pub transform_jsx_attribute_value-returns-in-Err-clause-written : goal.transform_jsx_attribute_value-returns-in-Err-clause-written
transform_jsx_attribute_value-returns-in-Err-clause-written t c =
    λ f d v u h e. absurd (value_error c.args.sound.now.context.text.now c.args.tape.now d f (told c.value_command_at.ensures c.in-Err.is) e)

pub transform_jsx_child-slice_bounds-inside-count : goal.transform_jsx_child-slice_bounds-inside-count
transform_jsx_child-slice_bounds-inside-count t c = child_fits c.args.tape.now (arm c.child_command_at.ensures c.in-Ok-Element.is c.in-Ok-Element.field-0-is)

pub transform_jsx_child-slice_bounds-inside-start : goal.transform_jsx_child-slice_bounds-inside-start
transform_jsx_child-slice_bounds-inside-start t c = omega (arith, child_fits c.args.tape.now (arm c.child_command_at.ensures c.in-Ok-Element.is c.in-Ok-Element.field-0-is))

pub transform_jsx_child-transform_jsx-requires : goal.transform_jsx_child-transform_jsx-requires
transform_jsx_child-transform_jsx-requires t c = omega (arith, child_fits c.args.tape.now (arm c.child_command_at.ensures c.in-Ok-Element.is c.in-Ok-Element.field-0-is), part_length 9 c.args.tape.now)

pub transform_jsx_child-slice_bounds-inside-count-in-Ok-Fragment : goal.transform_jsx_child-slice_bounds-inside-count-in-Ok-Fragment
transform_jsx_child-slice_bounds-inside-count-in-Ok-Fragment t c = child_fits c.args.tape.now (arm c.child_command_at.ensures c.in-Ok-Fragment.is c.in-Ok-Fragment.field-0-is)

pub transform_jsx_child-slice_bounds-inside-start-in-Ok-Fragment : goal.transform_jsx_child-slice_bounds-inside-start-in-Ok-Fragment
transform_jsx_child-slice_bounds-inside-start-in-Ok-Fragment t c = omega (arith, child_fits c.args.tape.now (arm c.child_command_at.ensures c.in-Ok-Fragment.is c.in-Ok-Fragment.field-0-is))

pub transform_jsx_child-fragment-requires : goal.transform_jsx_child-fragment-requires
transform_jsx_child-fragment-requires t c = omega (arith, child_fits c.args.tape.now (arm c.child_command_at.ensures c.in-Ok-Fragment.is c.in-Ok-Fragment.field-0-is), part_length 9 c.args.tape.now)

pub transform_jsx_child-returns-in-Ok-Text-clause-moves : goal.transform_jsx_child-returns-in-Ok-Text-clause-moves
transform_jsx_child-returns-in-Ok-Text-clause-moves t c =
    let text = c.transform_jsx_text.ensures.text in
    (omega (arith, child_fits c.args.tape.now (arm c.child_command_at.ensures c.in-Ok-Text.is c.in-Ok-Text.field-0-is), text.used), omega (arith, text.used), omega (arith, text.few, text.used))

pub transform_jsx_child-returns-in-Ok-Text-clause-step : goal.transform_jsx_child-returns-in-Ok-Text-clause-step
transform_jsx_child-returns-in-Ok-Text-clause-step t c =
    λ f d k u h e. child_text (context_of c.args.sound.now.context) c.args.tape.now _ _ (arm c.child_command_at.ensures c.in-Ok-Text.is c.in-Ok-Text.field-0-is) c.transform_jsx_text.ensures.text
    c.transform_jsx_text.ensures.text_written f d k u e

pub transform_jsx_child-returns-in-Ok-Expression-clause-moves : goal.transform_jsx_child-returns-in-Ok-Expression-clause-moves
transform_jsx_child-returns-in-Ok-Expression-clause-moves t c = (child_fits c.args.tape.now (arm c.child_command_at.ensures c.in-Ok-Expression.is c.in-Ok-Expression.field-0-is), omega arith, omega arith)

pub transform_jsx_child-returns-in-Ok-Expression-clause-step : goal.transform_jsx_child-returns-in-Ok-Expression-clause-step
transform_jsx_child-returns-in-Ok-Expression-clause-step t c =
    λ f d k u h e. child_expression (context_of c.args.sound.now.context) c.args.tape.now _ (arm c.child_command_at.ensures c.in-Ok-Expression.is c.in-Ok-Expression.field-0-is) c.put_over.ensures.written f d k u e

pub transform_jsx_child-returns-in-Ok-Empty-clause-moves : goal.transform_jsx_child-returns-in-Ok-Empty-clause-moves
transform_jsx_child-returns-in-Ok-Empty-clause-moves t c = rw c.unread.ensures (child_fits c.args.tape.now (arm c.child_command_at.ensures c.in-Ok-Empty.is c.in-Ok-Empty.field-0-is), omega arith, omega arith)

pub transform_jsx_child-returns-in-Ok-Empty-clause-step : goal.transform_jsx_child-returns-in-Ok-Empty-clause-step
transform_jsx_child-returns-in-Ok-Empty-clause-step t c =
    λ f d k u h e. rw c.unread.ensures (child_empty (context_of c.args.sound.now.context) c.args.tape.now _ (record { calls = omega arith; notices = omega arith }) (arm c.child_command_at.ensures c.in-Ok-Empty.is c.in-Ok-Empty.field-0-is) f d k u e)

pub transform_jsx_child-returns-in-Ok-Spread-clause-moves : goal.transform_jsx_child-returns-in-Ok-Spread-clause-moves
transform_jsx_child-returns-in-Ok-Spread-clause-moves t c = (child_fits c.args.tape.now (arm c.child_command_at.ensures c.in-Ok-Spread.is c.in-Ok-Spread.field-0-is), omega arith, omega arith)

pub transform_jsx_child-returns-in-Ok-Spread-clause-step : goal.transform_jsx_child-returns-in-Ok-Spread-clause-step
transform_jsx_child-returns-in-Ok-Spread-clause-step t c =
    λ f d k u h e. child_spread (context_of c.args.sound.now.context) c.args.tape.now _ (arm c.child_command_at.ensures c.in-Ok-Spread.is c.in-Ok-Spread.field-0-is) c.put_over-in-Ok-Spread.ensures.written f d k u e

pub transform_jsx_child-returns-in-Ok-Element-clause-moves : goal.transform_jsx_child-returns-in-Ok-Element-clause-moves
transform_jsx_child-returns-in-Ok-Element-clause-moves t c = (
  omega (arith, child_fits c.args.tape.now (arm c.child_command_at.ensures c.in-Ok-Element.is c.in-Ok-Element.field-0-is), c.transform_jsx.ensures.used_in_bounds, part_length 9 c.args.tape.now),
  omega arith,
  omega arith,
)

pub transform_jsx_child-returns-in-Ok-Element-clause-step : goal.transform_jsx_child-returns-in-Ok-Element-clause-step
transform_jsx_child-returns-in-Ok-Element-clause-step t c =
    let q = arm c.child_command_at.ensures c.in-Ok-Element.is c.in-Ok-Element.field-0-is in
    child_element (context_of c.args.sound.now.context) c.args.tape.now _ (tail_part c.args.tape.now 9) (child_fits c.args.tape.now q) c.in-Ok-Element.place q (search rules)
    (search rules) c.transform_jsx.ensures.written

pub transform_jsx_child-returns-in-Ok-Fragment-clause-moves : goal.transform_jsx_child-returns-in-Ok-Fragment-clause-moves
transform_jsx_child-returns-in-Ok-Fragment-clause-moves t c = (
  omega (arith, child_fits c.args.tape.now (arm c.child_command_at.ensures c.in-Ok-Fragment.is c.in-Ok-Fragment.field-0-is), c.fragment.ensures.used_in_bounds, part_length 9 c.args.tape.now),
  omega arith,
  omega arith,
)

pub transform_jsx_child-returns-in-Ok-Fragment-clause-step : goal.transform_jsx_child-returns-in-Ok-Fragment-clause-step
transform_jsx_child-returns-in-Ok-Fragment-clause-step t c =
    let q = arm c.child_command_at.ensures c.in-Ok-Fragment.is c.in-Ok-Fragment.field-0-is in
    child_fragment (context_of c.args.sound.now.context) c.args.tape.now _ (tail_part c.args.tape.now 9) (child_fits c.args.tape.now q) _ q c.fragment.ensures.written

pub transform_jsx_child-returns-in-Ok-End-clause-step : goal.transform_jsx_child-returns-in-Ok-End-clause-step
transform_jsx_child-returns-in-Ok-End-clause-step t c =
    λ f d k u h e. clash (sym c.requires.not_over ∙ over_children c.args.tape.now (arm c.child_command_at.ensures c.in-Ok-End.is c.in-Ok-End.field-0-is))

pub transform_jsx_child-returns-in-Err-clause-step : goal.transform_jsx_child-returns-in-Err-clause-step
transform_jsx_child-returns-in-Err-clause-step t c =
    λ f d k u h e. absurd (children_error c.args.sound.now.context.text.now c.args.tape.now d f (told c.child_command_at.ensures c.in-Err.is) e)
