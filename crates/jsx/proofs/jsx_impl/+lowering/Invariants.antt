use Rattle.pen.specs.Emitting.{Lent}
use Rattle.emit.specs.Contexts.{context_of}
use Rattle.jsx.specs.Parts.{is_classic_form, KeyWithin}
use Rattle.jsx.proofs.Parenting.{KidsLeft}
use Rattle.definitions.specs.Judging.{done}
use Rattle.definitions.specs.Tree.{Attributes}
use Rattle.definitions.specs.Reading.{attributes_at}
use Rattle.jsx.proofs.Attributing.{AttributesLeft}
use Prim.Native.Nat.{ℕ, ◌≤◌, ◌<◌, ◌+◌, ◌-◌, ◌*◌}
use mathlib.Core.Path.{◌≡◌}
use lib.ListN.{length}
use Rattle.jsx.proofs.jsx_impl.+lowering.Given as goal

abbrev pub decreases-argument : goal.decreases-argument
decreases-argument l = 8 * length l.tape.now + 5

abbrev pub decreases-attribute : goal.decreases-attribute
decreases-attribute l = 8 * length l.tape.now + 2

abbrev pub decreases-attrs : goal.decreases-attrs
decreases-attrs l = 8 * length l.tape.now + 3

abbrev pub decreases-automatic : goal.decreases-automatic
decreases-automatic l = 8 * length l.tape.now + 4

abbrev pub decreases-bare_auto : goal.decreases-bare_auto
decreases-bare_auto l = 8 * length l.tape.now + 3

abbrev pub decreases-bare : goal.decreases-bare
decreases-bare l = 8 * length l.tape.now + 2

abbrev pub decreases-inner : goal.decreases-inner
decreases-inner l = 8 * length l.tape.now + 2

abbrev pub decreases-children : goal.decreases-children
decreases-children l = 8 * length l.tape.now + 1

abbrev pub decreases-create : goal.decreases-create
decreases-create l = 8 * length l.tape.now + 6

abbrev pub decreases-key_of : goal.decreases-key_of
decreases-key_of l = 8 * length l.tape.now + 1

abbrev pub decreases-or_null : goal.decreases-or_null
decreases-or_null l = 8 * length l.tape.now + 4

abbrev pub decreases-plain : goal.decreases-plain
decreases-plain l = 8 * length l.tape.now + 1

abbrev pub decreases-fragment : goal.decreases-fragment
decreases-fragment l = 8 * length l.tape.now + 4

abbrev pub decreases-transform_jsx : goal.decreases-transform_jsx
decreases-transform_jsx l = 8 * length l.tape.now + 7

abbrev pub decreases-transform_jsx_attribute_value : goal.decreases-transform_jsx_attribute_value
decreases-transform_jsx_attribute_value l = 8 * length l.tape.now

abbrev pub decreases-transform_jsx_child : goal.decreases-transform_jsx_child
decreases-transform_jsx_child l = 8 * length l.tape.now

abbrev pub decreases-behind : goal.decreases-behind
decreases-behind l = 8 * length l.tape.now

abbrev pub invariant-attrs-loop-rest : goal.invariant-attrs-loop-rest
invariant-attrs-loop-rest l =
    Lent l.initial.pen l.pen
    × (l.i ≤ length l.tape)
    × KeyWithin (length l.tape) l.key
    × ((f d : ℕ) (a : Attributes) (u : ℕ) → length l.tape < f → attributes_at f l.sound.context.text.now d l.tape ≡ done a u
    → AttributesLeft (context_of l.sound.context) (is_classic_form l.form) d l.tape a u l.initial.pen l.pen l.i l.some l.key)

abbrev pub decreases-attrs-loop-rest : goal.decreases-attrs-loop-rest
decreases-attrs-loop-rest l =
    length l.tape - l.i

abbrev pub invariant-children-loop-rest : goal.invariant-children-loop-rest
invariant-children-loop-rest l = KidsLeft (context_of l.sound.context) l.tape l.rest l.initial.pen l.pen l.count l.spread

abbrev pub decreases-children-loop-rest : goal.decreases-children-loop-rest
decreases-children-loop-rest l = length l.rest
