use Prim.Native.Nat.{ℕ, ◌<◌}
use lib.ListN.{length}
use mathlib.Core.Path.{◌≡◌}
use mathlib.Core.List.{List}
use Rattle.text.specs.declared.spans.Span.{Span}
use Rattle.definitions.specs.Judging.{done}
use Rattle.definitions.specs.Reading.{members_at}
use Rattle.pen.specs.Emitting.{Lent}
use Rattle.emit.proofs.Members.{MembersLeft}
use Rattle.emit.proofs.jsx_impl.transform_jsx_member_expression.Given as goal

abbrev pub invariant-loop-name : goal.invariant-loop-name
invariant-loop-name l =
    Lent l.initial.pen l.pen
    × (l.pen.notices.now ≡ l.initial.pen.notices.now)
    × ((text : List ℕ) (f : ℕ) (ms : List Span) (u : ℕ) → length l.tape < f → members_at f text l.tape ≡ done ms u
    → MembersLeft text ms l.rest l.initial.pen l.pen)

abbrev pub decreases-loop-name : goal.decreases-loop-name
decreases-loop-name l = length l.rest
