use mathlib.Core.List.{List}
use Rattle.parts.proofs.Fronts.{MembersLeft}
use Rattle.text.specs.declared.spans.Span.{Span}
use Rattle.definitions.specs.Judging.{done}
use Rattle.definitions.specs.Reading.{members_at}
use Prim.Native.Nat.{ℕ, ◌≤◌}
use mathlib.Core.Path.{◌≡◌}
use lib.ListN.{length}
use Rattle.parts.proofs.jsx_impl.skip_members.Given as goal

abbrev pub invariant-loop-rest : goal.invariant-loop-rest
invariant-loop-rest l = (length l.rest ≤ length l.tape)
    × ((f : ℕ) (text : List ℕ) (ms : List Span) (u : ℕ) → members_at f text l.tape ≡ done ms u → MembersLeft text l.tape u l.rest)

abbrev pub decreases-loop-rest : goal.decreases-loop-rest
decreases-loop-rest l = length l.rest
