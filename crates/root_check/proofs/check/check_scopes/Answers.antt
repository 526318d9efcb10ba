use Rattle.root_check.proofs.Entry.{scope_room, scopes_on, scopes_unread, scopes_element_reach, scopes_fragment_reach}
use Rattle.root_check.proofs.Entry.{scopes_element, scopes_fragment}
use Rattle.definitions.proofs.Legible.{command_read, command_unread}
use Rattle.root_check.proofs.Readings.{unread_within}
use Rattle.root_check.proofs.Loops.{passed_none}
use Rattle.root_check.proofs.Behind.{part, part_length}
use Rattle.commands.specs.declared.root.ScopeCommand.TheVariants as scopes
use Rattle.std.specs.Prelude.{Bool, ◌||◌, Ok}
use Rattle.tape.specs.declared.refusal.TapeError.{TapeError}
use mathlib.Core.Path.{◌≡◌, refl, ap}
use native.Mathlib.Omega.{arith}
use Rattle.root_check.proofs.check.check_scopes.Goals as goal

pub loop-kind-init : goal.loop-kind-init
loop-kind-init c = passed_none _ _

pub loop-kind-smaller : goal.loop-kind-smaller
loop-kind-smaller c =
    let e : c.legible.result ≡ Ok (scopes.Scope c.in-Ok-Scope.kind) = cc in
    let stands = command_read _ c.scope_command_at.ensures c.legible.ensures e refl in
    omega (arith, scope_room c.args.text.now c.args.tape.now _ c.loop-kind.invariant stands)

pub loop-kind-preserved : goal.loop-kind-preserved
loop-kind-preserved c =
    let e : c.legible.result ≡ Ok (scopes.Scope c.in-Ok-Scope.kind) = cc in
    let stands = command_read _ c.scope_command_at.ensures c.legible.ensures e refl in
    scopes_on _ _ _ c.loop-kind.invariant _ stands (ap (λ (b : Bool). c.loop-kind.found || b) c.is_function-found.ensures)

pub open_element-requires : goal.open_element-requires
open_element-requires c =
    let e : c.legible.result ≡ Ok (scopes.Element c.in-Ok-Element.p) = cc in
    let stands = command_read _ c.scope_command_at.ensures c.legible.ensures e refl in
    omega (arith, scope_room c.args.text.now c.args.tape.now _ c.loop-kind.invariant stands, part_length c.loop-kind.i c.args.tape.now)

pub further-requires : goal.further-requires
further-requires c =
    let e : c.legible.result ≡ Ok (scopes.Element c.in-Ok-Element.p) = cc in
    let stands = command_read _ c.scope_command_at.ensures c.legible.ensures e refl in
    omega (arith, scopes_element_reach c.args.text.now c.args.tape.now _ c.loop-kind.invariant _ stands c.open_element.ensures)

pub returns-in-Ok-Element : goal.returns-in-Ok-Element
returns-in-Ok-Element c =
    let e : c.legible.result ≡ Ok (scopes.Element c.in-Ok-Element.p) = cc in
    let stands = command_read _ c.scope_command_at.ensures c.legible.ensures e refl in
    record { tells = scopes_element _ _ _ c.loop-kind.invariant _ stands c.open_element.ensures c.further.ensures }

pub open_fragment-requires : goal.open_fragment-requires
open_fragment-requires c =
    let e : c.legible.result ≡ Ok (scopes.Fragment c.in-Ok-Fragment.p) = cc in
    let stands = command_read _ c.scope_command_at.ensures c.legible.ensures e refl in
    omega (arith, scope_room c.args.text.now c.args.tape.now _ c.loop-kind.invariant stands, part_length c.loop-kind.i c.args.tape.now)

pub further-requires-in-Ok-Fragment : goal.further-requires-in-Ok-Fragment
further-requires-in-Ok-Fragment c =
    let e : c.legible.result ≡ Ok (scopes.Fragment c.in-Ok-Fragment.p) = cc in
    let stands = command_read _ c.scope_command_at.ensures c.legible.ensures e refl in
    omega (arith, scopes_fragment_reach c.args.text.now c.args.tape.now _ c.loop-kind.invariant _ stands c.open_fragment.ensures)

pub returns-in-Ok-Fragment : goal.returns-in-Ok-Fragment
returns-in-Ok-Fragment c =
    let e : c.legible.result ≡ Ok (scopes.Fragment c.in-Ok-Fragment.p) = cc in
    let stands = command_read _ c.scope_command_at.ensures c.legible.ensures e refl in
    record { tells = scopes_fragment _ _ _ c.loop-kind.invariant _ stands c.open_fragment.ensures c.further-in-Ok-Fragment.ensures }

pub behind-requires : goal.behind-requires
behind-requires c =
    let k = command_unread _ c.scope_command_at.ensures c.legible.ensures c.in-Err.is in
    omega (arith, ap (λ (e : TapeError). e.place) k.2, unread_within (part c.loop-kind.i c.args.tape.now) k.0, part_length c.loop-kind.i c.args.tape.now, c.loop-kind.invariant.inside)

pub returns-in-Err : goal.returns-in-Err
returns-in-Err c =
    let k = command_unread _ c.scope_command_at.ensures c.legible.ensures c.in-Err.is in
    rw (c.behind.ensures, k.2) (record { tells = scopes_unread _ _ _ c.loop-kind.invariant k.1 })
