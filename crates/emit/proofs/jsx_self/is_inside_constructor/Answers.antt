use Rattle.std.proofs.Common.{◌≡◌, ◌≤◌, ◌+◌, ◌-◌, Ok, length, arith}
use Rattle.commands.specs.declared.root.ScopeCommand.TheVariants as scopes
use Rattle.commands.specs.Root.{scope_command}
use Rattle.text.proofs.Lists.{told, tail_part}
use Rattle.commands.proofs.Lengths.{scope_fits}
use Rattle.emit.proofs.Readings.{part_smaller, rest_all, rest_more}
use Rattle.emit.proofs.RootHeads.{left_begin, left_scope, left_over}
use Rattle.emit.proofs.jsx_self.is_inside_constructor.Goals as goal
use Rattle.emit.proofs.jsx_self.is_inside_constructor.Goals.{In-Ok-Scope, in-Ok-Element, in-Ok-Fragment, in-Err}

seen : (c : In-Ok-Scope) → scope_command c.loop-kind.known c.loop-kind.rest.now ≡ Ok (scopes.Scope c.in-Ok-Scope.kind)
seen c = told c.scope_command_at.ensures (let e : c.scope_command_at.result ≡ Ok (scopes.Scope c.in-Ok-Scope.kind) = cc in e)

fits : (c : In-Ok-Scope) → 2 ≤ length c.loop-kind.rest.now
fits c = scope_fits c.loop-kind.known c.loop-kind.rest.now (seen c)

pub loop-kind-init : goal.loop-kind-init
loop-kind-init c = (rest_all c.args.tape.now, λ text f s u h e. left_begin h e)

pub slice_bounds-rest-count : goal.slice_bounds-rest-count
slice_bounds-rest-count c = fits (goal.at.slice_bounds-rest-count c).In-Ok-Scope

pub slice_bounds-rest-start : goal.slice_bounds-rest-start
slice_bounds-rest-start c = omega (arith, fits (goal.at.slice_bounds-rest-start c).In-Ok-Scope)

pub loop-kind-smaller : goal.loop-kind-smaller
loop-kind-smaller c = part_smaller c.loop-kind.rest.now 2 (omega arith) (fits (goal.at.loop-kind-smaller c).In-Ok-Scope)

pub loop-kind-preserved : goal.loop-kind-preserved
loop-kind-preserved c = (
  rest_more 2 c.loop-kind.invariant.0 (fits (goal.at.loop-kind-preserved c).In-Ok-Scope) (tail_part c.loop-kind.rest.now 2),
  λ text f s u h e.
      rw (c.is_constructor.ensures, c.is_function-known.ensures)
      (left_scope (c.loop-kind.invariant.1 text f s u h e) (seen (goal.at.loop-kind-preserved c).In-Ok-Scope) (tail_part c.loop-kind.rest.now 2)),
)

pub overflow_sub-result : goal.overflow_sub-result
overflow_sub-result c = omega (arith, c.loop-kind.invariant.0.size)

pub returns-clause-scopes : goal.returns-clause-scopes
returns-clause-scopes c =
    λ text f s u h e.
    let l = c.loop-kind.invariant.1 text f s u h e in
    let used : length c.args.tape.now - length c.loop-kind.rest.now + length c.loop-kind.rest.now ≡ length c.args.tape.now =
    omega (arith, c.loop-kind.invariant.0.size) in
    elim c.match-scope_command_at.branch [
      | in-Ok-Element w ↦
          let q : c.scope_command_at.result ≡ Ok (scopes.Element w.in-Ok-Element.field-0-0) = cc in
          left_over l (told c.scope_command_at.ensures q) tt c.loop-kind.invariant.0 used
      | in-Ok-Fragment w ↦
          let q : c.scope_command_at.result ≡ Ok (scopes.Fragment w.in-Ok-Fragment.field-0-0) = cc in
          left_over l (told c.scope_command_at.ensures q) tt c.loop-kind.invariant.0 used
      | in-Err w ↦ left_over l (told c.scope_command_at.ensures w.in-Err.is) tt c.loop-kind.invariant.0 used
    ]
