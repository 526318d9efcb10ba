use Rattle.root_check.proofs.Entry.{root_refused, root_more, root_all, root_unread}
use Rattle.definitions.proofs.Legible.{command_read, command_unread}
use Rattle.root_check.proofs.Behind.{part_reach}
use Rattle.root_check.proofs.Readings.{scopes_reads}
use Rattle.commands.proofs.Lengths.{heritage_fits}
use Rattle.std.specs.Prelude.{Err}
use Rattle.std.proofs.Common.{rules, false}
use mathlib.Core.Path.{◌≡◌, refl}
use native.Mathlib.Omega.{arith}
use Rattle.root_check.proofs.check.check_root.Goals as goal

pub returns-in_err-legible : goal.returns-in_err-legible
returns-in_err-legible c =
    let k = command_unread _ c.heritage_command_at.ensures c.legible.ensures c.in_err-legible.was in
    let e : c.from_residual.result ≡ Err c.in_err-legible.field-0.0 = search rules in
    rw (e, k.2) (root_unread _ _ k.1)

pub slice_bounds-check_scopes-count : goal.slice_bounds-check_scopes-count
slice_bounds-check_scopes-count c = omega (arith, heritage_fits _ (command_read _ c.heritage_command_at.ensures c.legible.ensures c.in_ok-legible.was refl))

pub slice_bounds-check_scopes-start : goal.slice_bounds-check_scopes-start
slice_bounds-check_scopes-start c = omega (arith, heritage_fits _ (command_read _ c.heritage_command_at.ensures c.legible.ensures c.in_ok-legible.was refl))

pub further-requires : goal.further-requires
further-requires c =
    omega (
      arith,
      part_reach (λ f t. scopes_reads f c.args.text.now false t) 2 c.args.tape.now
          (heritage_fits _ (command_read _ c.heritage_command_at.ensures c.legible.ensures c.in_ok-legible.was refl))
          c.check_scopes-scopes.ensures,
    )

pub returns-in_err-taken : goal.returns-in_err-taken
returns-in_err-taken c =
    let e : c.from_residual-in_err-taken.result ≡ Err c.in_err-taken.field-0.0 = search rules in
    rw e (root_refused _ _ (command_read _ c.heritage_command_at.ensures c.legible.ensures c.in_ok-legible.was refl) c.check_scopes-scopes.ensures c.further.ensures c.in_err-taken.was)

pub returns-then-taken-tape : goal.returns-then-taken-tape
returns-then-taken-tape c =
    root_more _ _ (command_read _ c.heritage_command_at.ensures c.legible.ensures c.in_ok-legible.was refl) c.check_scopes-scopes.ensures c.further.ensures c.in_ok-taken.was
    c.if-taken-tape.true

pub returns : goal.returns
returns c =
    root_all _ _ (command_read _ c.heritage_command_at.ensures c.legible.ensures c.in_ok-legible.was refl) c.check_scopes-scopes.ensures c.further.ensures c.in_ok-taken.was
    c.if-taken-tape.false
