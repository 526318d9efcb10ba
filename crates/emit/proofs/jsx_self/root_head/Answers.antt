use native.Mathlib.Omega.{arith}
use mathlib.Core.Path.{sym, ap}
use lib.ListN.{length, length-drop}
use Rattle.text.proofs.Lists.{tail_part}
use Rattle.commands.proofs.Lengths.{heritage_fits}
use Rattle.emit.proofs.RootHeads.{head_of, head_error}
use Rattle.emit.proofs.jsx_self.root_head.Goals as goal

pub returns-in_default-clause-head : goal.returns-in_default-clause-head
returns-in_default-clause-head c = λ text o u e. head_error text c.args.tape.now o u e (sym c.in_default.ensures)

pub slice_bounds-is_inside_constructor-count : goal.slice_bounds-is_inside_constructor-count
slice_bounds-is_inside_constructor-count c = heritage_fits c.args.tape.now (sym c.in-Ok.ensures)

pub slice_bounds-is_inside_constructor-start : goal.slice_bounds-is_inside_constructor-start
slice_bounds-is_inside_constructor-start c = omega (arith, heritage_fits c.args.tape.now (sym c.in-Ok.ensures))

pub returns-clause-used_in_bounds : goal.returns-clause-used_in_bounds
returns-clause-used_in_bounds c =
    omega
    (arith, heritage_fits c.args.tape.now (sym c.in-Ok.ensures), c.is_inside_constructor-scopes.ensures.used_in_bounds, ap length (tail_part c.args.tape.now 2), length-drop 2 c.args.tape.now)

pub returns-clause-head : goal.returns-clause-head
returns-clause-head c =
    λ text o u e. head_of text c.args.tape.now o u e c.is_inside_constructor-scopes.result (sym c.in-Ok.ensures) (c.is_inside_constructor-scopes.ensures.scopes text)
    c.can_add_self_attribute.ensures
