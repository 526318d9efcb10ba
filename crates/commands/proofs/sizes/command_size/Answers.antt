-- `commands::sizes::command_size` meets its contract. Assumes nothing.
use Rattle.std.proofs.Common.{rules, ◌≡◌, ◌∙◌, sym, ap, ◌<◌, ◌≤◌, get_or, Some, arith}
use Rattle.text.specs.Utf8.{nonzero}
use Rattle.commands.specs.Sizes.{command_size}
use Rattle.commands.specs.declared.sizes.TheConstants.{SIZES}
use Rattle.commands.proofs.Table.{listed, unlisted, some_size}
use Rattle.commands.proofs.sizes.command_size.Goals as goal
use Rattle.commands.proofs.sizes.command_size.Goals.{In_ok-size}

pub returns-in_err-size : goal.returns-in_err-size
returns-in_err-size c = let h : 96 ≤ c.args.code = search rules in c.from_residual.ensures ∙ ap nonzero (unlisted c.args.code h c.ranges.code.fits)

found : (c : In_ok-size) → (c.args.code < 96) × (get_or SIZES c.args.code 0 ≡ c.in_ok-size.field-0.now)
found c = search rules

pub returns-in-0 : goal.returns-in-0
returns-in-0 c =
    let h = found (goal.at.returns-in-0 c).In_ok-size in
    ap nonzero (sym c.in-0.is ∙ sym h.1 ∙ listed c.args.code h.0)

pub returns-in_default : goal.returns-in_default
returns-in_default c =
    let h = found (goal.at.returns-in_default c).In_ok-size in
    let e : c.in_ok-size.field-0.now ≡ command_size c.args.code = sym h.1 ∙ listed c.args.code h.0 in
    ap Some (c.from-in_default.ensures ∙ e) ∙ some_size (command_size c.args.code) (λ z. omega (arith, e, z))
