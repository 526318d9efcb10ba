use mathlib.Core.Path.{◌≡◌, sym, ap, subst}
use mathlib.Core.Logic.{inl}
use Prim.Native.Nat.{◌+◌, ◌<◌, ◌^◌}
use native.Mathlib.Omega.{arith}
use Rattle.std.proofs.Common.{rules}
use lib.ListN.{length}
use Rattle.std.specs.Iterator.Adapters.{enumerate_source, enumerate_count}
use Rattle.vectors.specs.declared.lines.Lines.{Lines}
use Rattle.vectors.specs.Lines.{lines}
use Rattle.vectors.proofs.Cutting.{few_lines}
use Rattle.layer_test.proofs.run_lines.Goals as goal

-- there are no more lines than bytes, so that they can be numbered
pub loop-i-init-derived : goal.loop-i-init-derived
loop-i-init-derived g c =
    let from = c.enumerate-i-items.ensures in
    let few : length (lines c.args.s.now) < 2 ^ 64 = omega (arith, few_lines c.args.s.now) in
    let source = ap (λ (x : Lines). length (lines x.left.now)) from.source in
    let fits =
    subst (λ r. enumerate_count r + length (lines (enumerate_source r).left.now) < 2 ^ 64) (sym c.into_iter-i-iterator.ensures.into_iter_gives)
    (omega (arith, from.count, source, few)) in
    ((tt, tt, inl fits), search rules)
