use mathlib.Core.Path.{sym}
use native.Mathlib.Omega.{arith}
use lib.Seq.{length-take-le}
use Rattle.jsxseries.proofs.Runs.{records_within}
use Rattle.jsxseries.proofs.print_left.Goals as goal

pub slice_bounds-records-end : goal.slice_bounds-records-end
slice_bounds-records-end g c =
    let a = c.args in
    omega (arith, records_within a.left.now.text.now a.left.now.state _ _ _ c.write_records.ensures.value c.in-Ok.is)

pub slice_bounds-print_line-end-in-Ok-2 : goal.slice_bounds-print_line-end-in-Ok-2
slice_bounds-print_line-end-in-Ok-2 g c =
    let a = c.args in
    sym
    (length-take-le c.in-Ok.n c.write_records.new.target
    (omega (arith, records_within a.left.now.text.now a.left.now.state _ _ _ c.write_records.ensures.value c.in-Ok.is)))
