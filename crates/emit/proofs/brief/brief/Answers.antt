use native.Mathlib.Omega.{arith}
use Rattle.emit.proofs.Outlines.{byte_told}
use Rattle.emit.proofs.brief.brief.Goals as goal

pub overflow_add-result : goal.overflow_add-result
overflow_add-result c = omega (arith, c.flag.ensures.upper_bound, c.flag-2.ensures.upper_bound)

pub overflow_add-result-2 : goal.overflow_add-result-2
overflow_add-result-2 c = omega (arith, c.flag.ensures.upper_bound, c.flag-2.ensures.upper_bound, c.flag-3.ensures.upper_bound)

pub overflow_add-result-3 : goal.overflow_add-result-3
overflow_add-result-3 c = omega (arith, c.flag.ensures.upper_bound, c.flag-2.ensures.upper_bound, c.flag-3.ensures.upper_bound, c.flag-4.ensures.upper_bound)

pub overflow_add-result-4 : goal.overflow_add-result-4
overflow_add-result-4 c = omega (arith, c.flag.ensures.upper_bound, c.flag-2.ensures.upper_bound, c.flag-3.ensures.upper_bound, c.flag-4.ensures.upper_bound, c.flag-5.ensures.upper_bound)

pub overflow_add-result-5 : goal.overflow_add-result-5
overflow_add-result-5 c = omega (arith, c.flag.ensures.upper_bound, c.flag-2.ensures.upper_bound, c.flag-3.ensures.upper_bound, c.flag-4.ensures.upper_bound, c.flag-5.ensures.upper_bound, c.mode_bits.ensures.upper_bound)

pub returns : goal.returns
returns c = rw (c.flag.ensures.value, c.flag-2.ensures.value, c.flag-3.ensures.value, c.flag-4.ensures.value, c.flag-5.ensures.value, c.mode_bits.ensures.value) (byte_told c.args.settings)
