use mathlib.Core.Path.{sym, ◌∙◌}
use native.Mathlib.Omega.{arith}
use Rattle.std.proofs.Common.{ap, refl}
use Rattle.layer_test.specs.Random.{drawn}
use Rattle.layer_test.proofs.Drawing.{drawn_more, drawn_end}
use Rattle.layer_test.proofs.random.fill.Goals as goal

pub loop-byte-preserved : goal.loop-byte-preserved
loop-byte-preserved c = rw c.next-state.ensures (c.loop-byte.invariant ∙ drawn_more _ _ _ c.loop-byte-test.true)

pub returns : goal.returns
returns c = sym (c.loop-byte.invariant ∙ drawn_end _ _ _ c.loop-byte-test.false)
