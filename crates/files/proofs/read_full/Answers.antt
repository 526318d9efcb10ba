use Rattle.std.proofs.Common.{rules}
use Rattle.files.proofs.Filling.{filled_more}
use Rattle.files.proofs.read_full.Goals as goal

pub loop-done-preserved : goal.loop-done-preserved
loop-done-preserved g c = record {
  same_length = search rules;
  within = search rules;
  bytes = filled_more _ _ _ _ _ _ _ _ c.loop-done.invariant.within c.in-Ok.ensures.bound.0 c.loop-done.invariant.bytes c.in-Ok.ensures.bytes.0;
}
