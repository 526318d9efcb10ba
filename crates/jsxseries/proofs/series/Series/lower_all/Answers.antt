use mathlib.Core.Path.{◌∙◌}
use Rattle.jsxseries.proofs.Runs.{left_fits}
use Rattle.jsxseries.proofs.series.Series.lower_all.Goals as goal

pub returns-in_default : goal.returns-in_default
returns-in_default g c = record {
  fits = left_fits _ _ _ c.lower_read.ensures.world_after c.loop.invariant.0;
  text_stays = c.lower_read.ensures.text_stays ∙ c.loop.invariant.1;
}

pub returns-in_err-print_answer : goal.returns-in_err-print_answer
returns-in_err-print_answer g c = record {
  fits = left_fits _ _ _ c.lower_read.ensures.world_after c.loop.invariant.0;
  text_stays = c.lower_read.ensures.text_stays ∙ c.loop.invariant.1;
}

pub loop-preserved : goal.loop-preserved
loop-preserved g c = (left_fits _ _ _ c.lower_read.ensures.world_after c.loop.invariant.0, c.lower_read.ensures.text_stays ∙ c.loop.invariant.1)
