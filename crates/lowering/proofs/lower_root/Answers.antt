use mathlib.Core.Path.{◌∙◌}
use Rattle.lowering.proofs.lower_root.Goals as goal

pub returns : goal.returns
returns c =
    let o = c.lower_judged-after.ensures in
    record { value = c.stepped.ensures ∙ o.answered; calls_after = o.called; notices_after = o.noticed }
