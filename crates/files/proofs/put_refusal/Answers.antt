use native.Mathlib.Omega.{arith}
use mathlib.Core.Path.{◌∙◌}
use Rattle.files.proofs.Lines.{refusal_wrote}
use Rattle.files.proofs.put_refusal.Goals as goal

pub returns : goal.returns
returns c =
    refusal_wrote c.args.refusal _ _ (c.from.ensures ∙ c.number.ensures) c.figure.ensures (omega arith)
    c.encode-worded.ensures c.put_decimal-numbered.ensures c.encode-parted.ensures c.put_decimal-figured.ensures
    c.encode.ensures
