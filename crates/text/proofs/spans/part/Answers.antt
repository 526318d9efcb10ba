-- `text::spans::part` meets its contract. Assumes nothing.
use Rattle.text.proofs.Parts.{part_clipped}
use Rattle.text.proofs.spans.part.Goals as goal

pub returns : goal.returns
returns c = rw (c.min.ensures, c.min-2.ensures, c.from-start.ensures, c.from.ensures) (part_clipped c.args.text.now c.args.span)
