use lib.ListN.{length}
use Rattle.settings_test.proofs.Draft.put_parts.Given as goal

abbrev pub decreases-loop-left : goal.decreases-loop-left
decreases-loop-left l = length l.left
