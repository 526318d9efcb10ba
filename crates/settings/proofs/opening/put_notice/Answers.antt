use Rattle.settings.proofs.Noticing.{wrote_part}
use Rattle.settings.proofs.opening.put_notice.Goals as goal

pub returns-in-Err : goal.returns-in-Err
returns-in-Err c = rw c.in-Err.is (wrote_part _ (rw c.new.ensures at c.encode-in-Err.ensures))
