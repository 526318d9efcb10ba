use Rattle.std.proofs.Common.{arith}
use Rattle.std.specs.Io.KnownBytes.{Appends}
use Rattle.files.proofs.Lines.{line_handed}
use Rattle.files.proofs.print_bytes.Goals as goal

pub returns-clause-written : goal.returns-clause-written
returns-clause-written g c =
    line_handed _ _ (Appends (g.W.Write.contents c.args.out.now) (g.W.Write.contents c.write_front.new.out)) c.put_bytes-n.ensures (omega arith)
    c.write_front.ensures.unfit c.write_front.ensures.written
