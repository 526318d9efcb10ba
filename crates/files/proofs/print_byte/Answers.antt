use Rattle.std.proofs.Common.{subst, OnOk}
use Rattle.std.specs.Io.KnownBytes.{Appends}
use Rattle.files.proofs.Lines.{digits_behind}
use Rattle.files.proofs.print_byte.Goals as goal

pub returns : goal.returns
returns g c =
    subst (λ bs. OnOk c.write_all.result (Appends (g.W.Write.contents c.args.out.now) (g.W.Write.contents c.write_all.new.self) bs))
    (digits_behind c.args.b c.put_bytes.ensures) c.write_all.ensures.bytes
