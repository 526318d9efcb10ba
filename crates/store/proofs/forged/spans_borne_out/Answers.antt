use Rattle.store.proofs.forged.spans_borne_out.Goals as goal

pub returns : goal.returns
returns c =
    let last = c.borne_out-5.ensures in
    rw (c.borne_out.ensures, c.borne_out-2.ensures, c.borne_out-3.ensures, c.borne_out-4.ensures, last)
