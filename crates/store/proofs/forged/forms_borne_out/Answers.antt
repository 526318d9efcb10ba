use Rattle.store.proofs.forged.forms_borne_out.Goals as goal

pub returns : goal.returns
returns c = rw (c.form_borne_out.ensures, c.form_borne_out-2.ensures)
