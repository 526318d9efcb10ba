use Rattle.store.proofs.forged.is_forged.Goals as goal

pub returns : goal.returns
returns c = rw c.is_sound.ensures
