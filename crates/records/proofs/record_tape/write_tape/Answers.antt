use Rattle.std.proofs.Common.{rules}
use Rattle.records.proofs.Writing.{tape_comes}
use Rattle.records.proofs.record_tape.write_tape.Goals as goal

pub returns : goal.returns
returns c =
    let it = tape_comes _ _ _ c.groups_of-groups.ensures _ c.requires.0 (λ bs h e. c.write_fitting.ensures bs h (λ o r o' p. rw e (search rules))) in
    record { value = it.0; target_after = it.1 }
