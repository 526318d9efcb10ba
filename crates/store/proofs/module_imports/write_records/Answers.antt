use native.Mathlib.Omega.{arith}
use lib.ListN.{length-take}
use Rattle.std.proofs.lemmas.Result.{err_from_is_err_and}
use Rattle.definitions.specs.States.{live}
use Rattle.definitions.specs.Entries.{judge_records}
use Rattle.records.proofs.Grouping.{bindable_known}
use Rattle.store.proofs.Soundness.{sound_few, sound_bindable}
use Rattle.store.proofs.Writing.{state_sound, state_refused, state_accepted}
use Rattle.store.proofs.module_imports.write_records.Goals as goal

pub write_tape-requires : goal.write_tape-requires
write_tape-requires c =
    let a = c.args in
    let h = state_sound a.text.now a.state c.judge_state.ensures c.in_ok-judge_state.was in
    (omega (arith, sound_few a.text.now a.state h, length-take a.state.count a.state.records), bindable_known a.state.settings (live a.state) (sound_bindable a.text.now a.state h))

pub shared_ref_as_front-write_tape : goal.shared_ref_as_front-write_tape
shared_ref_as_front-write_tape c =
    let a = c.args in
    sound_few a.text.now a.state (state_sound a.text.now a.state c.judge_state.ensures c.in_ok-judge_state.was)

pub returns-in_err-judge_state : goal.returns-in_err-judge_state
unfolding judge_records
returns-in_err-judge_state c =
    let it = state_refused _ _ c.judge_state.ensures _ _ _ c.in_err-judge_state.was in
    let p = err_from_is_err_and c.from_residual.result c.from_residual.ensures.1 in
    record { value = rw (p.1, p.2) it.0; target_after = it.1 }

pub returns : goal.returns
unfolding judge_records
returns c =
    let it = state_accepted _ _ c.judge_state.ensures _ _ c.in_ok-judge_state.was (c.write_tape.ensures.value, c.write_tape.ensures.target_after) in
    record { value = it.0; target_after = it.1 }
