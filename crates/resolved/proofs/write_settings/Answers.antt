use mathlib.Core.Path.{sym}
use Rattle.packing.specs.Packed.{settings_bytes}
use Rattle.packing.proofs.Bytes.{settings_length}
use Rattle.std.proofs.lemmas.Result.{err_from_is_err_and}
use Rattle.resolved.specs.Resolved.{judge_settings}
use Rattle.store.proofs.Writing.{state_refused, state_accepted}
use Rattle.resolved.proofs.Writing.{crowded_by, roomy_by}
use Rattle.resolved.proofs.write_settings.Goals as goal

pub returns-then-target-lt-SETTINGS_SIZE : goal.returns-then-target-lt-SETTINGS_SIZE
unfolding judge_settings
returns-then-target-lt-SETTINGS_SIZE c =
    let a = c.args in
    let it = state_accepted _ _ c.judge_state.ensures _ _ c.in_ok-judge_state.was
    (crowded_by (settings_bytes a.state.settings) a.target.now (sym (settings_length a.state.settings)) c.if-target-lt-SETTINGS_SIZE.true) in
    record { value = it.0; target_after = it.1 }

pub returns-in_err-judge_state : goal.returns-in_err-judge_state
unfolding judge_settings
returns-in_err-judge_state c =
    let it = state_refused _ _ c.judge_state.ensures _ _ _ c.in_err-judge_state.was in
    let p = err_from_is_err_and c.from_residual.result c.from_residual.ensures.1 in
    record { value = rw (p.1, p.2) it.0; target_after = it.1 }

pub returns : goal.returns
unfolding judge_settings
returns c =
    let a = c.args in
    let it = state_accepted _ _ c.judge_state.ensures _ _ c.in_ok-judge_state.was
    (roomy_by (settings_bytes a.state.settings) a.target.now (sym (settings_length a.state.settings)) c.if-target-lt-SETTINGS_SIZE.false c.put_settings.ensures) in
    record { value = it.0; target_after = it.1 }
