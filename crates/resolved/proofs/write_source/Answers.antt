use Rattle.std.proofs.Common.{rules}
use Rattle.std.proofs.lemmas.Result.{err_from_is_err_and}
use Rattle.resolved.specs.Resolved.{judge_source}
use Rattle.store.proofs.Writing.{state_short, state_refused, state_accepted}
use Rattle.resolved.proofs.Writing.{source_comes}
use Rattle.resolved.proofs.write_source.Goals as goal

pub returns-in_err-judge_state : goal.returns-in_err-judge_state
unfolding judge_source
returns-in_err-judge_state c =
    let it = state_refused _ _ c.judge_state.ensures _ _ _ c.in_err-judge_state.was in
    let p = err_from_is_err_and c.from_residual.result c.from_residual.ensures.1 in
    record { value = rw (p.1, p.2) it.0; target_after = it.1 }

pub returns : goal.returns
unfolding judge_source
returns c =
    let a = c.args in
    let short = state_short a.text.now a.state c.judge_state.ensures c.in_ok-judge_state.was in
    let it = state_accepted _ _ c.judge_state.ensures _ _ c.in_ok-judge_state.was
    (source_comes a.text.now a.state.settings.options a.source a.target.now short (λ h. c.write_fitting.ensures _ h (λ o r o' p. search rules))) in
    record { value = it.0; target_after = it.1 }
