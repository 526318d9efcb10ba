-- `lowering::lower_checked` meets its contract: where there is room for all that the tape can give, the root is accepted uncounted. Assumes nothing.
use mathlib.Core.Path.{refl}
use Rattle.std.proofs.lemmas.Result.{err_from_is_err_and}
use Rattle.text.proofs.Lists.{told}
use Rattle.lowering.specs.Steps.{stepped}
use Rattle.lowering.proofs.Judging.{not_fitting}
use Rattle.lowering.proofs.Running.{surely_fits}
use Rattle.lowering.proofs.lower_checked.Goals as goal

pub overflow_sub-calls : goal.overflow_sub-calls
overflow_sub-calls c =
    c.requires.unforged.calls_within

pub overflow_sub-notices : goal.overflow_sub-notices
overflow_sub-notices c =
    c.requires.unforged.notices_within

pub write-requires : goal.write-requires
write-requires c = record {
  ready = c.requires;
  notices_value = surely_fits c.requires c.call_size_bound.ensures.holds_calls c.if-call_size_bound-calls.true c.if-tape-notices.true;
}

pub returns-then-tape-notices : goal.returns-then-tape-notices
returns-then-tape-notices c = c.write.ensures

pub fit-requires : goal.fit-requires
fit-requires c =
    c.requires

pub returns-in_err-fit : goal.returns-in_err-fit
unfolding stepped
returns-in_err-fit c =
    let p = err_from_is_err_and c.from_residual.result c.from_residual.ensures.1 in
    rw (p.1, p.2) (not_fitting _ _ _ _ _ (told c.fit.ensures c.in_err-fit.was) refl)

pub returns : goal.returns
returns c = c.write-2.ensures
