use Rattle.std.proofs.Common.{◌≡◌, rules, Err}
use native.Mathlib.Omega.{arith}
use Rattle.jsxtape.proofs.Ending.{root_refused, records_refused, all_written}
use Rattle.jsxtape.proofs.job.run_root.Goals as goal

pub returns-in_err-stepped : goal.returns-in_err-stepped
returns-in_err-stepped c =
    let a = c.args in
    let e : c.from_residual.result ≡ Err c.in_err-stepped.field-0.0 = search rules in
    rw e
    (root_refused a.text.now a.state a.root.now a.targets.now.calls a.targets.now.notices a.targets.now.records c.requires
    (record { calls_room = omega arith; notices_room = omega arith; records_room = omega arith }) _ _ _
    c.lower_root-stepped.ensures.value c.in_err-stepped.was)

pub returns-in_err-records : goal.returns-in_err-records
returns-in_err-records c =
    let a = c.args in
    let e : c.from_residual-in_err-records.result ≡ Err c.in_err-records.field-0.0 = search rules in
    rw e
    (records_refused a.text.now a.state a.root.now a.targets.now.calls a.targets.now.notices a.targets.now.records c.requires
    (record { calls_room = omega arith; notices_room = omega arith; records_room = omega arith }) _ _
    c.lower_root-stepped.ensures.value c.in_ok-stepped.was c.write_records.ensures.value _ _ c.in_err-records.was)

pub returns : goal.returns
returns c =
    let a = c.args in
    all_written a.text.now a.state a.root.now a.targets.now.calls a.targets.now.notices a.targets.now.records c.requires
    (record { calls_room = omega arith; notices_room = omega arith; records_room = omega arith }) _ _
    c.lower_root-stepped.ensures.value c.in_ok-stepped.was c.write_records.ensures.value _ _
    c.in_ok-records.was c.lower_root-stepped.ensures.calls_after c.lower_root-stepped.ensures.notices_after
    c.write_records.ensures.target_after
