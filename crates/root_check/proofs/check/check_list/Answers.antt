use Rattle.root_check.specs.declared.check.Step.TheVariants as step
use Rattle.root_check.proofs.Loops.{passed_none, passed_next, passed_end, passed_bad, next_room}
use Rattle.std.specs.Prelude.{Ok}
use mathlib.Core.Path.{◌≡◌}
use native.Mathlib.Omega.{arith}
use Rattle.root_check.proofs.check.check_list.Goals as goal

pub loop-u-init : goal.loop-u-init
loop-u-init g c = record { inside = omega arith; passed = λ read h. passed_none read c.args.tape.now }

pub loop-u-preserved : goal.loop-u-preserved
loop-u-preserved g c =
    let l = c.loop-u in
    let e : c.step.result ≡ Ok (step.Next c.in-Ok-Next.u) = cc in
    record {
      inside = (next_room c.args.tape.now l.i l.invariant.inside (c.requires.moves _ _ c.step.ensures) e).1;
      passed = λ read h. passed_next (l.invariant.passed read h) (h _ _ c.step.ensures) e;
    }

pub returns-in-Ok-End : goal.returns-in-Ok-End
returns-in-Ok-End g c read h =
    let e : c.step.result ≡ Ok (step.End c.in-Ok-End.u) = cc in
    record { tells = passed_end (c.loop-u.invariant.passed read h) (h _ _ c.step.ensures) e }

pub returns-in-Err : goal.returns-in-Err
returns-in-Err g c read h = rw c.behind.ensures (record { tells = passed_bad (c.loop-u.invariant.passed read h) (h _ _ c.step.ensures) c.in-Err.is })
