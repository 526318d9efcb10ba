use Rattle.root_check.proofs.Walking.{size_some, passed_none, passed_no_command, passed_cut, passed_last, passed_more, passed_end, value_skipped}
use Rattle.root_check.specs.Skipping.{size_within, value_passed}
use Rattle.text.proofs.Lists.{tail_part, told}
use Rattle.std.proofs.Common.{◌≡◌, ◌∙◌, ◌-◌, Some, None, get_or, drop, length, arith, sym}
use Rattle.root_check.proofs.skip.skip_value.Goals as goal
use Rattle.root_check.proofs.skip.skip_value.Goals.{in-Some+in_default-size_within, in-Some+in-Some-size_within+in_default-get, in-Some+in-Some-size_within+in-Some-get+then-levels-eq0, in_default}

pub loop-code-init : goal.loop-code-init
loop-code-init c = passed_none _

pub loop-code-smaller : goal.loop-code-smaller
loop-code-smaller c =
    let l = c.loop-code in
    let size : size_within c.in-Some.field-0.now ≡ Some c.in-Some-size_within.size = told c.size_within.ensures c.in-Some-size_within.is in
    omega (arith, c.in-Some-get.ensures.lookup.0.3, size_some _ size)

pub loop-code-preserved : goal.loop-code-preserved
loop-code-preserved c =
    let rest = c.loop-code.rest.now in
    let code : c.in-Some.field-0.now ≡ get_or rest 0 0 = c.in-Some.ensures.item.4 (omega arith) 0 in
    let size : size_within (get_or rest 0 0) ≡ Some c.in-Some-size_within.size = rw code at (told c.size_within.ensures c.in-Some-size_within.is) in
    let behind = c.in-Some-get.ensures.lookup.0 in
    let e : c.in-Some-get.behind.now ≡ drop c.in-Some-size_within.size rest = behind.2 ∙ tail_part rest c.in-Some-size_within.size in
    rw e (passed_more c.loop-code.invariant size (size_some _ size) behind.0 (rw code at (sym c.open_behind-levels.ensures)) c.if-levels-eq0.false)

pub returns : goal.returns
returns c =
    let tape = c.args.tape.now in
    let rest = c.loop-code.rest.now in
    let P = c.loop-code.invariant in
    let e : length tape - length c.match-first.rest.now ≡ value_passed tape = elim c.match-first.branch [
      | in-Some+in_default-size_within w ↦
          let code : w.in-Some.field-0.now ≡ get_or rest 0 0 = w.in-Some.ensures.item.4 (omega arith) 0 in
          let none : size_within (get_or rest 0 0) ≡ None = rw code at (told w.size_within.ensures w.in_default-size_within.is) in
          rw w.rest-is (passed_no_command P none)
      | in-Some+in-Some-size_within+in_default-get w ↦
          let code : w.in-Some.field-0.now ≡ get_or rest 0 0 = w.in-Some.ensures.item.4 (omega arith) 0 in
          let size : size_within (get_or rest 0 0) ≡ Some w.in-Some-size_within.size = rw code at (told w.size_within.ensures w.in-Some-size_within.is) in
          rw w.rest-is (passed_cut P size (omega (arith, w.in_default-get.ensures.lookup.0)))
      | in-Some+in-Some-size_within+in-Some-get+then-levels-eq0 w ↦
          let code : w.in-Some.field-0.now ≡ get_or rest 0 0 = w.in-Some.ensures.item.4 (omega arith) 0 in
          let size : size_within (get_or rest 0 0) ≡ Some w.in-Some-size_within.size = rw code at (told w.size_within.ensures w.in-Some-size_within.is) in
          let behind = w.in-Some-get.ensures.lookup.0 in
          let left : w.in-Some-get.behind.now ≡ drop w.in-Some-size_within.size rest = behind.2 ∙ tail_part rest w.in-Some-size_within.size in
          rw (w.rest-is, left) (passed_last P size (size_some _ size) behind.0 (rw code at (sym w.open_behind-levels.ensures)) w.if-levels-eq0.true)
      | in_default w ↦ rw w.rest-is (passed_end P (omega (arith, w.in_default.ensures.item.3)))
    ] in
    let it = value_skipped _ e in
    record { within = it.0; read = it.1.0; passed = it.1.1 }
