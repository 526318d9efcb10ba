-- `vectors::values::letters_of` meets its contract. The loop's invariant: spelling what is left before the letters put so far has the answer. Assumes nothing.
use Prim.Native.Nat.{◌+◌, ◌-◌, ◌%◌}
use mathlib.Core.Path.{◌≡◌, refl, sym, ◌∙◌}
use native.Mathlib.Omega.{arith}
use lib.ListN.{length-set}
use Rattle.vectors.proofs.Folding.{spelled_none, spelled_end, spelled_more}
use Rattle.vectors.proofs.values.letters_of.Goals as goal

pub returns-then-left-eq0 : goal.returns-then-left-eq0
returns-then-left-eq0 c =
    let i : c.loop-i.i - 1 + 1 ≡ c.loop-i.i = omega arith in
    record {
      upper_bound = omega (arith, c.loop-i.invariant.0);
      out_after = rw i (sym (c.loop-i.invariant.2 ∙ rw c.if-left-eq0.true (spelled_none _ _)));
    }

pub loop-i-preserved : goal.loop-i-preserved
loop-i-preserved c =
    let l = c.loop-i in
    let k = length-set l.out (l.i - 1) (96 + l.left % 32) in
    (omega (arith, k), k ∙ l.invariant.1, l.invariant.2 ∙ spelled_more l.i l.left l.out (omega arith) l.invariant.0 c.if-left-eq0.false)

pub returns : goal.returns
returns c =
    let i : c.loop-i.i ≡ 0 = omega arith in
    record {
      upper_bound = omega arith;
      out_after = sym (c.loop-i.invariant.2 ∙ rw i (spelled_end _ _ _ refl));
    }
