-- What was counted and what is ahead are the texts of the whole tape; the bound is that of proofs/SizeBounds.
use mathlib.Core.Path.{◌≡◌, sym}
use Prim.Native.Nat.{◌+◌, ◌*◌}
use native.Mathlib.Omega.{arith}
use lib.ListN.{length}
use Rattle.size_bound.specs.SizeBound.{size_bound, call_size_bound}
use Rattle.size_bound.proofs.Passing.{texts_step, texts_end, passed_most}
use Rattle.size_bound.proofs.SizeBounds.{told_bound, no_bound, bound_enough}
use Rattle.size_bound.proofs.call_size_bound.Goals as goal

pub returns-then-tape-gt-MAX_LENGTH : goal.returns-then-tape-gt-MAX_LENGTH
returns-then-tape-gt-MAX_LENGTH c = record {
  value = sym (no_bound _ c.if-tape-gt-MAX_LENGTH.true);
  holds_calls = λ text s js o u h e. omega arith;
}

pub overflow_add-at : goal.overflow_add-at
overflow_add-at c = omega (arith, passed_most _ _ c.bytes_passed-at.ensures)

pub loop-at-preserved : goal.loop-at-preserved
loop-at-preserved c =
    let tape = c.args.tape.now in
    let l = c.loop-at in
    let test = c.loop-at-test in (
      rw c.bytes_passed-at.ensures (omega (arith, texts_step tape l.at test.true, c.text_length.ensures, l.invariant.0)),
      omega (arith, c.bytes_passed-at.ensures),
      omega (arith, passed_most _ _ c.bytes_passed-at.ensures),
    )

pub returns : goal.returns
unfolding size_bound
returns c =
    let tape = c.args.tape.now in
    let l = c.loop-at in
    let e : 4 * length tape + 6 * l.texts ≡ call_size_bound tape = omega (arith, told_bound tape c.if-tape-gt-MAX_LENGTH.false, texts_end tape l.at c.loop-at-test.false, l.invariant.0) in
    record { value = e; holds_calls = rw e (bound_enough tape) }
