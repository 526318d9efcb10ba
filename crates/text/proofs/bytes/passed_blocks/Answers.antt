-- `text::bytes::passed_blocks` meets its contract. Assumes nothing.
use Rattle.std.proofs.Common.{◌≡◌, ◌++◌, ◌∙◌, refl, sym, length, drop, arith}
use Rattle.std.proofs.Math.Nat.{add-mod_right, zero-mod}
use Rattle.text.proofs.Searching.{block_inside, block_behind, find_block}
use Rattle.text.proofs.bytes.passed_blocks.Given as given
use Rattle.text.proofs.bytes.passed_blocks.Goals as goal
use Rattle.text.proofs.bytes.passed_blocks.Goals.{In-Some}

pub loop-block-init : goal.loop-block-init
loop-block-init g c = (omega arith, cc, cc, λ p f. refl, zero-mod _)

pub returns-then-not-passes-clause-inside : goal.returns-then-not-passes-clause-inside
returns-then-not-passes-clause-inside g c = c.loop-block.invariant.0

pub returns-then-not-passes-clause-whole : goal.returns-then-not-passes-clause-whole
returns-then-not-passes-clause-whole g c = c.loop-block.invariant.4

pub returns-then-not-passes-clause-passed : goal.returns-then-not-passes-clause-passed
returns-then-not-passes-clause-passed g c = c.loop-block.invariant.3

-- the block of a turn stands where the passed bytes end
stands : (g : given.Over) (c : In-Some g) → drop c.loop-block.passed c.args.s.now ≡ c.in-Some.block.now ++ c.next.new.self.rest.now
stands g c = sym c.loop-block.invariant.2 ∙ c.in-Some.ensures.steps.1.0

pub overflow_add-passed : goal.overflow_add-passed
overflow_add-passed g c =
    let h = c.loop-block.invariant in
    let n : length c.in-Some.block.now ≡ c.args.size = c.in-Some.ensures.steps.1.1 ∙ h.1 in
    omega (arith, block_inside c.args.s.now c.in-Some.block.now c.next.new.self.rest.now c.loop-block.passed h.0 (stands g (goal.at.overflow_add-passed g c).In-Some))

pub loop-block-preserved : goal.loop-block-preserved
loop-block-preserved g c =
    let q = stands g (goal.at.loop-block-preserved g c).In-Some in
    let h = c.loop-block.invariant in
    let n : length c.in-Some.block.now ≡ c.args.size = c.in-Some.ensures.steps.1.1 ∙ h.1 in (
      rw (← n) (block_inside _ _ _ _ h.0 q),
      c.in-Some.ensures.steps.0 ∙ h.1,
      rw (← n) (block_behind _ _ _ _ h.0 q),
      λ p f. h.3 p f ∙ rw (← n) (find_block _ _ _ _ h.0 q p (f c.in-Some.block.now (record { shown = c.in-Some.block; shows = refl; says = record { met = c.if-not-passes.ensures } }))),
      rw add-mod_right h.4,
    )

pub returns-clause-inside : goal.returns-clause-inside
returns-clause-inside g c = c.loop-block.invariant.0

pub returns-clause-whole : goal.returns-clause-whole
returns-clause-whole g c = c.loop-block.invariant.4

pub returns-clause-passed : goal.returns-clause-passed
returns-clause-passed g c = c.loop-block.invariant.3
