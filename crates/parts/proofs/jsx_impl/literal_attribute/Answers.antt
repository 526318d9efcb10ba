use Rattle.std.proofs.Common.{◌≡◌, ap, ◌∙◌, arith}
use Rattle.text.proofs.Lists.{tail_part}
use Prim.Native.Nat.{ℕ, ◌+◌, ◌-◌}
use mathlib.Core.List.{List}
use lib.ListN.{length, take, drop, length-drop}
use Rattle.definitions.specs.Judging.{done}
use Rattle.definitions.specs.Reading.{properties_at}
use Rattle.parts.proofs.jsx_impl.literal_attribute.Goals as goal

pub returns-clause-literal_written : goal.returns-clause-literal_written
returns-clause-literal_written c = λ s b f ps u h i.
    let rest = tail_part c.args.tape.now 3 in
    let j : properties_at f c.args.context.now.text.now (take (length c.args.tape.now - 3) (drop 3 c.args.tape.now)) ≡ done ps u =
    ap (λ (l : List ℕ). properties_at f c.args.context.now.text.now l) rest ∙ i in
    let it = c.lower_literal-used.ensures.used_value s b f ps u (omega (arith, ap length rest, length-drop 3 c.args.tape.now, c.requires)) j in
    record { taken = ap (λ (n : ℕ). 3 + n) it.0; flagged = c.has_property-some.ensures f _ _ _ ps u j; wrote = it.1 }
