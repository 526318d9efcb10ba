use Rattle.std.proofs.Common.{rules, ◌≡◌}
use Rattle.text.proofs.Lists.{tail_part}
use Rattle.tape.specs.Numbers.{u16_at}
use Rattle.lowering.proofs.Listed.{cut_length, ahead_by}
use Rattle.lowering.proofs.series.next_root.Goals as goal

pub returns-in_default-clause-roots_by : goal.returns-in_default-clause-roots_by
returns-in_default-clause-roots_by c = cut_length c.args.roots.now c.in_default.len_below

pub returns-clause-roots_by : goal.returns-clause-roots_by
returns-clause-roots_by c =
    let l = c.args.roots.now in
    let e : c.from_le_bytes.result ≡ u16_at c.args.roots.now 0 = search rules in
    ahead_by l _ _ c.in-len2-up.len_at_least (tail_part l 2) e _ c.split_at_checked.ensures.cases
