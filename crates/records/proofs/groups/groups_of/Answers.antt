use Prim.Native.Nat.{◌+◌}
use native.Mathlib.Omega.{arith}
use mathlib.Core.Path.{sym, ap, ◌∙◌}
use mathlib.Core.List.{List}
use Prim.Native.Nat.{ℕ}
use lib.ListN.{drop}
use Rattle.definitions.specs.Records.{groups_from}
use Rattle.records.proofs.Grouping.{known_next, groups_next}
use Rattle.records.proofs.groups.groups_of.Goals as goal

pub loop-bound-preserved : goal.loop-bound-preserved
loop-bound-preserved c =
    let a = c.args.records.now in
    let i = c.loop-bound.bound-index in
    record {
      apart = c.grouped_by-groups.ensures.apart;
      known = (known_next a i (omega arith) c.loop-bound.invariant.known).1;
      left =
          c.loop-bound.invariant.left ∙ groups_next _ a i (omega arith)
          ∙ ap (λ (g : List ℕ). groups_from g (drop (i + 1) a)) (sym c.grouped_by-groups.ensures.same);
    }
