-- `text::bytes::lacks` meets its contract. Assumes nothing.
use Rattle.std.proofs.Common.{◌≡◌, true, ◌&&◌, not, eqb, arith}
use Rattle.std.proofs.lemmas.Grind.{common_steps}
use Rattle.std.specs.List.{fold}
use Rattle.text.proofs.Searching.{fold_lacks}
use Rattle.text.proofs.bytes.lacks.Goals as goal

pub returns : goal.returns
returns c =
    let e : c.fold.result ≡ fold (λ all x. all && not (eqb x c.args.b)) true c.args.s.now = grind (arith, common_steps) in
    λ h. (fold_lacks c.args.b c.args.s.now 0 true (rw e at h)).1
