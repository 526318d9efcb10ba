-- `text::bytes::is_ascii` meets its contract. Assumes nothing.
use Rattle.std.proofs.Common.{◌≡◌, bit_or, rules}
use Rattle.std.specs.List.{fold}
use borrow.Author.Tests.{ltb-true}
use Rattle.text.proofs.Searching.{fold_below}
use Rattle.text.proofs.bytes.is_ascii.Goals as goal

pub returns : goal.returns
returns c =
    let e : c.fold.result ≡ fold (λ all x. bit_or all x) 0 c.args.s.now = search rules in
    λ h. (fold_below c.args.s.now 0 0 (rw e at (ltb-true c.fold.result 0x80 h))).1
