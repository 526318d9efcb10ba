use mathlib.Core.Path.{◌≡◌, sym, ap}
use mathlib.Core.List.{◌∷◌}
use Prim.Native.Nat.{◌+◌, ◌*◌, ◌-◌, ◌<◌}
use native.Mathlib.Omega.{arith}
use lib.ListN.{length, take, drop}
use Rattle.std.proofs.Common.{rules}
use Rattle.vectors.specs.Values.{hex_bytes}
use Rattle.vectors.proofs.Pairs.{first_pair}
use Rattle.vectors.proofs.values.PairsIterator.next.Goals as goal

pub returns-clause-steps : goal.returns-clause-steps
returns-clause-steps c =
    first_pair _ _ _ _ c.inked.ensures c.in-len2-up.len_at_least (sym c.in_ok-digit.ensures.value) (sym c.in_ok-byte.ensures.value)

pub returns-clause-goes : goal.returns-clause-goes
returns-clause-goes c =
    let l = c.inked.result.now in
    let step : hex_bytes c.args.self.now.left.now ≡ (c.in_ok-digit.field-0 * 16 + c.in_ok-byte.field-0) ∷ hex_bytes (take (length l - 2) (drop 2 l)) =
    first_pair _ _ _ _ c.inked.ensures c.in-len2-up.len_at_least (sym c.in_ok-digit.ensures.value) (sym c.in_ok-byte.ensures.value) in
    let less : length (hex_bytes (take (length l - 2) (drop 2 l))) < length (hex_bytes c.args.self.now.left.now) = omega (arith, ap length step) in
    search rules
