-- The loop's invariant is `Came` of Pairs.antt.
use lib.ListN.{length}
use Rattle.vectors.proofs.Pairs.{Came}
use Rattle.vectors.proofs.values.hex_bytes.Given as goal

abbrev pub invariant-loop-byte : goal.invariant-loop-byte
invariant-loop-byte l = Came l.s (length l.initial.out) l.out l.n l.byte-iterator.left.now
