use Rattle.packing.specs.Packed.{flags_byte}
use Rattle.packing.proofs.Bytes.{weighed}
use Rattle.packing.proofs.writing.flags_byte.Goals as goal

pub returns : goal.returns
unfolding flags_byte
returns c =
    rw (
      weighed _ c.from.ensures,
      weighed _ c.from-2.ensures,
      weighed _ c.from-3.ensures,
      weighed _ c.from-4.ensures,
      weighed _ c.from-5.ensures,
      weighed _ c.from-6.ensures,
      weighed _ c.from-7.ensures,
      weighed _ c.from-8.ensures,
    )
