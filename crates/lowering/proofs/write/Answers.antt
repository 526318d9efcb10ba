use native.Mathlib.Omega.{arith}
use Rattle.lowering.specs.Steps.{stepped}
use Rattle.std.proofs.Common.{rules}
use Rattle.pen.proofs.Measuring.{pen_is}
use Rattle.lowering.proofs.Judging.{few_records}
use Rattle.lowering.proofs.Running.{written, comes_as}
use Rattle.lowering.proofs.write.Goals as goal

pub store_of-requires : goal.store_of-requires
store_of-requires c =
    few_records c.requires.ready.unforged

pub lower-requires : goal.lower-requires
lower-requires c = record {
  text_len_bound = c.requires.ready.unforged.spelled.short;
  text_value = c.requires.ready.unforged.spelled.formed;
}

pub returns : goal.returns
unfolding stepped
returns c =
    comes_as
    (written {q = c.lower.new.pen} c.requires.ready c.requires.notices_value (omega arith) (omega arith) (omega arith) (pen_is c.args.state _ _ _ _ c.store_of.ensures) c.lower.ensures.written)
    (search rules) (search rules)
