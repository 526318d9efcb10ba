use Rattle.std.proofs.Common.{inl, inr}
use Rattle.text.proofs.Lists.{told}
use Rattle.text.proofs.Parts.{good_bounds, empty_bounds}
use Rattle.text.proofs.Prefixes.{part_well_formed}
use Rattle.parts.proofs.jsx_impl.transform_jsx_text.Goals as goal

pub text_lines-requires : goal.text_lines-requires
text_lines-requires c =
    elim c.in-Empty.is [
      | inl e ↦ let it = empty_bounds _ _ (told c.span_bounds.ensures e) in part_well_formed _ _ c.args.sound.now.text_formed it.0 it.1
      | inr e ↦ let it = good_bounds _ _ (told c.span_bounds.ensures e) in part_well_formed _ _ c.args.sound.now.text_formed it.0 it.1
    ]
