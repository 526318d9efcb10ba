use Rattle.text.proofs.Lists.{told}
use Rattle.lowering.proofs.Listed.{list_forged, list_going, list_tested}
use Rattle.lowering.proofs.series.lower_list_if_unforged.Goals as goal

pub returns-then-is_forged : goal.returns-then-is_forged
returns-then-is_forged c =
    list_forged _ _ _ _ _ c.requires.text_len_bound c.requires.text_value
    (told c.is_forged.ensures c.if-is_forged.true) c.list_refused.ensures

pub lower_in_turn-requires : goal.lower_in_turn-requires
lower_in_turn-requires c =
    list_going _ _ _ _ c.args.roots.now c.requires.text_len_bound c.requires.text_value
    (told c.is_forged.ensures c.if-is_forged.false)

pub returns : goal.returns
returns c =
    list_tested _ _ _ _ _ c.requires.text_len_bound c.requires.text_value
    (told c.is_forged.ensures c.if-is_forged.false) c.lower_in_turn.ensures
