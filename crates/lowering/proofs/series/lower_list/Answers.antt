use Rattle.text.proofs.Lists.{told}
use Rattle.lowering.proofs.Listed.{list_long, list_ill, run_is}
use Rattle.lowering.proofs.series.lower_list.Goals as goal

pub returns-then-text-gt-MAX_LENGTH : goal.returns-then-text-gt-MAX_LENGTH
returns-then-text-gt-MAX_LENGTH c =
    let it = run_is _ _ _ _ _ (list_long _ _ _ _ _ c.if-text-gt-MAX_LENGTH.true c.list_refused.ensures) in
    record { answer_value = it.0; taken_value = it.1; left = it.2; left_by_series = it.3; kept = it.4 }

pub lower_list_if_unforged-requires : goal.lower_list_if_unforged-requires
lower_list_if_unforged-requires c = record {
  text_len_bound = c.if-text-gt-MAX_LENGTH.false;
  text_value = told c.first_ill_formed.ensures c.in_default.is;
}

pub returns-in-Some : goal.returns-in-Some
returns-in-Some c =
    let it =
    run_is _ _ _ _ _
    (list_ill _ _ _ _ _ c.in-Some.place c.if-text-gt-MAX_LENGTH.false
    (told c.first_ill_formed.ensures c.in-Some.is) c.list_refused-in-Some.ensures)
    in
    record { answer_value = it.0; taken_value = it.1; left = it.2; left_by_series = it.3; kept = it.4 }

pub returns : goal.returns
returns c =
    let it = run_is _ _ _ _ _ c.lower_list_if_unforged.ensures in
    record { answer_value = it.0; taken_value = it.1; left = it.2; left_by_series = it.3; kept = it.4 }
