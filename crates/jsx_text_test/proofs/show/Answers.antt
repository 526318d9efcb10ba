-- `jsx_text_test::show` is safe and ends: a text that has no ill-formed sequence is one that `jsx_text` takes. Assumes nothing.
use mathlib.Core.Path.{sym, ap, ◌∙◌}
use Rattle.text.specs.Utf8.{first_ill}
use Rattle.jsx_text_test.proofs.show.Goals as goal

pub fixup_whitespace_and_decode_entities-counted-requires : goal.fixup_whitespace_and_decode_entities-counted-requires
fixup_whitespace_and_decode_entities-counted-requires g c = record {
  text_len_bound = c.requires;
  well_formed = ap first_ill (sym c.part.ensures) ∙ sym c.first_ill_formed.ensures ∙ c.in-None.is;
}

pub fixup_whitespace_and_decode_entities-texted-requires : goal.fixup_whitespace_and_decode_entities-texted-requires
fixup_whitespace_and_decode_entities-texted-requires g c = record {
  text_len_bound = c.requires;
  well_formed = ap first_ill (sym c.part.ensures) ∙ sym c.first_ill_formed.ensures ∙ c.in-None.is;
}
