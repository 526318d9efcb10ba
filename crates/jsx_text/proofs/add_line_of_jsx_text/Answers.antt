-- `jsx_text::add_line_of_jsx_text` meets its contract. Assumes nothing.
use native.Mathlib.Omega.{arith}
use mathlib.Core.Path.{refl, ◌∙◌}
use Rattle.definitions.specs.Calls.{span_code}
use Rattle.jsx_text.proofs.Writing.{wrote_empty_line, wrote_line}
use Rattle.jsx_text.proofs.add_line_of_jsx_text.Goals as goal

pub returns-then-line-eq0 : goal.returns-then-line-eq0
returns-then-line-eq0 c = record {
  wrote = wrote_empty_line c.args.before.survives c.args.line _ (c.code.ensures ∙ c.lead.ensures) _ _ _ _ c.encode-next.ensures c.if-line-eq0.true;
  survives = refl;
}

pub returns : goal.returns
unfolding span_code
returns c = record {
  wrote = wrote_line c.args.before.survives c.args.line _ (c.code.ensures ∙ c.lead.ensures) _ _ _ _ c.encode-next.ensures
      c.if-line-eq0.false (omega arith) _ _ (rw c.code-2.ensures at c.encode.ensures);
  survives = refl;
}
