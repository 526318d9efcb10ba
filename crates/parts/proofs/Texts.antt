-- Text children.
-- Assumes nothing.
use mathlib.Core.Path.{◌≡◌, ap}
use mathlib.Core.List.{List, []}
use Prim.Native.Nat.{◌≤◌, ◌^◌}
use native.Mathlib.Omega.{arith}
use Rattle.text.specs.declared.spans.Span.{Span}
use Rattle.tape.proofs.Targets.{wrote_small}
use Rattle.definitions.specs.Calls.{notice_bytes}
use Rattle.definitions.specs.Lowering.{lower_text}
use Rattle.pen.specs.declared.pen.Pen.{Pen}
use Rattle.pen.specs.Emitting.{calls_from, notices_from, bound_from, Lent, Short, WroteCall, Produced}
use Rattle.jsx_text.specs.TextBytes.{text_bytes}
use Rattle.pen.proofs.Emitting.{standing_full}
use Rattle.jsx_text.proofs.Unbound.{text_anywhere, text_binds_nothing, text_silent}

-- a text's lines, from the bytes that were written for them
pub text_produced : (ls : List Span) {p p' : Pen} → Lent p p' → Short p → (p.at.calls ≤ 2 ^ 63 → WroteCall (text_bytes ls) p p') → Produced (lower_text ls) p p'
unfolding notice_bytes
text_produced ls lent short part = (
  lent,
  short,
  λ a js s.
      let w = part s.calls_small in
      let e : bound_from js (lower_text ls) ≡ js = text_binds_nothing js ls in
      let f : calls_from js (lower_text ls) ≡ text_bytes ls = text_anywhere js ls in
      let g : notices_from (lower_text ls) ≡ [] = ap notice_bytes (text_silent ls) in
      record {
        fullness = rw (e, w.full) (standing_full s);
        stands = rw e (record {
          store = rw (w.full, w.store) s.store;
          calls_small = wrote_small w.wrote;
          notices_small = omega (arith, w.notice_place, s.notices_small);
        });
        call_place = rw f w.wrote.next;
        calls = λ free. rw f w.wrote.holds;
        notice_place = rw g (omega (arith, w.notice_place, s.notices_small));
        notices = rw g w.notices;
      },
)
