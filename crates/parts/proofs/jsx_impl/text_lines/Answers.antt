use Rattle.std.proofs.Common.{◌≡◌, Bool, true, false, cond, refl, sym, ◌∙◌, arith}
use Rattle.parts.proofs.Texts.{text_produced}
use mir.Val.{bool_byte}
use Rattle.parts.proofs.jsx_impl.text_lines.Goals as goal

counts : (b : Bool) → bool_byte b ≡ cond b 1 0
counts true = refl
counts false = refl

pub returns-clause-text_written : goal.returns-clause-text_written
returns-clause-text_written c =
    let texted = c.fixup_whitespace_and_decode_entities-texted.ensures in
    record {
      counted = c.from.ensures ∙ counts _ ∙ sym texted.survives;
      wrote = text_produced _ (record { calls = refl; notices = refl }) (record { calls = omega arith; notices = omega arith }) (λ small. record {
        wrote = rw (let e : c.min-at.result ≡ c.args.pen.now.at.calls = omega (arith, c.min-at.ensures) in e) at texted.wrote;
        lent = record { calls = refl; notices = refl };
        notices = refl;
        notice_place = refl;
        store = refl;
        full = refl;
      });
    }
