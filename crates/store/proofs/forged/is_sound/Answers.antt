use mathlib.Core.Path.{◌≡◌, sym}
use Prim.Native.Nat.{◌≤◌, ◌<◌}
use lib.ListN.{take}
use Rattle.std.proofs.Common.{rules}
use Rattle.store.proofs.Soundness.{sound_over, sound_parts}
use Rattle.store.proofs.forged.is_sound.Goals as goal

pub returns-in_default : goal.returns-in_default
returns-in_default c =
    let h : 8 < c.args.state.count = search rules in
    sym (sound_over c.args.text.now c.args.state h)

pub returns : goal.returns
returns c =
    let a = c.args in
    let h : (a.state.count ≤ 8) × (c.in-Some.records.now ≡ take a.state.count a.state.records) = search rules in
    rw (c.spans_borne_out.ensures, c.forms_borne_out.ensures, c.follow.ensures, h.1) (sound_parts a.text.now a.state h.0)
