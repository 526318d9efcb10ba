use mathlib.Core.Path.{refl, ◌∙◌}
use Rattle.jsxseries.specs.Running.{world_of}
use Rattle.jsxseries.proofs.Runs.{first_unread, first_cut, first_root}
use Rattle.jsxseries.proofs.series.Series.lower_read.Goals as goal

pub returns-then-read-lt2 : goal.returns-then-read-lt2
returns-then-read-lt2 c =
    let s = c.args.self.now in
    let t = first_unread s.text.now (world_of s) c.args.read.now c.if-read-lt2.true in
    record { first_value = t.0; world_after = t.1; text_stays = refl }

pub returns-then-read-size : goal.returns-then-read-size
returns-then-read-size c =
    let s = c.args.self.now in
    let t = first_cut s.text.now (world_of s) c.args.read.now c.if-read-lt2.false _ (c.from-size.ensures ∙ c.read.ensures) c.if-read-size.true in
    record { first_value = t.0; world_after = t.1; text_stays = refl }

pub returns : goal.returns
returns c =
    let s = c.args.self.now in
    let root = c.lower_root-stepped in
    let t =
    first_root s.text.now (world_of s) c.args.read.now c.if-read-lt2.false _ (c.from-size.ensures ∙ c.read.ensures) c.if-read-size.false
    root.ensures.value root.ensures.calls_after root.ensures.notices_after in
    record { first_value = t.0; world_after = t.1; text_stays = refl }
