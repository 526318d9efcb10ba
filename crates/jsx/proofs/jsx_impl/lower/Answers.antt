use Rattle.text.proofs.Lists.{tail_part}
use Rattle.jsx.proofs.Heads.{root_lowered}
use Rattle.jsx.proofs.jsx_impl.lower.Goals as goal

pub returns-clause-written : goal.returns-clause-written
returns-clause-written c =
    λ o u e. root_lowered c.args.text.now c.args.tape.now _ c.args.settings.now o c.root_head-head.result
    (tail_part c.args.tape.now c.root_head-head.result.used) (c.root_head-head.ensures.head c.args.text.now o u e) c.transform_root.ensures.written
