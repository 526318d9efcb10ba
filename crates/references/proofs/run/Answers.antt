-- `references::run` meets its contract. Assumes nothing.
use Rattle.std.proofs.Common.{◌∙◌, rules, tests}
use Rattle.std.proofs.lemmas.Iterator.{YieldsList-from_slice}
use Rattle.std.proofs.lemmas.Iterator.Consumers.{count_from_yields_List, YieldsList-at}
use Rattle.std.proofs.lemmas.Iterator.Search.{YieldsList-from_take_while}
use Rattle.std.proofs.lemmas.List.Folds.{length-prefix_len}
use Rattle.references.specs.References.{is_of}
use Rattle.references.proofs.Runs.{run_is}
use Rattle.references.proofs.run.Goals as goal

pub returns : goal.returns
returns c =
    count_from_yields_List c.take_while.result c.count.result c.count.ensures.ran
    (YieldsList-from_take_while _ (is_of c.args.kind) (YieldsList-at c.take_while.ensures.source (YieldsList-from_slice c.args.s.now cc)) c.take_while.ensures.closure c.take_while.ensures.done
    (λ x b q k. search (rules, tests)))
    ∙ (length-prefix_len (is_of c.args.kind) c.args.s.now ∙ run_is c.args.kind c.args.s.now)
