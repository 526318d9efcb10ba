use mathlib.Core.Path.{◌∙◌}
use Rattle.std.proofs.Common.{rules, tests}
use Rattle.std.proofs.lemmas.Iterator.{YieldsList-from_slice}
use Rattle.std.proofs.lemmas.Iterator.Search.{position_from_yields_List}
use Rattle.definitions.specs.declared.records.Record.{Record}
use Rattle.definitions.specs.Store.{same_import}
use Rattle.records.proofs.Numbers.{place_found, same_by_eq}
use Rattle.records.proofs.finding.number_in.Goals as goal

pub returns : goal.returns
returns c =
    position_from_yields_List (λ (r : Record). same_import r.import c.args.import) _ _ c.position.result c.position.ensures.ran
    (YieldsList-from_slice c.args.records.now (cc)) (λ x b q k. search (rules, tests, same_by_eq))
    ∙ place_found c.args.import c.args.records.now
