-- `text::bytes::find_byte` meets its contract. Assumes nothing.
use Rattle.std.proofs.Common.{◌≡◌, ◌∙◌, sym, ap, eqb, position, length, drop, take, ◌-◌, ◌+◌, None, tests, rules}
use Rattle.std.specs.Option.{option_map}
use Rattle.std.proofs.lemmas.Iterator.{YieldsList-from_slice}
use Rattle.std.proofs.lemmas.Iterator.Search.{position_from_yields_List}
use Rattle.text.specs.Bytes.{find}
use Rattle.text.proofs.Lists.{tail_part}
use Rattle.text.proofs.Searching.{find_past, position_is}
use Rattle.text.proofs.bytes.find_byte.Goals as goal
use Rattle.text.proofs.bytes.find_byte.Goals.{After-position}

-- the search goes on behind the blocks
found : (c : After-position) → find (eqb c.args.b) c.args.s.now ≡ option_map (λ j. c.passed_blocks-passed.result + j) c.position.result
found c =
    let s = c.args.s.now in
    let a = c.passed_blocks-passed.result in
    let e : c.position.result ≡ position (eqb c.args.b) (take (length s - a) (drop a s)) =
    position_from_yields_List (eqb c.args.b) _ _ c.position.result c.position.ensures.ran (YieldsList-from_slice (take (length s - a) (drop a s)) cc) (λ x t f h. search (rules, tests)) in
    c.passed_blocks-passed.ensures.passed (eqb c.args.b) (λ block h. let k : find (eqb c.args.b) h.shown.now ≡ None = search (rules, h.says.met) in rw h.shows at k)
    ∙ (find_past (eqb c.args.b) a (drop a s) ∙ ap (option_map (λ j. a + j)) (sym (e ∙ position_is (eqb c.args.b) _ ∙ ap (find (eqb c.args.b)) (tail_part s a))))

pub returns-in_err-at : goal.returns-in_err-at
returns-in_err-at c =
    c.from_residual.ensures ∙ sym (found (goal.at.returns-in_err-at c).After-position ∙ ap (option_map (λ j. c.passed_blocks-passed.result + j)) c.in_err-at.was)

pub returns : goal.returns
returns c = sym (found (goal.at.returns c).After-position ∙ ap (option_map (λ j. c.passed_blocks-passed.result + j)) c.in_ok-at.was)
