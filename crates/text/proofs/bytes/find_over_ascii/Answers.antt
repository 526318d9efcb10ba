-- `text::bytes::find_over_ascii` meets its contract. Assumes nothing.
use Rattle.std.proofs.Common.{◌≡◌, ◌∙◌, ◌<◌, None, sym, ap, length, get_or, drop, take, ◌-◌, ◌+◌, position, arith, tests, rules}
use Rattle.std.specs.Option.{option_map}
use Rattle.std.proofs.lemmas.Iterator.{YieldsList-from_slice}
use Rattle.std.proofs.lemmas.Iterator.Search.{position_from_yields_List}
use borrow.Author.Tests.{le-leb, ltb-false}
use Rattle.text.specs.Bytes.{find, over_ascii}
use Rattle.text.proofs.Lists.{told, tail_part}
use Rattle.text.proofs.Searching.{find_past, find_hit, find_end, find_further, position_is}
use Rattle.text.proofs.bytes.find_over_ascii.Goals as goal
use Rattle.text.proofs.bytes.find_over_ascii.Goals.{After-position}

pub returns-in_err-first : goal.returns-in_err-first
returns-in_err-first c = c.from_residual.ensures ∙ sym (find_end over_ascii c.args.s.now 0 (search rules))

pub returns-then-not-is_ascii : goal.returns-then-not-is_ascii
returns-then-not-is_ascii c =
    let h : (0 < length c.args.s.now) × (get_or c.args.s.now 0 0 ≡ c.in_ok-first.field-0.now) = search rules in
    sym (find_hit over_ascii c.args.s.now 0 h.0 (le-leb 0x80 (get_or c.args.s.now 0 0) (omega (arith, ltb-false c.in_ok-first.field-0.now 0x80 (told c.is_ascii.ensures c.if-not-is_ascii.true)))))

-- the search goes on behind the blocks
found : (c : After-position)
    → find over_ascii c.args.s.now ≡ option_map (λ j. c.passed_blocks-long.result + c.passed_blocks.result + j) c.position.result
found c =
    let s = c.args.s.now in
    let a = c.passed_blocks-long.result in
    let b = c.passed_blocks.result in
    let e : c.position.result ≡ position over_ascii (take (length s - (a + b)) (drop (a + b) s)) =
    position_from_yields_List over_ascii _ _ c.position.result c.position.ensures.ran (YieldsList-from_slice (take (length s - (a + b)) (drop (a + b) s)) cc)
    (λ x t f h. search (rules, tests)) in
    c.passed_blocks-long.ensures.passed over_ascii (λ block h. let k : find over_ascii h.shown.now ≡ None = search (rules, h.says.met) in rw h.shows at k)
    ∙ find_further over_ascii s a b
    (rw (tail_part s a) at (c.passed_blocks.ensures.passed over_ascii (λ block h. let k : find over_ascii h.shown.now ≡ None = search (rules, h.says.met) in rw h.shows at k)))
    ∙ (find_past over_ascii (a + b) (drop (a + b) s) ∙ ap (option_map (λ j. a + b + j)) (sym (e ∙ position_is over_ascii _ ∙ ap (find over_ascii) (tail_part s (a + b)))))

pub returns-in_err-at : goal.returns-in_err-at
returns-in_err-at c =
    c.from_residual-in_err-at.ensures
    ∙ sym (found (goal.at.returns-in_err-at c).After-position ∙ ap (option_map (λ j. c.passed_blocks-long.result + c.passed_blocks.result + j)) c.in_err-at.was)

pub returns : goal.returns
returns c =
    sym (found (goal.at.returns c).After-position ∙ ap (option_map (λ j. c.passed_blocks-long.result + c.passed_blocks.result + j)) c.in_ok-at.was)
