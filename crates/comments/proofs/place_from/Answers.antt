use Rattle.std.proofs.Common.{◌≡◌, ◌+◌, ℕ, Bool, drop, arith, sym, ap, ◌∙◌, rules}
use Rattle.std.specs.List.{position}
use Rattle.std.specs.Option.{option_map}
use Rattle.std.proofs.lemmas.Iterator.{YieldsList-from_slice}
use Rattle.std.proofs.lemmas.Iterator.Search.{position_from_yields_List}
use Rattle.text.proofs.Lists.{tail_part}
use Rattle.definitions.specs.Comments.{place_from}
use Rattle.comments.proofs.Places.{place_position, place_past}
use Rattle.comments.proofs.place_from.Given as given
use Rattle.comments.proofs.place_from.Goals as goal
use Rattle.comments.proofs.place_from.Goals.{After-position}

pub returns-in_err-get : goal.returns-in_err-get
returns-in_err-get g c = λ p h. c.from_residual.ensures ∙ sym (place_past p c.args.s.now c.args.from (omega (arith, c.in_err-get.ensures.lookup)))

-- the rest is searched
found : (g : given.Over) (c : After-position g) (p : ℕ → Bool) → ((b : ℕ) (r : Bool) → g.F.Fn.post c.args.passes (b, tt) r → r ≡ p b)
    → place_from p c.args.s.now c.args.from ≡ option_map (λ j. c.args.from + j) c.position.result
found g c p h =
    let rest = c.in_ok-get.field-0.now in
    let part : rest ≡ drop c.args.from c.args.s.now = c.in_ok-get.ensures.lookup.0.2 ∙ tail_part c.args.s.now c.args.from in
    let e : c.position.result ≡ position p rest =
    position_from_yields_List p _ _ _ c.position.ensures.ran (YieldsList-from_slice rest c.iter.ensures.rest) (λ x b q k. (search rules, h x.now b (search rules))) in
    place_position p c.args.s.now c.args.from ∙ ap (option_map (λ j. c.args.from + j)) (ap (position p) (sym part) ∙ sym e)

pub returns-in_err-n : goal.returns-in_err-n
returns-in_err-n g c =
    λ p h.
    c.from_residual-in_err-n.ensures ∙ sym (found g (goal.at.returns-in_err-n g c).After-position p h ∙ ap (option_map (λ j. c.args.from + j)) c.in_err-n.was)

pub returns : goal.returns
returns g c = λ p h. sym (found g (goal.at.returns g c).After-position p h ∙ ap (option_map (λ j. c.args.from + j)) c.in_ok-n.was)
