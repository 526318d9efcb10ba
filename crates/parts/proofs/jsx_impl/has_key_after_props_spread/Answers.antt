use Rattle.std.proofs.Common.{Some, ap, ◌∙◌}
use Rattle.text.proofs.Lists.{tail_part}
use Rattle.parts.proofs.Fronts.{keys_start, keys_key, keys_end, keys_spread, keys_other}
use Rattle.parts.proofs.jsx_impl.has_key_after_props_spread.Goals as goal

pub loop-front-init : goal.loop-front-init
loop-front-init c = λ s b f d a u h e. keys_start h e

pub returns-in-Key : goal.returns-in-Key
returns-in-Key c =
    let q = c.in-Some.is ∙ ap Some c.in-Key.is in
    λ s b f d a u h i. keys_key (c.loop-front.invariant s b f d a u h i) (λ f d a u h i. rw q at (c.front_attribute.ensures.front_is s b f d a u h i))

pub loop-front-preserved-in-Spread : goal.loop-front-preserved-in-Spread
loop-front-preserved-in-Spread c =
    let q = c.in-Some.is ∙ ap Some c.in-Spread.is in
    let moves = rw q at c.front_attribute.ensures.front_within in
    λ s b f d a u h i.
    keys_spread (c.loop-front.invariant s b f d a u h i) _ moves.0 moves.1 (tail_part c.loop-front.rest.now c.in-Spread.n)
    (λ f d a u h i. rw q at (c.front_attribute.ensures.front_is s b f d a u h i))

pub loop-front-preserved : goal.loop-front-preserved
loop-front-preserved c =
    let q = c.in-Some.is ∙ ap Some c.in-Other.is in
    let moves = rw q at c.front_attribute.ensures.front_within in
    λ s b f d a u h i.
    keys_other (c.loop-front.invariant s b f d a u h i) _ moves.0 moves.1 (tail_part c.loop-front.rest.now c.in-Other.n)
    (λ f d a u h i. rw q at (c.front_attribute.ensures.front_is s b f d a u h i))

pub returns : goal.returns
returns c = λ s b f d a u h i. keys_end (c.loop-front.invariant s b f d a u h i) (λ f d a u h i. rw c.in_default.is at (c.front_attribute.ensures.front_is s b f d a u h i))
