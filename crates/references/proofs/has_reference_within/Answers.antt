-- `references::has_reference_within` meets its contract. The loop's invariant: what is left has a reference if all of it has. Assumes nothing.
use Rattle.std.proofs.Common.{◌≡◌, ◌∙◌, ◌≤◌, ◌+◌, ◌-◌, sym, Some, None, length, take, drop, arith, eqb}
use Rattle.text.specs.Bytes.{find}
use Rattle.text.proofs.Lists.{told}
use Rattle.references.specs.References.{has_reference}
use Rattle.references.specs.Walks.{Fronts}
use Rattle.references.proofs.Bare.{sign_none}
use Rattle.references.proofs.Search.{sign_inside, sign_there, found_reference, found_bare}
use Rattle.references.proofs.has_reference_within.Goals as goal
use Rattle.references.proofs.has_reference_within.Goals.{In-Some, In-Some-bare_front}

-- an ampersand was found
found : (c : In-Some) → find (eqb 0x26) c.loop-sign.rest.now ≡ Some c.in-Some.sign
found c = told c.find_ampersand.ensures c.in-Some.is

pub slice_bounds-bare_front-count : goal.slice_bounds-bare_front-count
slice_bounds-bare_front-count c = omega (arith, sign_inside _ _ (found (goal.at.slice_bounds-bare_front-count c).In-Some))

pub slice_bounds-bare_front-start : goal.slice_bounds-bare_front-start
slice_bounds-bare_front-start c = omega (arith, sign_inside _ _ (found (goal.at.slice_bounds-bare_front-start c).In-Some))

pub bare_front-requires : goal.bare_front-requires
bare_front-requires c = sign_there _ _ (found (goal.at.bare_front-requires c).In-Some)

pub returns-in_default-bare_front : goal.returns-in_default-bare_front
returns-in_default-bare_front c =
    let f : Fronts _ None = rw c.in_default-bare_front.is at c.bare_front.ensures in
    sym (c.loop-sign.invariant.1 ∙ found_reference _ _ (found (goal.at.returns-in_default-bare_front c).In-Some) f)

-- it opens nothing
bare : (c : In-Some-bare_front)
    → let l = c.loop-sign.rest.now in
    let to = c.in-Some.sign + c.in-Some-bare_front.bare in
    (1 ≤ c.in-Some-bare_front.bare) × (to ≤ length l) × (has_reference l ≡ has_reference (take (length l - to) (drop to l)))
bare c =
    let f : Fronts _ (Some c.in-Some-bare_front.bare) = rw c.in-Some-bare_front.is at c.bare_front.ensures in
    found_bare _ _ (told c.find_ampersand.ensures c.in-Some.is) _ f

pub overflow_add-rest : goal.overflow_add-rest
overflow_add-rest c = omega (arith, (bare (goal.at.overflow_add-rest c).In-Some-bare_front).1)

pub loop-sign-preserved : goal.loop-sign-preserved
loop-sign-preserved c =
    let b = bare (goal.at.loop-sign-preserved c).In-Some-bare_front in
    (omega (arith, b.1), c.loop-sign.invariant.1 ∙ b.2)

pub returns : goal.returns
returns c = sym (c.loop-sign.invariant.1 ∙ sign_none _ (told c.find_ampersand.ensures c.in_default.is))
