-- `references::has_reference` meets its contract. Assumes nothing.
use Rattle.std.proofs.Common.{sym, ◌∙◌, arith}
use Rattle.text.proofs.Lists.{told}
use Rattle.references.proofs.Bare.{sign_none}
use Rattle.references.proofs.Search.{sign_inside, sign_passed}
use Rattle.references.proofs.has_reference.Goals as goal

pub returns-in_default : goal.returns-in_default
returns-in_default c = sym (sign_none _ (told c.find_byte.ensures c.in_default.is))

pub slice_bounds-has_reference_within-count : goal.slice_bounds-has_reference_within-count
slice_bounds-has_reference_within-count c = omega (arith, sign_inside _ _ (told c.find_byte.ensures c.in-Some.is))

pub slice_bounds-has_reference_within-start : goal.slice_bounds-has_reference_within-start
slice_bounds-has_reference_within-start c = omega (arith, sign_inside _ _ (told c.find_byte.ensures c.in-Some.is))

pub returns : goal.returns
returns c = c.has_reference_within.ensures ∙ sym (sign_passed _ _ (told c.find_byte.ensures c.in-Some.is))
