use Rattle.std.proofs.Common.{◌≡◌, length, length-take-le, sym, ap, ◌∙◌}
use Rattle.std.specs.Option.{unwrap_or}
use Rattle.definitions.specs.Comments.{is_white, place_from}
use Rattle.comments.proofs.Values.{value_taken, value_within}
use Rattle.comments.proofs.value_of.Goals as goal
use Rattle.comments.proofs.value_of.Goals.{After-unwrap_or-end}

end_is : (c : After-unwrap_or-end) → c.unwrap_or-end.result ≡ unwrap_or (place_from is_white c.args.rest.now 0) (length c.args.rest.now)
end_is c = c.unwrap_or-end.ensures ∙ ap (λ o. unwrap_or o (length c.args.rest.now)) (c.place_from.ensures is_white (λ b r h. h))

pub slice_bounds-result-end : goal.slice_bounds-result-end
slice_bounds-result-end c = let within = value_within c.args.rest.now in rw (end_is c) (sym (length-take-le _ _ within))

pub returns : goal.returns
returns c = rw (end_is c) (value_taken c.args.rest.now)
