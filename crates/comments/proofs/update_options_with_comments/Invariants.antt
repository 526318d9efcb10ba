use Rattle.std.proofs.Common.{◌≡◌, drop}
use Rattle.definitions.specs.Comments.{with_comments}
use Rattle.comments.specs.Tapes.{comments_of}
use Rattle.comments.proofs.update_options_with_comments.Given as goal

abbrev pub invariant-loop-command : goal.invariant-loop-command
invariant-loop-command l =
    record {
      five : l.command-iterator.size ≡ 5;
      same : with_comments l.text l.fn.options (comments_of (drop 3 l.fn.tape)) ≡ with_comments l.text l.held (comments_of l.command-iterator.rest.now);
    }
