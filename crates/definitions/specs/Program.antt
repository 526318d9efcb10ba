-- What the program `jsxtape` prints for a job, a text and a root.
use Rattle.std.specs.Prelude.{ℕ, List, ◌++◌}
use Rattle.tape.specs.declared.refusal.Refusal.{Refusal}
use Rattle.tape.specs.Refusals.{number_of, figure_of}
use Rattle.definitions.specs.declared.options.Settings.{Settings}
use Rattle.definitions.specs.declared.state.State.{State}
use Rattle.definitions.specs.Judging.{Judged, accepted, refused}
use Rattle.definitions.specs.Opening.{opening_bytes, judge_opening}
use Rattle.definitions.specs.Entries.{open_state, Lowered, judge_root, moved, judge_records}

-- three lines of bytes, or one line with a refusal's number and figure
pub data Printed : Type 0 where
  printed : List ℕ → List ℕ → List ℕ → Printed
  refused_with : ℕ → ℕ → Printed

abbrev pub printed_refusal : Refusal → Printed
printed_refusal r = refused_with (number_of r) (figure_of r)

-- "Each of its targets holds 65,536 bytes"
abbrev pub room : ℕ
room = 65536

-- the opening's notices stand before the root's
unfoldable pub print_records : List ℕ → Lowered → Judged (List ℕ) → Printed
print_records noticed l (accepted t) = printed l.calls (noticed ++ l.notices) t
print_records noticed l (refused r) = printed_refusal r

unfoldable pub print_root : List ℕ → List ℕ → State → Judged Lowered → Printed
print_root text noticed s (accepted l) = print_records noticed l (judge_records text (moved s l) room)
print_root text noticed s (refused r) = printed_refusal r

unfoldable pub print_opening : List ℕ → List ℕ → Judged Settings → Printed
print_opening text root (accepted s) = print_root text (opening_bytes text s) (open_state text s) (judge_root text (open_state text s) root room room)
print_opening text root (refused r) = printed_refusal r

unfoldable pub jsxtape : List ℕ → List ℕ → List ℕ → Printed
jsxtape job text root = print_opening text root (judge_opening text job room)
