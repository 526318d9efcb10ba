-- Places that are told lie within the pragma, so in the text they fit. Assumes nothing.
use Rattle.std.specs.Prelude.{Some, Err}
use mathlib.Core.Path.{◌≡◌}
use mathlib.Core.List.{List}
use Prim.Native.Nat.{ℕ, ◌≤◌, ◌<◌}
use native.Mathlib.Omega.{arith}
use lib.ListN.{length-take, drop}
use Rattle.text.specs.declared.spans.Span.{Span}
use Rattle.text.specs.Bytes.{find, over_ascii}
use Rattle.text.specs.Spans.{part_of}
use Rattle.text.proofs.Searching.{find_found}
use Rattle.definitions.specs.declared.options.InvalidPart.{InvalidPart}
use Rattle.definitions.specs.Pragmas.{pragma_of}
use Rattle.definitions.proofs.OpeningNotices.{part_within}

pub over_ascii_place : (text : List ℕ) (s : Span) (j : ℕ) → find over_ascii (part_of text s) ≡ Some j → j < s.len
unfolding part_of
over_ascii_place text s j e = omega (arith, (find_found over_ascii (part_of text s) j e).inside, length-take s.len (drop s.start text))

pub invalid_place : (text : List ℕ) (s : Span) (p : InvalidPart) → pragma_of (part_of text s) ≡ Err p → p.place ≤ s.len
unfolding part_of
invalid_place text s p e = omega (arith, part_within (part_of text s) p e, length-take s.len (drop s.start text))
