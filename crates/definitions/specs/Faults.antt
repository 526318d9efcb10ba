-- docs/TAPES.md, "Within one command": what can be wrong with a command behind its grammar, each cause by itself and by its number, and what is told of a
-- command that has several. That readings tell just this is proved in proofs/FaultOrder.
use Rattle.std.specs.Prelude.{ℕ, ◌+◌, Bool, false, cond, ◌||◌, List, [], ◌∷◌, length, eqb, leb, ltb}
use Rattle.text.specs.declared.spans.Span.{Span}
use Rattle.text.specs.Spans.{part_of, cuts_at}
use Rattle.references.specs.References.{has_reference}
use Rattle.tape.specs.declared.refusal.Fault.{Fault}
use Rattle.tape.specs.Refusals.{fault_number, fault_order}
use Rattle.commands.specs.declared.root.Place.{Place}
use Rattle.definitions.specs.Judging.{Parsed, stop}

-- whether a command has the fault with this number
abbrev pub Faults : Type 0
Faults = ℕ → Bool

-- Of a command that has these faults the first in the order is told, at the command's own place, whichever of its operands has it (DECISIONS 8). A command that has none
-- is what it says and what stands behind it
unfoldable pub told_in : {A : Type 0} → List Fault → Faults → Parsed A → Parsed A
told_in [] has p = p
told_in (f ∷ fs) has p = cond (has (fault_number f)) (stop f 0) (told_in fs has p)

abbrev pub told : {A : Type 0} → Faults → Parsed A → Parsed A
told has p = told_in fault_order has p

-- a span: 4, "ends beyond the text"; 13, "cuts a character"
unfoldable pub span_has : List ℕ → Span → Faults
span_has text s n =
    cond (eqb n 4) (ltb (length text) (s.start + s.len))
    (cond (eqb n 13) (cuts_at text s.start || cuts_at text (s.start + s.len)) false)

-- a name: also 14, "an empty name"
unfoldable pub name_has : List ℕ → Span → Faults
name_has text s n = cond (eqb n 14) (eqb s.len 0) (span_has text s n)

-- a namespaced name: what either part has
unfoldable pub names_have : List ℕ → Span → Span → Faults
names_have text s r n = name_has text s n || name_has text r n

-- a 41 or 50: also 7, "for references alone"
unfoldable pub text_has : List ℕ → Span → Faults
text_has text s n = cond (eqb n 7) (has_reference (part_of text s)) (span_has text s n)

-- a 10 or 11 with d levels open: 6, "65th level of elements and fragments"; 8, "line or column 4,294,967,295"
unfoldable pub node_has : ℕ → Place → Faults
node_has d p n =
    cond (eqb n 6) (leb 64 d)
    (cond (eqb n 8) (eqb p.line 4294967295 || eqb p.column 4294967295) false)
