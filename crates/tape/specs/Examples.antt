-- Worked examples, computed from the definitions.
use Rattle.std.specs.Prelude.{ℕ, ◌≡◌, refl, List, [], ◌∷◌, ◌++◌, map}
use Rattle.std.proofs.lemmas.List.Edits.{sets}
use Rattle.text.specs.declared.spans.Span.{Span}
use Rattle.tape.specs.declared.refusal.Fault.TheVariants.{Grammar, Outside, Cuts, EmptyName, Depth, Reference, Position}
use Rattle.tape.specs.declared.refusal.Refusal.TheVariants.{TooLong, NotUtf8, Tape, PragmaByte, Bindings, Space, NoticeSpace, Forged}
use Rattle.tape.specs.Numbers.{u16_at, u32_at, span_at, u16_bytes, u32_bytes, span_bytes}
use Rattle.tape.specs.Refusals.{fault_number, fault_order, number_of, figure_of}
use Rattle.tape.specs.Targets.{Wrote}

abbrev pub span : ℕ → ℕ → Span
span s l = record { start = s; len = l }

-- ---- numbers

pub numbers_read :
    map (λ i. u16_at (0xfe ∷ 0xff ∷ 0x01 ∷ 0x02 ∷ []) i) (0 ∷ 1 ∷ 2 ∷ []) ≡ 0xfffe ∷ 0x01ff ∷ 0x0201 ∷ []
numbers_read = refl

pub long_read : u32_at (7 ∷ 0xfe ∷ 0xff ∷ 0xff ∷ 0xff ∷ []) 1 ≡ 4294967294
long_read = refl

pub span_read : span_at (7 ∷ 1 ∷ 2 ∷ 3 ∷ 0 ∷ []) 1 ≡ span 513 3
span_read = refl

pub bytes_written :
    u16_bytes 65535 ++ u32_bytes 4294967294 ++ span_bytes (span 513 3)
    ≡ 0xff ∷ 0xff ∷ 0xfe ∷ 0xff ∷ 0xff ∷ 0xff ∷ 1 ∷ 2 ∷ 3 ∷ 0 ∷ []
bytes_written = refl

-- ---- refusals: the table of docs/TAPES.md, Refusals

pub refusal_numbers :
    map number_of
    (TooLong
    ∷ NotUtf8 20
    ∷ Tape Grammar 30
    ∷ Tape Outside 40
    ∷ Tape Cuts 40
    ∷ Tape EmptyName 40
    ∷ PragmaByte 50
    ∷ Tape Depth 60
    ∷ Tape Reference 70
    ∷ Tape Position 80
    ∷ Bindings
    ∷ Space 100
    ∷ NoticeSpace 110
    ∷ Forged
    ∷ [])
    ≡ 1 ∷ 2 ∷ 3 ∷ 4 ∷ 13 ∷ 14 ∷ 5 ∷ 6 ∷ 7 ∷ 8 ∷ 9 ∷ 10 ∷ 11 ∷ 12 ∷ []
unfolding number_of fault_number
refusal_numbers = refl

-- docs/TAPES.md, "Within one command"
pub order_by_number : map fault_number fault_order ≡ 3 ∷ 4 ∷ 13 ∷ 14 ∷ 6 ∷ 7 ∷ 8 ∷ []
unfolding fault_number
order_by_number = refl

pub refusal_figures :
    map figure_of
    (TooLong
    ∷ NotUtf8 20
    ∷ Tape Grammar 30
    ∷ PragmaByte 50
    ∷ Bindings
    ∷ Space 100
    ∷ NoticeSpace 110
    ∷ Forged
    ∷ [])
    ≡ 65535 ∷ 20 ∷ 30 ∷ 50 ∷ 8 ∷ 100 ∷ 110 ∷ 0 ∷ []
unfolding figure_of
refusal_figures = refl

-- ---- targets

abbrev pub two_into : List ℕ → ℕ → List ℕ
two_into o at = sets o at (1 ∷ 2 ∷ [])

-- two bytes into a target with room for them, filling one, a byte over its end, and behind it
pub stored :
    map (two_into (9 ∷ 9 ∷ 9 ∷ 9 ∷ [])) (1 ∷ 2 ∷ 3 ∷ 4 ∷ [])
    ≡ (9 ∷ 1 ∷ 2 ∷ 9 ∷ []) ∷ (9 ∷ 9 ∷ 1 ∷ 2 ∷ []) ∷ (9 ∷ 9 ∷ 9 ∷ 1 ∷ []) ∷ (9 ∷ 9 ∷ 9 ∷ 9 ∷ []) ∷ []
stored = refl

-- an empty target counts, and so does one that is a byte short; places stop at 2 ^ 63
pub counted : Wrote [] [] 0 2 (1 ∷ 2 ∷ [])
counted = record { next = refl; holds = refl }

pub counted_short : Wrote (9 ∷ 9 ∷ []) (9 ∷ 1 ∷ []) 1 3 (1 ∷ 2 ∷ [])
counted_short = record { next = refl; holds = refl }

pub counted_far : Wrote (9 ∷ 9 ∷ []) (9 ∷ 9 ∷ []) 9223372036854775807 9223372036854775808 (1 ∷ 2 ∷ [])
counted_far = record { next = refl; holds = refl }
