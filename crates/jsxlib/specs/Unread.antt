-- Bytes that are no state's are refused as forged wherever an entry looks at the state: behind 1 and 2, and before all else (proved in proofs/Unread).
use Rattle.std.specs.Prelude.{ℕ, ◌≡◌, false, ◌||◌, List, Err, None}
use Rattle.text.specs.Utf8.{first_ill}
use Rattle.tape.specs.declared.refusal.Refusal.TheVariants as refusal
use Rattle.definitions.specs.Judging.{too_long}
use Rattle.definitions.specs.Entries.{records_answer}
use Rattle.packing.specs.Packed.{unpacked}
use Rattle.jsxlib.specs.Entries.{root_over, run_over, records_over}

abbrev pub RootUnread : Type 0
RootUnread =
    (text state tape calls notices : List ℕ)
    → unpacked state ≡ None
    → (too_long text || too_long tape) ≡ false
    → first_ill text ≡ None
    → (root_over text state tape calls notices).stepped.answer ≡ Err refusal.Forged

abbrev pub ListUnread : Type 0
ListUnread =
    (text state roots calls notices : List ℕ)
    → unpacked state ≡ None
    → too_long text ≡ false
    → first_ill text ≡ None
    → (run_over text state roots calls notices).answer ≡ Err refusal.Forged

abbrev pub RecordsUnread : Type 0
RecordsUnread =
    (text state : List ℕ) (room : ℕ)
    → unpacked state ≡ None
    → too_long text ≡ false
    → first_ill text ≡ None
    → records_answer (records_over text state room) ≡ Err refusal.Forged
