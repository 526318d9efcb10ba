-- How readings and refusals are put together.
use Rattle.std.specs.Prelude.{ℕ, ◌+◌, Bool, true, false, List, length, ltb, None, Option, Some, Err, Ok, Result}
use Rattle.text.specs.declared.spans.Bounds.{Bounds}
use Rattle.text.specs.declared.spans.Bounds.TheVariants.{Outside, Cuts, Empty, Good}
use Rattle.text.specs.Utf8.{first_ill}
use Rattle.tape.specs.Limits.{max_length}
use Rattle.tape.specs.declared.refusal.Fault.{Fault}
use Rattle.tape.specs.declared.refusal.Fault.TheVariants as fault
use Rattle.tape.specs.declared.refusal.Refusal.{Refusal}
use Rattle.tape.specs.declared.refusal.TapeError.{TapeError}
use Rattle.tape.specs.Refusals.{fault_at}
use Rattle.tape.specs.declared.refusal.Refusal.TheVariants as refusal
use Rattle.commands.specs.declared.error.CommandError.{CommandError}
use Rattle.commands.specs.declared.error.CommandError.TheVariants as command

-- ---- reading a tape

-- what reading a part of a tape gives: a value and the number of bytes that it took, or a fault and the place of its command, counted from
-- where the part begins
pub data Parsed (A : Type 0) : Type 0 where
  done : A → ℕ → Parsed A
  stop : Fault → ℕ → Parsed A

unfoldable pub ◌then◌ : {A B : Type 0} → Parsed A → (A → ℕ → Parsed B) → Parsed B
done a u then k = k a u
stop f p then k = stop f p

infixl 20 ◌then◌
unfoldable pub map : {A B : Type 0} → (A → B) → Parsed A → Parsed B
map g p = p then λ a u. done (g a) u

-- the same, read u bytes further on
unfoldable pub from : {A : Type 0} → ℕ → Parsed A → Parsed A
from u (done a v) = done a (u + v)
from u (stop f p) = stop f (u + p)

-- a command that may not stand here, or has a bad operand: the command's place
abbrev pub wrong : {A : Type 0} → Parsed A
wrong = stop fault.Grammar 0

-- where a command that can't be read is told: operands cut off, or the tape's end, behind what is left; anything else at the command
abbrev pub error_place : List ℕ → CommandError → ℕ
error_place t command.Wrong = 0
error_place t command.Cut = length t
error_place t command.Bad = 0

abbrev pub unreadable : {A : Type 0} → List ℕ → CommandError → Parsed A
unreadable t e = stop fault.Grammar (error_place t e)

-- a command at the front of t, or where it is told that it can't be read
unfoldable pub legible : {C : Type 0} → List ℕ → Result C CommandError → Result C TapeError
legible t (Ok c) = Ok c
legible t (Err e) = Err (fault_at fault.Grammar (error_place t e))

-- what follows a command whose span is in order; the span may be empty
unfoldable pub spanned : {A : Type 0} → Bounds → Parsed A → Parsed A
spanned Outside p = stop fault.Outside 0
spanned Cuts p = stop fault.Cuts 0
spanned Empty p = p
spanned Good p = p

-- what follows a command whose span is a name, which may not be empty
unfoldable pub named : {A : Type 0} → Bounds → Parsed A → Parsed A
named Outside p = stop fault.Outside 0
named Cuts p = stop fault.Cuts 0
named Empty p = stop fault.EmptyName 0
named Good p = p

-- of two spans of one command the fault whose number comes first: 4, 13, 14 (proofs/FaultOrder, `names_told`)
unfoldable pub worse : Bounds → Bounds → Bounds
worse Outside b = Outside
worse Cuts Outside = Outside
worse Cuts Cuts = Cuts
worse Cuts Empty = Cuts
worse Cuts Good = Cuts
worse Empty Outside = Outside
worse Empty Cuts = Cuts
worse Empty Empty = Empty
worse Empty Good = Empty
worse Good b = b

-- ---- judging an entry's input

-- what an entry comes to: it is accepted with a value, or refused
pub data Judged (A : Type 0) : Type 0 where
  accepted : A → Judged A
  refused : Refusal → Judged A

-- a test that refuses, before what holds where it fails
unfoldable pub refuse : {A : Type 0} → Bool → Refusal → Judged A → Judged A
refuse true r j = refused r
refuse false r j = j

-- "text or tape over 65,535 bytes"
abbrev pub too_long : List ℕ → Bool
too_long l = ltb max_length (length l)

-- a search that refuses where it finds something
unfoldable pub refuse_at : {A : Type 0} → Option ℕ → (ℕ → Refusal) → Judged A → Judged A
refuse_at (Some p) r j = refused (r p)
refuse_at None r j = j

-- the tape's first fault refuses
unfoldable pub read : {A B : Type 0} → Parsed A → (A → Judged B) → Judged B
read (done a u) k = k a
read (stop f p) k = refused (refusal.Tape f p)

-- every entry judges its text first: 1, where the text or a tape is too long, then 2
abbrev pub judge_text : {A : Type 0} → Bool → List ℕ → Judged A → Judged A
judge_text long text rest = refuse long refusal.TooLong (refuse_at (first_ill text) refusal.NotUtf8 rest)

-- and then its state: 12
abbrev pub judge_state : {A : Type 0} → Bool → List ℕ → Bool → Judged A → Judged A
judge_state long text forged rest = judge_text long text (refuse forged refusal.Forged rest)
