-- What a check of a root tape reports of the definition's reading: how much was taken, or the fault; and how such reports are put together.
use Rattle.std.specs.Prelude.{ℕ, suc, ◌+◌, ◌≤◌, ◌<◌, ◌≡◌, cond, ◌||◌, List, length, drop, eqb, leb, ltb, Err, Ok, Result, ⊤}
use Rattle.tape.specs.declared.refusal.Fault.TheVariants as fault
use Rattle.tape.specs.declared.refusal.TapeError.{TapeError}
use Rattle.tape.specs.Refusals.{fault_at}
use Rattle.commands.specs.declared.root.Place.{Place}
use Rattle.definitions.specs.Judging.{Parsed, done, stop}
use Rattle.root_check.specs.declared.check.Step.{Step}
use Rattle.root_check.specs.declared.check.Step.TheVariants as step

-- ---- the whole tape

-- what the check of a root answers
unfoldable pub checked : {A : Type 0} → Parsed A → Result ⊤ TapeError
checked (done a u) = Ok tt
checked (stop f p) = Err (fault_at f p)

-- "and nothing more": a scan of a tape of len bytes
unfoldable pub closed : ℕ → Result ℕ TapeError → Result ⊤ TapeError
closed len (Ok u) = cond (ltb u len) (Err (fault_at fault.Grammar u)) (Ok tt)
closed len (Err e) = Err e

-- ---- a part of it

-- how many bytes it takes, or its first fault, with the place counted from its front
abbrev pub Scan : Type 0
Scan = Result ℕ TapeError

-- what reading comes to, without the tree
unfoldable pub report : {A : Type 0} → Parsed A → Scan
report (done a u) = Ok u
report (stop f p) = Err (fault_at f p)

-- n bytes, of which no more is asked
abbrev pub taken : ℕ → Parsed (Unit {0})
taken n = done tt n

-- the same scan, u bytes further on
unfoldable pub shifted : ℕ → Scan → Scan
shifted u (Ok v) = Ok (u + v)
shifted u (Err e) = Err (fault_at e.fault (u + e.place))

-- a scan, and where it found nothing wrong what follows
unfoldable pub sequel : Scan → (ℕ → Scan) → Scan
sequel (Ok u) k = k u
sequel (Err e) k = Err e

-- the level of an element or a fragment, and its place: the two tests of `opened`
unfoldable pub level : ℕ → Scan
level d = cond (leb 64 d) (Err (fault_at fault.Depth 0)) (Ok 9)

unfoldable pub position : Place → Scan
position p = cond (eqb p.line 4294967295 || eqb p.column 4294967295) (Err (fault_at fault.Position 0)) (Ok 9)

-- how far a scan reaches
abbrev pub reach : Scan → ℕ
reach (Ok u) = u
reach (Err e) = e.place

-- it stays within len bytes, and takes m of them at least
abbrev pub Within : ℕ → ℕ → Scan → Type 0
Within m len (Ok u) = (m ≤ u) × (u ≤ len)
Within m len (Err e) = e.place ≤ len

-- r is what reading t comes to, by a reader that takes a bound of its turns
pub record Reports (read : ℕ → List ℕ → Scan) (t : List ℕ) (r : Scan) : Type 0 where
  pub tells : (f : ℕ) → length t < f → read f t ≡ r

-- the same, where the reader begins behind a command: the length itself is bound enough
pub record Opens (read : ℕ → List ℕ → Scan) (t : List ℕ) (r : Scan) : Type 0 where
  pub tells : (f : ℕ) → length t ≤ f → read f t ≡ r

-- ---- one of a list

-- a list goes on behind a scan
unfoldable pub going : Scan → Result Step TapeError
going (Ok u) = Ok (step.Next u)
going (Err e) = Err e

-- what a list comes to, by what stands first and what is told of the list u bytes further on
unfoldable pub stepped : Result Step TapeError → (ℕ → Scan) → Scan
stepped (Ok (step.Next u)) k = k u
stepped (Ok (step.End u)) k = Ok u
stepped (Err e) k = Err e

-- a step stays within len bytes, and goes on by one at least
abbrev pub Moves : ℕ → Result Step TapeError → Type 0
Moves len (Ok (step.Next u)) = (1 ≤ u) × (u ≤ len)
Moves len (Ok (step.End u)) = u ≤ len
Moves len (Err e) = e.place ≤ len

-- s is what stands first in the list that t is read as
pub record Steps (read : ℕ → List ℕ → Scan) (t : List ℕ) (s : Result Step TapeError) : Type 0 where
  pub tells : (f : ℕ) → length t < suc f → read (suc f) t ≡ stepped s (λ u. shifted u (read f (drop u t)))
  pub moves : Moves (length t) s
