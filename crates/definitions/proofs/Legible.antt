-- A command that is read at the front of a tape, by what `legible` (specs, Judging) tells of it.
--     command_read, command_unread        it was read, or not
-- Assumes nothing.
use mathlib.Core.Path.{◌≡◌, sym}
use mathlib.Core.List.{List}
use Prim.Native.Nat.{ℕ}
use native.Mathlib.Omega.{arith}
use Rattle.std.specs.Prelude.{Result, Ok, Err}
use Rattle.tape.specs.declared.refusal.Fault.TheVariants as fault
use Rattle.tape.specs.declared.refusal.TapeError.{TapeError}
use Rattle.tape.specs.Refusals.{fault_at}
use Rattle.commands.specs.declared.error.CommandError.{CommandError}
use Rattle.definitions.specs.Judging.{error_place, legible}

module _ {C : Type 0} (t : List ℕ) {q command : Result C CommandError} {r : Result C TapeError} (reads : q ≡ command) (h : r ≡ legible t q) where
  -- the code went on with y
  pub command_read : {x y : C} → r ≡ Ok x → x ≡ y → command ≡ Ok y
  unfolding legible
  command_read {x} {y} e i = go q reads h
    where
      go : (q : Result C CommandError) → q ≡ command → r ≡ legible t q → command ≡ Ok y
      go (Ok z) reads h = cc
      go (Err z) reads h = let z : ◌≡◌ {A = ℕ} 0 1 = cc in absurd (omega arith)

  pub command_unread : {e : TapeError} → r ≡ Err e → (x : CommandError) × (command ≡ Err x) × (e ≡ fault_at fault.Grammar (error_place t x))
  unfolding legible
  command_unread {e} k = go q reads h
    where
      go : (q : Result C CommandError) → q ≡ command → r ≡ legible t q → (x : CommandError) × (command ≡ Err x) × (e ≡ fault_at fault.Grammar (error_place t x))
      go (Ok z) reads h = let z : ◌≡◌ {A = ℕ} 0 1 = cc in absurd (omega arith)
      go (Err z) reads h = (z, sym reads, cc)
