-- A walk through records, which writes an entry of each (`entries_in`, `file_name_tape` of definitions, Records).
--     entries_next, file_names_next       at element i
--     entries_length, file_names_length   how long what is written is at most
-- Assumes nothing.
use mathlib.Core.Path.{◌≡◌, refl}
use mathlib.Core.Bool.{Bool, true, false, cond}
use mathlib.Core.List.{List, [], ◌∷◌, ◌++◌, append-nil, append_assoc}
use Prim.Native.Nat.{ℕ, ◌+◌, ◌*◌, ◌≤◌, ◌<◌}
use native.Mathlib.Numerals.{add-one}
use native.Mathlib.Omega.{arith}
use lib.ListN.{length, take, get_or, length-append}
use lib.Seq.{take-suc}
use lib.Dec.{eqb}
use Rattle.definitions.specs.declared.records.Import.{Import}
use Rattle.definitions.specs.declared.records.Import.TheVariants.{Named, Default, FileName}
use Rattle.definitions.specs.declared.records.Record.{Record}
use Rattle.definitions.specs.Records.{entry_in, entries_in, file_name_entry, file_name_tape}
use Rattle.records.proofs.Numbers.{nowhere}

-- ---- a walk that writes the tape of each record behind that of those before

module _ (tape : List Record → List ℕ) (entry : Record → List ℕ) (none : tape [] ≡ []) (one : (r : Record) (rs : List Record) → tape (r ∷ rs) ≡ entry r ++ tape rs) where
  tape_append : (rs qs : List Record) → tape (rs ++ qs) ≡ tape rs ++ tape qs
  tape_append [] qs = rw none
  tape_append (r ∷ rs) qs = rw (one r (rs ++ qs), one r rs, tape_append rs qs, append_assoc)

  tape_next : (a : List Record) (i : ℕ) → i < length a → tape (take i a) ++ entry (get_or a i nowhere) ≡ tape (take (i + 1) a)
  tape_next a i h =
      rw (add-one, take-suc a i nowhere h, tape_append (take i a) (get_or a i nowhere ∷ []), one (get_or a i nowhere) [], none, append-nil)

  tape_length : ((r : Record) → length (entry r) ≤ 3) → (rs : List Record) → length (tape rs) ≤ 3 * length rs
  tape_length small [] = rw none (omega arith)
  tape_length small (r ∷ rs) = rw (one r rs) (omega (arith, length-append (entry r) (tape rs), small r, tape_length small rs))

module _ (s : ℕ) where
  pub entries_next : (a : List Record) (i : ℕ) → i < length a
      → entries_in s (take i a) ++ entry_in s (get_or a i nowhere).import (get_or a i nowhere).binding ≡ entries_in s (take (i + 1) a)
  unfolding entries_in
  entries_next = tape_next (entries_in s) (λ r. entry_in s r.import r.binding) refl (λ r rs. refl)

  entry_length : (i : Import) (b : ℕ) → length (entry_in s i b) ≤ 3
  unfolding entry_in
  entry_length (Named t n) b = go (eqb s t)
    where
      go : (x : Bool) → length (cond x (0xb1 ∷ n ∷ b ∷ []) []) ≤ 3
      go true = omega arith
      go false = omega arith
  entry_length (Default t) b = go (eqb s t)
    where
      go : (x : Bool) → length (cond x (0xb2 ∷ b ∷ []) []) ≤ 3
      go true = omega arith
      go false = omega arith
  entry_length FileName b = omega arith

  pub entries_length : (rs : List Record) → length (entries_in s rs) ≤ 3 * length rs
  unfolding entries_in
  entries_length = tape_length (entries_in s) (λ r. entry_in s r.import r.binding) refl (λ r rs. refl) (λ r. entry_length r.import r.binding)

module _ (place : ℕ) where
  pub file_names_next : (a : List Record) (i : ℕ) → i < length a
      → file_name_tape place (take i a) ++ file_name_entry place (get_or a i nowhere).import (get_or a i nowhere).binding ≡ file_name_tape place (take (i + 1) a)
  unfolding file_name_tape
  file_names_next = tape_next (file_name_tape place) (λ r. file_name_entry place r.import r.binding) refl (λ r rs. refl)

  file_name_length : (i : Import) (b : ℕ) → length (file_name_entry place i b) ≤ 3
  unfolding file_name_entry
  file_name_length (Named t n) b = omega arith
  file_name_length (Default t) b = omega arith
  file_name_length FileName b = omega arith

  pub file_names_length : (rs : List Record) → length (file_name_tape place rs) ≤ 3 * length rs
  unfolding file_name_tape
  file_names_length = tape_length (file_name_tape place) (λ r. file_name_entry place r.import r.binding) refl (λ r rs. refl) (λ r. file_name_length r.import r.binding)
