-- Numbers of things among those bound (`number_in` of definitions, Store; `place_of` of specs, Numbers).
--     nowhere           what stands past the end of records
--     same_by_eq        what `==` says of two things
--     place_found       a search through records
--     place_is_some, place_there, place_none   what a search's answer says of the number
--     number_le         a number is at most how many things there are
-- Assumes nothing.
use mathlib.Core.Path.{◌≡◌, refl, sym, ap, ◌∙◌}
use mathlib.Core.Bool.{Bool, true, false, cond}
use mathlib.Core.List.{List, [], ◌∷◌}
use Prim.Native.Nat.{ℕ, suc, ◌≤◌}
use native.Mathlib.Omega.{arith}
use lib.ListN.{length, length-map}
use Rattle.std.specs.Prelude.{None, Some, is_some}
use Rattle.std.specs.List.{position, position_or_len}
use Rattle.std.proofs.lemmas.List.Recursion.{is_position_or_len}
use Rattle.definitions.specs.declared.records.Import.{Import}
use Rattle.definitions.specs.declared.records.Import.TheVariants.{Named, Default, FileName}
use Rattle.definitions.specs.declared.records.Record.{Record}
use Rattle.definitions.specs.contracts.records.ImportPartialEq.TheImpl.{ghosts}
use Rattle.definitions.specs.Store.{same_import, number_in, is_bound}
use Rattle.definitions.specs.States.{imports}
use Rattle.records.specs.Numbers.{place_of}

abbrev pub nowhere : Record
nowhere = record { import = Named 0 0; binding = 0 }

pub same_by_eq : (a b : Import) → ghosts.eq a b ≡ same_import a b
unfolding same_import
same_by_eq (Named s n) (Named t m) = refl
same_by_eq (Named s n) (Default t) = refl
same_by_eq (Named s n) FileName = refl
same_by_eq (Default s) (Named t m) = refl
same_by_eq (Default s) (Default t) = refl
same_by_eq (Default s) FileName = refl
same_by_eq FileName (Named t m) = refl
same_by_eq FileName (Default t) = refl
same_by_eq FileName FileName = refl

number_found : (i : Import) (rs : List Record) → number_in (imports rs) i ≡ position_or_len (λ r. same_import r.import i) rs
unfolding number_in
number_found i =
    is_position_or_len (λ rs. number_in (imports rs) i) (λ r. same_import r.import i) refl
    (λ r rs. ap (λ (n : ℕ). cond (same_import r.import i) 0 n) (omega arith))

pub place_found : (i : Import) (rs : List Record) → position (λ r. same_import r.import i) rs ≡ place_of (imports rs) i
unfolding place_of
place_found i rs = rw (number_found i rs, length-map rs (λ r. r.import))

module _ (js : List Import) (i : Import) where
  pub place_is_some : is_some (place_of js i) ≡ is_bound js i
  unfolding place_of
  place_is_some = go (is_bound js i)
    where
      go : (b : Bool) → is_some (cond b (Some (number_in js i)) None) ≡ b
      go true = refl
      go false = refl

  pub place_there : {n : ℕ} → place_of js i ≡ Some n → (is_bound js i ≡ true) × (number_in js i ≡ n)
  unfolding place_of
  place_there {n} = go (is_bound js i)
    where
      go : (b : Bool) → cond b (Some (number_in js i)) None ≡ Some n → (b ≡ true) × (number_in js i ≡ n)
      go true h = (refl, cc)
      go false h = cc

  pub place_none : place_of js i ≡ None → is_bound js i ≡ false
  place_none e = sym place_is_some ∙ ap is_some e

pub number_le : (js : List Import) (i : Import) → number_in js i ≤ length js
unfolding number_in
number_le [] i = omega arith
number_le (j ∷ js) i = go (same_import j i) (number_le js i)
  where
    go : (b : Bool) → number_in js i ≤ length js → cond b 0 (suc (number_in js i)) ≤ suc (length js)
    go true h = omega arith
    go false h = omega arith
