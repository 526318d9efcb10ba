-- Records one after the other (`following` of specs, Following).
--     follows_not, follows_on, follows_all     a walk through records, at element i
--     following_sound                          it is what soundness says of the records
-- Assumes nothing.
use Rattle.std.specs.Prelude.{Option, is_some}
use mathlib.Core.Path.{◌≡◌, refl, ◌∙◌}
use mathlib.Core.Bool.{Bool, true, false, not, ◌&&◌}
use mathlib.Core.List.{List, [], ◌∷◌, ◌++◌, map-append}
use Prim.Native.Nat.{ℕ, suc, ◌+◌, ◌≤◌, ◌<◌}
use native.Mathlib.Numerals.{add-one}
use lib.ListN.{length, take, drop, get_or, drop_of_length-le}
use lib.Seq.{drop-cons, take-suc}
use lib.Dec.{eqb}
use Rattle.definitions.specs.declared.options.Settings.{Settings}
use Rattle.definitions.specs.declared.records.Import.{Import}
use Rattle.definitions.specs.declared.records.Record.{Record}
use Rattle.definitions.specs.Store.{is_bound, can_bind}
use Rattle.definitions.specs.States.{imports, numbered_from, unrepeated, all_bindable}
use Rattle.store.specs.Following.{may_follow, following}
use Rattle.records.specs.Numbers.{place_of}
use Rattle.records.proofs.Numbers.{nowhere, place_is_some}

-- the code's tests: that the number is the place, again that one of those before has the thing, can that the settings bind it
module _ (s : Settings) (a : List Record) (i : ℕ) (h : i < length a) (place : Option ℕ) (again can : Bool)
    (b : again ≡ is_some place) (f : place ≡ place_of (imports (take i a)) (get_or a i nowhere).import) (g : can ≡ can_bind s (get_or a i nowhere).import) where
  may : may_follow s i (imports (take i a)) (get_or a i nowhere) ≡ (eqb (get_or a i nowhere).binding i && not again && can)
  may = rw (b, f, place_is_some (imports (take i a)) (get_or a i nowhere).import, g)

  pub follows_not : (eqb (get_or a i nowhere).binding i && not again && can) ≡ false → following s i (imports (take i a)) (drop i a) ≡ false
  unfolding following
  follows_not e = rw (drop-cons a i nowhere h, may ∙ e)

  pub follows_on : (eqb (get_or a i nowhere).binding i && not again && can) ≡ true
      → following s i (imports (take i a)) (drop i a) ≡ following s (i + 1) (imports (take (i + 1) a)) (drop (i + 1) a)
  unfolding following
  follows_on e = rw (drop-cons a i nowhere h, may ∙ e, add-one, take-suc a i nowhere h, map-append)

pub follows_all : (s : Settings) (k : ℕ) (seen : List Import) (a : List Record) (i : ℕ) → length a ≤ i → following s k seen (drop i a) ≡ true
unfolding following
follows_all s k seen a i h = rw (drop_of_length-le a h)

-- ---- what soundness says of the records

regroup : (x y z u v w : Bool) → (x && y && z && (u && v && w)) ≡ (x && u && (y && v) && (z && w))
regroup false y z u v w = refl
regroup true false z false v w = refl
regroup true false z true v w = refl
regroup true true false false v w = refl
regroup true true false true false w = refl
regroup true true false true true w = refl
regroup true true true u v w = refl

pub following_sound : (s : Settings) (k : ℕ) (seen : List Import) (rs : List Record)
    → following s k seen rs ≡ (numbered_from k rs && unrepeated seen (imports rs) && all_bindable s (imports rs))
unfolding following numbered_from unrepeated all_bindable
following_sound s k seen [] = refl
following_sound s k seen (r ∷ rs) =
    rw (following_sound s (suc k) (seen ++ r.import ∷ []) rs) (regroup (eqb r.binding k) (not (is_bound seen r.import)) (can_bind s r.import) _ _ _)
