-- Runs of bytes written into a target (`sets` of lib.Seq, `Wrote` of specs/Targets).
--     sets_append, sets_out, sets_nil     a run is its parts in turn; past the end, and into an empty target, nothing is stored
--     sets_room                           what a target holds that has room for the run
--     sets_mid                            the run in a part's place
--     wrote_nothing, wrote_then           the empty run, and one run after another
--     wrote_as                            the same run, written otherwise
--     wrote_length, wrote_nil             the target keeps its length; an empty one stays empty
--     wrote_small, wrote_count            the place after the run: within the limit, and exact below it
--     wrote_room                          what the target holds, where the place after is within it
--     fitted_short, fitted_room           a run that was measured, and then written where it fits
-- Assumes nothing.
use mathlib.Core.Path.{◌≡◌, refl, sym, ap, subst, ◌∙◌}
use mathlib.Core.Logic.{⊎_elim, ◌⊎◌, inl, inr}
use mathlib.Core.List.{List, [], ◌∷◌, ◌++◌}
use Prim.Native.Nat.{ℕ, zero, suc, ◌+◌, ◌-◌, ◌≤◌, ◌<◌, ◌^◌, zero-le, suc-le-suc}
use native.Mathlib.Nat.{add-zero, add-suc, suc-add}
use native.Mathlib.Omega.{arith}
use lib.ListN.{length, take, drop, set, length-append}
use Rattle.std.proofs.Common.{append_assoc, zero-add}
use borrow.Rule.Slice.PartMut.{put_mid, Post-is}
use lib.Seq.{sets, sets-eq, length-sets, set_out}
use mathlib.Core.Bool.{true, false}
use lib.Dec.{ltb}
use borrow.Author.Tests.{lt-ltb, le-ltb}
use Rattle.std.specs.Prelude.{Err, Ok}
use Rattle.tape.specs.declared.refusal.Refusal.TheVariants.{Space}
use Rattle.tape.specs.Targets.{Wrote, Fitted}

-- ---- runs of stores

pub sets_append : (l : List ℕ) (i : ℕ) (u v : List ℕ) → sets (sets l i u) (i + length u) v ≡ sets l i (u ++ v)
sets_append l i [] v = rw add-zero
sets_append l i (a ∷ u) v = rw (add-suc i (length u), ← suc-add i (length u)) (sets_append (set l i a) (suc i) u v)

pub sets_out : (l : List ℕ) (i : ℕ) (v : List ℕ) → length l ≤ i → sets l i v ≡ l
sets_out l i [] h = refl
sets_out l i (a ∷ v) h = rw (set_out l i a h) (sets_out l (suc i) v (omega arith))

pub sets_nil : (i : ℕ) (v : List ℕ) → sets [] i v ≡ []
sets_nil i v = sets_out [] i v zero-le

pub sets_room : (o : List ℕ) (at : ℕ) (bs : List ℕ) → at + length bs ≤ length o → sets o at bs ≡ take at o ++ bs ++ drop (at + length bs) o
sets_room o at bs h = sets-eq bs o at h

pub sets_mid : (o : List ℕ) (at : ℕ) (bs : List ℕ) → at + length bs ≤ length o → put_mid at (at + length bs - at) o bs ≡ sets o at bs
sets_mid o at bs h = rw (Post-is at (at + length bs) o (omega arith)) (sym (sets_room o at bs h ∙ append_assoc (take at o) bs (drop (at + length bs) o)))

-- ---- writes

pub wrote_nothing : (o : List ℕ) (at : ℕ) → at ≤ 2 ^ 63 → Wrote o o at at []
wrote_nothing o at h = record { next = omega arith; holds = refl }

pub wrote_as : {o o' bs bs' : List ℕ} {at r : ℕ} → bs ≡ bs' → Wrote o o' at r bs → Wrote o o' at r bs'
wrote_as {o} {o'} {bs} {bs'} {at} {r} same w = subst (λ b. Wrote o o' at r b) same w

le_or_lt : (a b : ℕ) → (a ≤ b) ⊎ (b < a)
le_or_lt zero b = inl zero-le
le_or_lt (suc a) zero = inr (suc-le-suc zero-le)
le_or_lt (suc a) (suc b) = ⊎_elim (λ p. inl (suc-le-suc p)) (λ q. inr (suc-le-suc q)) (le_or_lt a b)

-- where the first run goes past 2 ^ 63, neither the second nor what it should be stores anything
pub wrote_then : {o o₁ o₂ : List ℕ} {at r r₂ : ℕ} {bs cs : List ℕ} → length o ≤ 2 ^ 63 → Wrote o o₁ at r bs → Wrote o₁ o₂ r r₂ cs → Wrote o o₂ at r₂ (bs ++ cs)
wrote_then {o} {o₁} {o₂} {at} {r} {r₂} {bs} {cs} short p q = record {
  next = omega (arith, p.next, q.next, length-append bs cs);
  holds = q.holds ∙ rw p.holds (⊎_elim inside outside (le_or_lt (at + length bs) (2 ^ 63)));
}
  where
    inside : at + length bs ≤ 2 ^ 63 → sets (sets o at bs) r cs ≡ sets o at (bs ++ cs)
    inside h = let e : r ≡ at + length bs = omega (arith, p.next) in rw e (sets_append o at bs cs)

    outside : 2 ^ 63 < at + length bs → sets (sets o at bs) r cs ≡ sets o at (bs ++ cs)
    outside h =
        sets_out (sets o at bs) r cs (omega (arith, p.next, length-sets o at bs))
        ∙ sym (sets_out (sets o at bs) (at + length bs) cs (omega (arith, length-sets o at bs)))
        ∙ sets_append o at bs cs

pub wrote_length : {o o₁ : List ℕ} {at r : ℕ} {bs : List ℕ} → Wrote o o₁ at r bs → length o₁ ≡ length o
wrote_length {o} {at = at} {bs = bs} w = ap length w.holds ∙ length-sets o at bs

pub wrote_nil : {o₁ : List ℕ} {at r : ℕ} {bs : List ℕ} → Wrote [] o₁ at r bs → o₁ ≡ []
wrote_nil {at = at} {bs = bs} w = w.holds ∙ sets_nil at bs

-- so that a next run can be counted from there
pub wrote_small : {o o₁ : List ℕ} {at r : ℕ} {bs : List ℕ} → Wrote o o₁ at r bs → r ≤ 2 ^ 63
wrote_small w = omega (arith, w.next)

pub wrote_count : {o o₁ : List ℕ} {at r : ℕ} {bs : List ℕ} → at + length bs ≤ 2 ^ 63 → Wrote o o₁ at r bs → r ≡ at + length bs
wrote_count h w = omega (arith, w.next)

-- a place within the target is not the limit: the run had room
pub wrote_room : {o o₁ : List ℕ} {at r : ℕ} {bs : List ℕ} → length o < 2 ^ 63 → r ≤ length o → Wrote o o₁ at r bs
    → (r ≡ at + length bs) × (o₁ ≡ take at o ++ bs ++ drop r o)
wrote_room {o} {o₁} {at} {r} {bs} short h w =
    let e : r ≡ at + length bs = omega (arith, w.next) in
    (e, rw e (w.holds ∙ sets_room o at bs (omega (arith, w.next))))

-- a run that was measured, and then written where it fits
pub fitted_short : (bs o : List ℕ) {s s' : List ℕ} {size : ℕ} → length bs < 2 ^ 63 → Wrote s s' 0 size bs → length o < size → Fitted bs o (Err (Space size)) o
fitted_short bs o {size = size} h w k =
    let e : size ≡ length bs = omega (arith, w.next) in
    let l : ltb (length o) (length bs) ≡ true = lt-ltb (length o) (length bs) (omega arith) in
    record { value = rw (l, e); holds = rw l }

pub fitted_room : (bs o : List ℕ) {s s' o' : List ℕ} {size r : ℕ} → length bs < 2 ^ 63 → Wrote s s' 0 size bs → size ≤ length o → Wrote o o' 0 r bs → Fitted bs o (Ok size) o'
fitted_room bs o {o' = o'} {size = size} h w k v =
    let e : size ≡ length bs = omega (arith, w.next) in
    let l : ltb (length o) (length bs) ≡ false = le-ltb (length o) (length bs) (omega arith) in
    let p : o' ≡ bs ++ drop (length bs) o = v.holds ∙ sets_room o 0 bs (omega arith) ∙ ap (λ (n : ℕ). bs ++ drop n o) (zero-add (length bs)) in
    record { value = rw (l, e); holds = rw l p }
