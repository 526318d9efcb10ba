-- What was read whole, taken apart (`Parsed` of definitions, Judging).
--     stopped                      a fault is nothing read
--     named_done, spanned_done     what follows a span in order
--     map_done, from_done, then_done     what was read before it was changed, further on, or first
--     in_part, part_short, part_smaller  a reading further on, in the part that is handed on
--     Rest, rest_all, rest_more          what is left of a tape
-- Assumes nothing.
use mathlib.Core.Path.{◌≡◌, refl, ap, ◌∙◌}
use mathlib.Core.List.{List}
use Prim.Native.Nat.{ℕ, ◌+◌, ◌-◌, ◌≤◌, ◌<◌}
use lib.ListN.{length, take, drop, length-drop}
use lib.Seq.{drop-drop}
use native.Mathlib.Omega.{arith}
use Rattle.text.specs.declared.spans.Bounds.{Bounds}
use Rattle.text.specs.declared.spans.Bounds.TheVariants.{Outside, Cuts, Empty, Good}
use Rattle.text.proofs.Lists.{tail_part}
use Rattle.tape.specs.declared.refusal.Fault.{Fault}
use Rattle.definitions.specs.Judging.{Parsed, done, stop, ◌then◌, map, from, spanned, named}

pub stopped : {A B : Type 0} {f : Fault} {p : ℕ} {x : A} {u : ℕ} → stop f p ≡ done x u → B
stopped e = let z : ◌≡◌ {A = ℕ} 0 1 = cc in absurd (omega arith)

module _ {A : Type 0} {x : A} {u : ℕ} where
  pub named_done : (b : Bounds) (p : Parsed A) → named b p ≡ done x u → p ≡ done x u
  unfolding named
  named_done Outside p e = stopped e
  named_done Cuts p e = stopped e
  named_done Empty p e = stopped e
  named_done Good p e = e

  pub spanned_done : (b : Bounds) (p : Parsed A) → spanned b p ≡ done x u → p ≡ done x u
  unfolding spanned
  spanned_done Outside p e = stopped e
  spanned_done Cuts p e = stopped e
  spanned_done Empty p e = e
  spanned_done Good p e = e

  pub from_done : (n : ℕ) (p : Parsed A) → from n p ≡ done x u → (v : ℕ) × (p ≡ done x v) × (u ≡ n + v)
  unfolding from
  from_done n (done y v) e = let q : y ≡ x = cc in let r : n + v ≡ u = cc in (v, cc, omega arith)
  from_done n (stop f p) e = stopped e

pub then_done : {A B : Type 0} {y : B} {u : ℕ} (p : Parsed A) (k : A → ℕ → Parsed B) → (p then k) ≡ done y u
    → (x : A) × (v : ℕ) × (p ≡ done x v) × (k x v ≡ done y u)
unfolding ◌then◌
then_done (done x v) k e = (x, v, refl, e)
then_done (stop f p) k e = stopped e

pub map_done : {A B : Type 0} {y : B} {u : ℕ} (g : A → B) (p : Parsed A) → map g p ≡ done y u → (x : A) × (p ≡ done x u) × (g x ≡ y)
unfolding map ◌then◌
map_done g (done x v) e = (x, cc, cc)
map_done g (stop f p) e = stopped e

-- what reads from place k on reads the same in `&t[k..]`, which is no longer than t
pub in_part : {A : Type 0} (g : List ℕ → A) (t : List ℕ) (k : ℕ) {x : A} → g (drop k t) ≡ x → g (take (length t - k) (drop k t)) ≡ x
in_part g t k e = ap g (tail_part t k) ∙ e

pub part_short : (t : List ℕ) (k f : ℕ) → length t < f → length (take (length t - k) (drop k t)) < f
part_short t k f h = rw (tail_part t k) (omega (arith, length-drop k t))

-- and shorter, by k bytes that are there
pub part_smaller : (t : List ℕ) (k : ℕ) → 1 ≤ k → k ≤ length t → length (take (length t - k) (drop k t)) < length t
part_smaller t k some fits = rw (tail_part t k) (omega (arith, some, fits, length-drop k t))

-- t' is what is left of t
pub record Rest (t t' : List ℕ) : Type 0 where
  pub passed : ℕ
  pub here : t' ≡ drop passed t
  pub size : passed + length t' ≡ length t

pub rest_all : (t : List ℕ) → Rest t t
rest_all t = record { passed = 0; here = refl; size = omega arith }

pub rest_more : {t t' t'' : List ℕ} (k : ℕ) → Rest t t' → k ≤ length t' → t'' ≡ drop k t' → Rest t t''
rest_more {t} {t'} k r h e = record {
  passed = r.passed + k;
  here = e ∙ ap (λ (l : List ℕ). drop k l) r.here ∙ drop-drop k r.passed t;
  size = omega (arith, r.size, ap length e, length-drop k t');
}
