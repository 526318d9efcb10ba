-- A loop over a list on the tape: what is written so far, and what is left. One law for each way that a turn goes.
-- Assumes nothing.
use Rattle.std.specs.Prelude.{Result, Ok}
use mathlib.Core.Path.{◌≡◌, refl, sym, ap, subst, ◌∙◌}
use mathlib.Core.Bool.{Bool, true, false, ◌||◌}
use mathlib.Core.List.{List, [], ◌++◌, append-nil, append_assoc}
use Prim.Native.Nat.{ℕ, suc, ◌+◌, ◌≤◌, ◌<◌}
use native.Mathlib.Omega.{arith}
use lib.ListN.{length, drop, length-drop}
use lib.Seq.{drop-drop}
use Rattle.definitions.specs.Judging.{Parsed, done}
use Rattle.definitions.specs.Lowering.{Output}
use Rattle.pen.specs.declared.pen.Pen.{Pen}
use Rattle.pen.specs.Emitting.{Short, Produced}
use Rattle.jsx.specs.Parts.{Step}
use Rattle.pen.proofs.Emitting.{produced_none, produced_then, produced_as}

pub record Left {A : Type 0} (read : ℕ → List ℕ → Parsed A) (out : A → List Output) (K : A → Type 0) (t : List ℕ) (x : A) (u : ℕ)
    (p₀ p : Pen) (i : ℕ) : Type 0 where
  pub fuel : ℕ
  pub rest : A
  pub size : ℕ
  pub enough : length t < i + fuel
  pub reads : read fuel (drop i t) ≡ done rest size
  pub used : u ≡ i + size
  pub sofar : List Output
  pub outs : out x ≡ sofar ++ out rest
  pub wrote : Produced sofar p₀ p
  pub also : K rest

module _ {A : Type 0} (read : ℕ → List ℕ → Parsed A) (out : A → List Output) (t : List ℕ) where
  pub left_start : {K : A → Type 0} (f : ℕ) (x : A) (u : ℕ) {p : Pen} → Short p → length t < f → read f t ≡ done x u → K x
      → Left read out K t x u p p 0
  left_start f x u short h e k =
      record { fuel = f; rest = x; size = u; enough = omega arith; reads = e; used = omega arith; sofar = []; outs = refl; wrote = produced_none short; also = k }

  module _ {Goes : List ℕ → ℕ → A → A → Type 0} {x : A} {u : ℕ} {p₀ p p₁ : Pen} {i n : ℕ} (q : List ℕ) (here : q ≡ drop i t)
      (step : (f : ℕ) (y : A) (v : ℕ) → length q < f → read f q ≡ done y v → Step read out Goes q p p₁ n f y v)
      (within : i ≤ length t) where
    pub left_goes : {K K' : A → Type 0} → Left read out K t x u p₀ p i → 1 ≤ n
        → ((f : ℕ) (y z : A) → length t < i + suc f → Goes (drop i t) f y z → K y → K' z)
        → Left read out K' t x u p₀ p₁ (i + n)
    left_goes R pos keep =
        let S : Step read out Goes (drop i t) p p₁ n R.fuel R.rest R.size =
        subst (λ (l : List ℕ). Step read out Goes l p p₁ n R.fuel R.rest R.size) here
        (step R.fuel R.rest R.size (omega (arith, R.enough, ap length here, length-drop i t)) (ap (λ (l : List ℕ). read R.fuel l) here ∙ R.reads)) in
        record {
          fuel = S.fuel;
          rest = S.rest;
          size = S.size;
          enough = omega (arith, R.enough, S.turns);
          reads = ap (λ (l : List ℕ). read S.fuel l) (sym (drop-drop n i t)) ∙ S.reads;
          used = omega (arith, R.used, S.used);
          sofar = R.sofar ++ S.output;
          outs = R.outs ∙ ap (λ (l : List Output). R.sofar ++ l) S.outs ∙ sym (append_assoc R.sofar S.output (out S.rest));
          wrote = produced_then R.wrote S.wrote;
          also = keep S.fuel R.rest S.rest (omega (arith, R.enough, S.turns)) S.goes R.also;
        }

  -- nothing is left
  pub left_ends : {K : A → Type 0} {x : A} {u : ℕ} {p₀ p : Pen} {i : ℕ} (R : Left read out K t x u p₀ p i) → out R.rest ≡ []
      → Produced (out x) p₀ p
  left_ends R e = produced_as (sym (R.outs ∙ ap (λ (l : List Output). R.sofar ++ l) e ∙ append-nil R.sofar)) R.wrote

-- ---- flags put together on the way

pub or_assoc : (x y z : Bool) → (x || (y || z)) ≡ ((x || y) || z)
or_assoc true y z = refl
or_assoc false y z = refl

pub or_false : (x : Bool) → (x || false) ≡ x
or_false true = refl
or_false false = refl

pub clash : {A : Type 0} → false ≡ true → A
clash e = let z : ◌≡◌ {A = ℕ} 0 1 = cc in absurd (omega arith)

-- what a match tells in an arm: the command that was read there
pub arm : {A E : Type 0} {r r' : Result A E} {x y : A} → r ≡ r' → r ≡ Ok x → x ≡ y → r' ≡ Ok y
arm e h i = sym e ∙ h ∙ ap Ok i
