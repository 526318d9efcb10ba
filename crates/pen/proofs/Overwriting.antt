-- Bytes stored over others (`sets` of lib.Seq).
--     sets_over     a run stored over one from the same place that is no longer: as if the first had not been stored
--     sets_silent   a run that leaves every list as it is has no bytes
-- Assumes nothing.
use Rattle.std.proofs.Common.{◌≡◌, ℕ, suc, ◌<◌, ◌≤◌, List, [], ◌∷◌, length, get_or, set, replicate, refl, ap, ◌∙◌, arith, length-set, get_or-set_same, set-set}
use lib.ListN.{length-replicate, get_or-replicate}
use lib.Seq.{sets, set_comm}
use Rattle.tape.proofs.Targets.{sets_out}

-- a store before a run's place can come first
set_sets : (l : List ℕ) (i j : ℕ) (b : ℕ) (u : List ℕ) → i < j → set (sets l j u) i b ≡ sets (set l i b) j u
set_sets l i j b [] h = refl
set_sets l i j b (x ∷ u) h =
    set_sets (set l j x) i (suc j) b u (omega arith)
    ∙ ap (λ (m : List ℕ). sets m (suc j) u) (set_comm l j i x b (λ e. omega arith))

pub sets_over : (l : List ℕ) (i : ℕ) (u v : List ℕ) → length u ≤ length v → sets (sets l i u) i v ≡ sets l i v
sets_over l i [] v h = refl
sets_over l i (a ∷ u) [] h = absurd (omega arith)
sets_over l i (a ∷ u) (b ∷ v) h =
    ap (λ (m : List ℕ). sets m (suc i) v) (set_sets (set l i a) i (suc i) b u (omega arith) ∙ ap (λ (m : List ℕ). sets m (suc i) u) (set-set l i a b))
    ∙ sets_over (set l i b) (suc i) u v (omega arith)

pub sets_silent : (i : ℕ) (v : List ℕ) → ((l : List ℕ) → l ≡ sets l i v) → v ≡ []
sets_silent i [] f = refl
sets_silent i (x ∷ v) f =
    let l : List ℕ = replicate (suc i) (suc x) in
    let size : length l ≡ suc i = length-replicate (suc i) (suc x) in
    let there : get_or l i 0 ≡ suc x = get_or-replicate (suc i) i (suc x) 0 (omega arith) in
    let e : l ≡ set l i x = f l ∙ sets_out (set l i x) (suc i) v (omega (arith, length-set l i x)) in
    let here : get_or l i 0 ≡ x = ap (λ (m : List ℕ). get_or m i 0) e ∙ get_or-set_same l i x 0 (omega arith) in
    absurd (omega arith)
