-- No job binds more than eight things, so a state that is not forged is never refused for its bindings.
--     few           things that can be bound, none of them twice, are at most eight
--     bound_few     what is bound after a root over a sound state
-- Assumes nothing.
use mathlib.Core.Path.{◌≡◌, refl, sym, ap, subst, ◌∙◌}
use mathlib.Core.Bool.{Bool, true, false, cond, ◌||◌}
use mathlib.Core.List.{List, [], ◌∷◌}
use Prim.Native.Nat.{ℕ, zero, suc, ◌+◌, ◌≤◌}
use native.Mathlib.Omega.{arith}
use lib.ListN.{length}
use lib.Dec.{eqb}
use borrow.Author.Tests.{eqb-true, ltb-true}
use Rattle.definitions.specs.declared.options.Mode.{Mode}
use Rattle.definitions.specs.declared.options.Mode.TheVariants.{Module, Script, Classic}
use Rattle.definitions.specs.declared.options.Settings.{Settings}
use Rattle.definitions.specs.declared.records.Import.{Import}
use Rattle.definitions.specs.declared.records.Import.TheVariants.{Named, Default, FileName}
use Rattle.definitions.specs.declared.state.State.{State}
use Rattle.definitions.specs.Tree.{Root}
use Rattle.definitions.specs.Store.{same_import, create_element, fragment_name, jsx, jsxs, jsx_dev, source_of, can_name, can_import, can_require, can_bind}
use Rattle.definitions.specs.States.{live, imports, unrepeated, all_bindable, sound}
use Rattle.definitions.specs.Lowering.{lower_root, commands_of}
use Rattle.definitions.specs.Entries.{lowered_after}
use Rattle.definitions.specs.Claim.{count}
use Rattle.definitions.proofs.Counting.{never, both}
use Rattle.definitions.proofs.Numbering.{imports_of, same_self, bound_after_commands, bound_all}
use Rattle.definitions.proofs.Soundness.{once, unrepeated_all, bindable_all}
use Rattle.definitions.proofs.Bindable.{root_fits}
use Rattle.definitions.proofs.Verdicts.{sound_parts}

-- how many of a list are a thing
unfoldable of : Import → List Import → ℕ
of j is = count (λ i. same_import i j) is

-- how many are one of the eight that any job can bind
unfoldable total : List Import → ℕ
total is =
    of (Named 1 0) is + of (Named 0 1) is + of (Named 1 2) is + of (Named 1 3) is + of (Named 1 4) is + of (Default 0) is + of (Default 1) is + of FileName is

kept : (i j : Import) (is : List Import) → of j is ≤ of j (i ∷ is)
unfolding of count
kept i j is = go (same_import i j)
  where
    go : (b : Bool) → count (λ k. same_import k j) is ≤ cond b (suc (count (λ k. same_import k j) is)) (count (λ k. same_import k j) is)
    go true = omega arith
    go false = omega arith

hit : (j : Import) (is : List Import) → of j (j ∷ is) ≡ suc (of j is)
unfolding of count
hit j is = rw (same_self j)

-- no count falls
raised : (i : Import) (is : List Import) {A : Type 0}
    → (of (Named 1 0) is ≤ of (Named 1 0) (i ∷ is) → of (Named 0 1) is ≤ of (Named 0 1) (i ∷ is) → of (Named 1 2) is ≤ of (Named 1 2) (i ∷ is)
    → of (Named 1 3) is ≤ of (Named 1 3) (i ∷ is) → of (Named 1 4) is ≤ of (Named 1 4) (i ∷ is) → of (Default 0) is ≤ of (Default 0) (i ∷ is)
    → of (Default 1) is ≤ of (Default 1) (i ∷ is) → of FileName is ≤ of FileName (i ∷ is) → A) → A
raised i is k =
    k (kept i (Named 1 0) is) (kept i (Named 0 1) is) (kept i (Named 1 2) is) (kept i (Named 1 3) is) (kept i (Named 1 4) is) (kept i (Default 0) is)
    (kept i (Default 1) is) (kept i FileName is)

-- one of the eight makes the total one more
data Eight : Import → Type 0 where
  fragment_one : Eight (Named 1 0)
  create_one : Eight (Named 0 1)
  jsx_one : Eight (Named 1 2)
  jsxs_one : Eight (Named 1 3)
  dev_one : Eight (Named 1 4)
  import_one : Eight (Default 0)
  runtime_one : Eight (Default 1)
  file_one : Eight FileName

one_more : {i : Import} (is : List Import) → Eight i → suc (total is) ≤ total (i ∷ is)
unfolding total
one_more is fragment_one = raised (Named 1 0) is (λ a b c d e f g h. omega (arith, hit (Named 1 0) is))
one_more is create_one = raised (Named 0 1) is (λ a b c d e f g h. omega (arith, hit (Named 0 1) is))
one_more is jsx_one = raised (Named 1 2) is (λ a b c d e f g h. omega (arith, hit (Named 1 2) is))
one_more is jsxs_one = raised (Named 1 3) is (λ a b c d e f g h. omega (arith, hit (Named 1 3) is))
one_more is dev_one = raised (Named 1 4) is (λ a b c d e f g h. omega (arith, hit (Named 1 4) is))
one_more is import_one = raised (Default 0) is (λ a b c d e f g h. omega (arith, hit (Default 0) is))
one_more is runtime_one = raised (Default 1) is (λ a b c d e f g h. omega (arith, hit (Default 1) is))
one_more is file_one = raised FileName is (λ a b c d e f g h. omega (arith, hit FileName is))

-- ---- what can be bound is one of them

named_one : (t n k : ℕ) → eqb n k ≡ true → eqb t (source_of n) ≡ true → Eight (Named (source_of k) k) → Eight (Named t n)
named_one t n k e f o =
    let p : n ≡ k = eqb-true n k e in
    let q : t ≡ source_of k = eqb-true t (source_of n) f ∙ ap source_of p in
    subst (λ (x : ℕ). Eight (Named t x)) (sym p) (subst (λ (x : ℕ). Eight (Named x k)) (sym q) o)

either : (a b : Bool) {A : Type 0} → (a || b) ≡ true → (a ≡ true → A) → (b ≡ true → A) → A
either true b e h k = h refl
either false b e h k = k e

name_one : (dev : Bool) (t n : ℕ) → can_name dev n ≡ true → eqb t (source_of n) ≡ true → Eight (Named t n)
name_one dev t n e f =
    either (eqb n create_element || eqb n fragment_name) (cond dev (eqb n jsx_dev) (eqb n jsx || eqb n jsxs)) e
    (λ y. either (eqb n create_element) (eqb n fragment_name) y (λ x. named_one t n create_element x f create_one) (λ x. named_one t n fragment_name x f fragment_one))
    (last dev)
  where
    last : (d : Bool) → cond d (eqb n jsx_dev) (eqb n jsx || eqb n jsxs) ≡ true → Eight (Named t n)
    last true z = named_one t n jsx_dev z f dev_one
    last false z = either (eqb n jsx) _ z (λ x. named_one t n jsx x f jsx_one) (λ x. named_one t n jsxs x f jsxs_one)

import_is_one : (m : Mode) (dev : Bool) (t n : ℕ) → can_import m dev t n ≡ true → Eight (Named t n)
unfolding can_import
import_is_one Module dev t n e = let d = both (can_name dev n) (eqb t (source_of n)) e in name_one dev t n d.0 d.1
import_is_one Script dev t n e = never e
import_is_one Classic dev t n e = never e

require_is_one : (m : Mode) (t : ℕ) → can_require m t ≡ true → Eight (Default t)
unfolding can_require
require_is_one Module t e = never e
require_is_one Script zero e = import_one
require_is_one Script (suc zero) e = runtime_one
require_is_one Script (suc (suc t)) e = absurd (omega (arith, ltb-true (suc (suc t)) 2 e))
require_is_one Classic t e = never e

one_of : (s : Settings) (i : Import) → can_bind s i ≡ true → Eight i
unfolding can_bind
one_of s (Named t n) e = import_is_one s.mode s.options.flags.development t n e
one_of s (Default t) e = require_is_one s.mode t e
one_of s FileName e = file_one

all_total : (s : Settings) (is : List Import) → all_bindable s is ≡ true → length is ≤ total is
unfolding all_bindable
all_total s [] e = omega arith
all_total s (i ∷ is) e =
    let d = both (can_bind s i) (all_bindable s is) e in
    omega (arith, one_more is (one_of s i d.0), all_total s is d.1)

pub few : (s : Settings) (is : List Import) → all_bindable s is ≡ true → unrepeated [] is ≡ true → length is ≤ 8
unfolding total of
few s is e u =
    omega (
      arith,
      all_total s is e,
      once [] is (Named 1 0) u,
      once [] is (Named 0 1) u,
      once [] is (Named 1 2) u,
      once [] is (Named 1 3) u,
      once [] is (Named 1 4) u,
      once [] is (Default 0) u,
      once [] is (Default 1) u,
      once [] is FileName u,
    )

pub bound_few : (text : List ℕ) (s : State) (r : Root) → sound text s ≡ true
    → length (lowered_after text s.settings (imports (live s)) r).bound ≤ 8
unfolding lowered_after
bound_few text s r h =
    let p = sound_parts text s h in
    let js = imports (live s) in
    let is = imports_of (commands_of (lower_root text s.settings r)) in
    rw (bound_after_commands js (commands_of (lower_root text s.settings r)))
    (few s.settings (bound_all js is) (bindable_all s.settings js is p.made (root_fits text s.settings r)) (unrepeated_all js is p.apart))
