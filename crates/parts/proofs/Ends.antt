-- A tape that begins with the code of an end.
--     some_there                     one byte is there at the least
--     attributes_over, children_over the command there is the end
--     over_attributes, over_children where it is, that is told by the first byte
-- Assumes nothing.
use Rattle.std.specs.Prelude.{Result, Ok, Err, cond, ltb, Bool}
use mathlib.Core.Path.{◌≡◌, refl, ap}
use mathlib.Core.Bool.{true, false}
use mathlib.Core.List.{List, [], ◌∷◌}
use Prim.Native.Nat.{ℕ, ◌≤◌}
use native.Mathlib.Omega.{arith}
use lib.ListN.{length}
use lib.Dec.{eqb}
use borrow.Author.Tests.{eqb-true}
use Rattle.commands.specs.declared.error.CommandError.{CommandError}
use Rattle.commands.specs.declared.error.CommandError.TheVariants.{Cut}
use Rattle.commands.specs.Operands.{operands}
use Rattle.commands.specs.Root.{attribute_command, child_command}
use Rattle.commands.specs.declared.root.AttributeCommand.TheVariants as attributes
use Rattle.commands.specs.declared.root.ChildCommand.TheVariants as children
use Rattle.parts.specs.Promises.{starts_with}

-- one byte is there at the least
pub some_there : (code : ℕ) (t : List ℕ) → starts_with code t ≡ true → 1 ≤ length t
unfolding starts_with
some_there code [] h = cc
some_there code (b ∷ t) h = omega arith

pub attributes_over : (t : List ℕ) → starts_with 0x1e t ≡ true → attribute_command t ≡ Ok attributes.End
unfolding starts_with attribute_command
attributes_over [] h = cc
attributes_over (b ∷ t) h = ap (λ (n : ℕ). attribute_command (n ∷ t)) (eqb-true b 0x1e h)

pub children_over : (t : List ℕ) → starts_with 0x1f t ≡ true → child_command t ≡ Ok children.End
unfolding starts_with child_command
children_over [] h = cc
children_over (b ∷ t) h = ap (λ (n : ℕ). child_command (n ∷ t)) (eqb-true b 0x1f h)

-- ---- the other way: no other command is an end

unequal : {A : Type 0} {x : A} {e : CommandError} → Err e ≡ Ok x → ⊥
unequal q = cc

pass : {A : Type 0} (b : Bool) {x y z : Result A CommandError} → (x ≡ y → ⊥) → cond b x z ≡ y → z ≡ y
pass true not_so e = absurd (not_so e)
pass false not_so e = e

-- a command with operands is another one, whole or cut off
other : {A : Type 0} (n : ℕ) (t : List ℕ) {x y : A} → (x ≡ y → ⊥) → operands n t (Ok x) ≡ Ok y → ⊥
other n t {x} {y} not_so e = go (ltb (length t) n) e
  where
    go : (b : Bool) → cond b (Err Cut) (Ok x) ≡ Ok y → ⊥
    go true e = unequal e
    go false e = not_so cc

tested : {A : Type 0} (b : Bool) (x : A) (z : CommandError) → cond b (Ok x) (Err z) ≡ Ok x → b ≡ true
tested true x z e = refl
tested false x z e = absurd (unequal e)

pub over_attributes : (t : List ℕ) → attribute_command t ≡ Ok attributes.End → starts_with 0x1e t ≡ true
unfolding starts_with attribute_command
over_attributes [] e = absurd (unequal e)
over_attributes (b ∷ t) e =
    let plain = pass (eqb b 0x30) (other 4 t (λ q. cc)) e in
    let namespaced = pass (eqb b 0x31) (other 8 t (λ q. cc)) plain in
    let spread = pass (eqb b 0x32) (other 2 t (λ q. cc)) namespaced in
    let literal = pass (eqb b 0x33) (other 2 t (λ q. cc)) spread in
    tested (eqb b 0x1e) _ _ literal

pub over_children : (t : List ℕ) → child_command t ≡ Ok children.End → starts_with 0x1f t ≡ true
unfolding starts_with child_command
over_children [] e = absurd (unequal e)
over_children (b ∷ t) e =
    let text = pass (eqb b 0x50) (other 4 t (λ q. cc)) e in
    let expression = pass (eqb b 0x42) (other 2 t (λ q. cc)) text in
    let empty = pass (eqb b 0x43) (λ q. cc) expression in
    let spread = pass (eqb b 0x51) (other 2 t (λ q. cc)) empty in
    let element = pass (eqb b 0x10) (other 8 t (λ q. cc)) spread in
    let fragment = pass (eqb b 0x11) (other 8 t (λ q. cc)) element in
    tested (eqb b 0x1f) _ _ fragment

-- ---- nothing at all

pub no_attribute : (t : List ℕ) → length t ≡ 0 → attribute_command t ≡ Err Cut
unfolding attribute_command
no_attribute [] h = refl
no_attribute (b ∷ t) h = absurd (omega (arith, h))

pub no_child : (t : List ℕ) → length t ≡ 0 → child_command t ≡ Err Cut
unfolding child_command
no_child [] h = refl
no_child (b ∷ t) h = absurd (omega (arith, h))
