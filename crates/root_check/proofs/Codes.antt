-- The first byte of a tape, by the command that was read off it: for a reader's answer c that takes bytes at all, its code.
-- Assumes nothing.
use mathlib.Core.Path.{◌≡◌, refl, subst}
use mathlib.Core.Bool.{Bool, true, false, cond}
use mathlib.Core.List.{List, [], ◌∷◌}
use Prim.Native.Nat.{ℕ, ◌≤◌}
use native.Mathlib.Omega.{arith}
use Rattle.std.specs.Prelude.{Option, Some, None, Result, Ok, Err}
use lib.ListN.{length, get_or}
use lib.Dec.{eqb, ltb}
use borrow.Author.Tests.{eqb-true}
use Rattle.text.specs.declared.spans.Span.{Span}
use Rattle.commands.specs.Operands.{operands}
use Rattle.commands.specs.declared.error.CommandError.TheVariants.{Cut}
use Rattle.commands.specs.Root.{name_command, member_command, attribute_command, property_command, value_command, child_command}
use Rattle.commands.specs.Sizes.{name_size, member_size, attribute_size, property_size, value_size, child_size}
use Rattle.commands.specs.declared.error.CommandError.{CommandError}
use Rattle.commands.specs.declared.root.NameCommand.{NameCommand}
use Rattle.commands.specs.declared.root.NameCommand.TheVariants as name
use Rattle.commands.specs.declared.root.AttributeCommand.{AttributeCommand}
use Rattle.commands.specs.declared.root.AttributeCommand.TheVariants as attribute
use Rattle.commands.specs.declared.root.PropertyCommand.{PropertyCommand}
use Rattle.commands.specs.declared.root.PropertyCommand.TheVariants as property
use Rattle.commands.specs.declared.root.ValueCommand.{ValueCommand}
use Rattle.commands.specs.declared.root.ValueCommand.TheVariants as value
use Rattle.commands.specs.declared.root.ChildCommand.{ChildCommand}
use Rattle.commands.specs.declared.root.ChildCommand.TheVariants as child

-- ---- the codes; what is no command has none

abbrev member_code : Result (Option Span) CommandError → ℕ
member_code (Ok (Some s)) = 0x25
member_code (Ok None) = 0
member_code (Err x) = 0

abbrev name_code : Result NameCommand CommandError → ℕ
name_code (Ok (name.Plain s)) = 0x20
name_code (Ok (name.Identifier s)) = 0x21
name_code (Ok name.This) = 0x22
name_code (Ok (name.Namespaced s r)) = 0x23
name_code (Err x) = 0

abbrev property_code : Result PropertyCommand CommandError → ℕ
property_code (Ok (property.Property e)) = 0x34
property_code (Ok (property.Named e s)) = 0x36
property_code (Ok property.End) = 0x35
property_code (Err x) = 0

abbrev attribute_code : Result AttributeCommand CommandError → ℕ
attribute_code (Ok (attribute.Plain s)) = 0x30
attribute_code (Ok (attribute.Namespaced s r)) = 0x31
attribute_code (Ok (attribute.Spread e)) = 0x32
attribute_code (Ok (attribute.Literal e)) = 0x33
attribute_code (Ok attribute.End) = 0x1e
attribute_code (Err x) = 0

abbrev value_code : Result ValueCommand CommandError → ℕ
value_code (Ok value.Absent) = 0x40
value_code (Ok (value.Text s)) = 0x41
value_code (Ok (value.Expression e)) = 0x42
value_code (Ok value.Empty) = 0x43
value_code (Ok (value.Element p)) = 0x10
value_code (Ok (value.Fragment p)) = 0x11
value_code (Err x) = 0

abbrev child_code : Result ChildCommand CommandError → ℕ
child_code (Ok (child.Text s)) = 0x50
child_code (Ok (child.Expression e)) = 0x42
child_code (Ok child.Empty) = 0x43
child_code (Ok (child.Spread e)) = 0x51
child_code (Ok (child.Element p)) = 0x10
child_code (Ok (child.Fragment p)) = 0x11
child_code (Ok child.End) = 0x1f
child_code (Err x) = 0

-- ---- a chain of tests of the byte b

-- b is the code of c, if that is a command
abbrev Coded : {C : Type 0} → (C → ℕ) → (C → ℕ) → ℕ → C → Type 0
Coded size code b c = 1 ≤ size c → b ≡ code c

no : {A : Type 0} → 1 ≤ 0 → A
no h = absurd (omega arith)

test : {C : Type 0} (P : C → Type 0) (b k : ℕ) {x y : C} → (b ≡ k → P x) → P y → P (cond (eqb b k) x y)
test P b k {x} {y} p q = go (eqb b k) refl
  where
    go : (t : Bool) → eqb b k ≡ t → P (cond t x y)
    go true e = p (eqb-true b k e)
    go false e = q

with_operands : {C : Type 0} (P : Result C CommandError → Type 0) (n : ℕ) (t : List ℕ) {whole : Result C CommandError} → P (Err Cut) → P whole → P (operands n t whole)
with_operands P n t {whole} p q = go (ltb (length t) n)
  where
    go : (b : Bool) → P (cond b (Err Cut) whole)
    go true = p
    go false = q

-- ---- the readers

pub member_coded : (t : List ℕ) {c : Result (Option Span) CommandError} → member_command t ≡ c → Coded member_size member_code (get_or t 0 0) c
unfolding member_command
member_coded [] e = subst (Coded member_size member_code 0) e no
member_coded (b ∷ t) e =
    let P : Result (Option Span) CommandError → Type 0 = Coded member_size member_code b in
    subst P e (test P b 0x25 (λ k. with_operands P 4 t no (λ h. k)) no)

pub name_coded : (t : List ℕ) {c : Result NameCommand CommandError} → name_command t ≡ c → Coded name_size name_code (get_or t 0 0) c
unfolding name_command
name_coded [] e = subst (Coded name_size name_code 0) e no
name_coded (b ∷ t) e =
    let P : Result NameCommand CommandError → Type 0 = Coded name_size name_code b in
    subst P e
    (test P b 0x20 (λ k. with_operands P 4 t no (λ h. k))
    (test P b 0x21 (λ k. with_operands P 4 t no (λ h. k))
    (test P b 0x22 (λ k h. k)
    (test P b 0x23 (λ k. with_operands P 8 t no (λ h. k)) no))))

pub property_coded : (t : List ℕ) {c : Result PropertyCommand CommandError} → property_command t ≡ c → Coded property_size property_code (get_or t 0 0) c
unfolding property_command
property_coded [] e = subst (Coded property_size property_code 0) e no
property_coded (b ∷ t) e =
    let P : Result PropertyCommand CommandError → Type 0 = Coded property_size property_code b in
    subst P e
    (test P b 0x34 (λ k. with_operands P 2 t no (λ h. k))
    (test P b 0x36 (λ k. with_operands P 6 t no (λ h. k))
    (test P b 0x35 (λ k h. k) no)))

pub attribute_coded : (t : List ℕ) {c : Result AttributeCommand CommandError} → attribute_command t ≡ c → Coded attribute_size attribute_code (get_or t 0 0) c
unfolding attribute_command
attribute_coded [] e = subst (Coded attribute_size attribute_code 0) e no
attribute_coded (b ∷ t) e =
    let P : Result AttributeCommand CommandError → Type 0 = Coded attribute_size attribute_code b in
    subst P e
    (test P b 0x30 (λ k. with_operands P 4 t no (λ h. k))
    (test P b 0x31 (λ k. with_operands P 8 t no (λ h. k))
    (test P b 0x32 (λ k. with_operands P 2 t no (λ h. k))
    (test P b 0x33 (λ k. with_operands P 2 t no (λ h. k))
    (test P b 0x1e (λ k h. k) no)))))

pub value_coded : (t : List ℕ) {c : Result ValueCommand CommandError} → value_command t ≡ c → Coded value_size value_code (get_or t 0 0) c
unfolding value_command
value_coded [] e = subst (Coded value_size value_code 0) e no
value_coded (b ∷ t) e =
    let P : Result ValueCommand CommandError → Type 0 = Coded value_size value_code b in
    subst P e
    (test P b 0x40 (λ k h. k)
    (test P b 0x41 (λ k. with_operands P 4 t no (λ h. k))
    (test P b 0x42 (λ k. with_operands P 2 t no (λ h. k))
    (test P b 0x43 (λ k h. k)
    (test P b 0x10 (λ k. with_operands P 8 t no (λ h. k))
    (test P b 0x11 (λ k. with_operands P 8 t no (λ h. k)) no))))))

pub child_coded : (t : List ℕ) {c : Result ChildCommand CommandError} → child_command t ≡ c → Coded child_size child_code (get_or t 0 0) c
unfolding child_command
child_coded [] e = subst (Coded child_size child_code 0) e no
child_coded (b ∷ t) e =
    let P : Result ChildCommand CommandError → Type 0 = Coded child_size child_code b in
    subst P e
    (test P b 0x50 (λ k. with_operands P 4 t no (λ h. k))
    (test P b 0x42 (λ k. with_operands P 2 t no (λ h. k))
    (test P b 0x43 (λ k h. k)
    (test P b 0x51 (λ k. with_operands P 2 t no (λ h. k))
    (test P b 0x10 (λ k. with_operands P 8 t no (λ h. k))
    (test P b 0x11 (λ k. with_operands P 8 t no (λ h. k))
    (test P b 0x1f (λ k h. k) no)))))))
