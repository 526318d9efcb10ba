-- A command that was read off a tape takes no more bytes than the tape has: for a reader's answer c the law takes what the contract says, the
-- other way round, and gives `…_size c ≤ length t`. By its code alone no command takes more than nine bytes (`size_most`).
-- Assumes nothing.
use mathlib.Core.Path.{◌≡◌, refl, subst}
use mathlib.Core.Bool.{Bool, true, false, cond, ◌&&◌}
use mathlib.Core.List.{List, [], ◌∷◌}
use Prim.Native.Nat.{ℕ, ◌≤◌}
use native.Mathlib.Omega.{arith}
use lib.ListN.{length}
use lib.Dec.{eqb, leb, ltb}
use borrow.Author.Tests.{leb-true, ltb-false}
use Rattle.std.specs.Prelude.{Option, Result, Ok, Err, get_or}
use Rattle.text.specs.declared.spans.Span.{Span}
use Rattle.tape.specs.Numbers.{u16_at}
use Rattle.commands.specs.declared.error.CommandError.{CommandError}
use Rattle.commands.specs.declared.error.CommandError.TheVariants.{Cut}
use Rattle.commands.specs.Operands.{operands}
use Rattle.commands.specs.Opening.{flags_command, option_command}
use Rattle.commands.specs.Root.{scope_kind_of, scoped, heritage_command, scope_command, name_command, member_command, attribute_command, property_command, value_command, child_command}
use Rattle.commands.specs.Sizes.{root_commands, size_in, command_size, flags_size, option_size, heritage_size, scope_size, name_size, member_size}
use Rattle.commands.specs.Sizes.{attribute_size, property_size, value_size, child_size}
use Rattle.commands.specs.declared.opening.OptionCommand.{OptionCommand}
use Rattle.commands.specs.declared.root.Heritage.{Heritage}
use Rattle.commands.specs.declared.root.ScopeKind.{ScopeKind}
use Rattle.commands.specs.declared.root.ScopeCommand.{ScopeCommand}
use Rattle.commands.specs.declared.root.NameCommand.{NameCommand}
use Rattle.commands.specs.declared.root.AttributeCommand.{AttributeCommand}
use Rattle.commands.specs.declared.root.PropertyCommand.{PropertyCommand}
use Rattle.commands.specs.declared.root.ValueCommand.{ValueCommand}
use Rattle.commands.specs.declared.root.ChildCommand.{ChildCommand}

-- a command's size is within a list
abbrev Within : {A : Type 0} → (A → ℕ) → List ℕ → A → Type 0
Within size t c = size c ≤ length t

-- ---- what holds on both ways holds of the choice

choose : {A : Type 0} (P : A → Type 0) (b : Bool) {x y : A} → P x → P y → P (cond b x y)
choose P true p q = p
choose P false p q = q

-- a command with operands: cut off, or whole with n bytes behind it
with_operands : {A : Type 0} (P : Result A CommandError → Type 0) (n : ℕ) (t : List ℕ) {whole : Result A CommandError} → P (Err Cut) → (n ≤ length t → P whole) → P (operands n t whole)
with_operands P n t {whole} p q = go (ltb (length t) n) refl
  where
    go : (b : Bool) → ltb (length t) n ≡ b → P (cond b (Err Cut) whole)
    go true e = p
    go false e = q (ltb-false (length t) n e)

-- ---- the opening tape

pub flags_fits : (t : List ℕ) {c : Result ℕ CommandError} → flags_command t ≡ c → flags_size c ≤ length t
unfolding flags_command
flags_fits [] e = subst (Within flags_size []) e (omega arith)
flags_fits (b ∷ t) e =
    let P : Result ℕ CommandError → Type 0 = Within flags_size (b ∷ t) in
    subst P e
    (choose P (eqb b 0x61) (with_operands P 2 t (omega arith) (λ h. choose P (ltb (u16_at t 0) 256) (omega arith) (omega arith))) (omega arith))

pub option_fits : (last : ℕ) (t : List ℕ) {c : Result (Option OptionCommand) CommandError} → option_command last t ≡ c → option_size c ≤ length t
unfolding option_command
option_fits last [] e = subst (Within option_size []) e (omega arith)
option_fits last (b ∷ t) e =
    let P : Result (Option OptionCommand) CommandError → Type 0 = Within option_size (b ∷ t) in
    subst P e
    (choose P (eqb b 0x60) (with_operands P 4 t (omega arith) (λ h. omega arith))
    (choose P (ltb last b && eqb b 0x62) (with_operands P 4 t (omega arith) (λ h. omega arith))
    (choose P (ltb last b && eqb b 0x63) (with_operands P 4 t (omega arith) (λ h. omega arith))
    (choose P (ltb last b && eqb b 0x64) (with_operands P 4 t (omega arith) (λ h. omega arith)) (omega arith)))))

-- ---- the root tape

pub heritage_fits : (t : List ℕ) {c : Result Heritage CommandError} → heritage_command t ≡ c → heritage_size c ≤ length t
unfolding heritage_command
heritage_fits [] e = subst (Within heritage_size []) e (omega arith)
heritage_fits (b ∷ t) e =
    let P : Result Heritage CommandError → Type 0 = Within heritage_size (b ∷ t) in
    let k = get_or t 0 0 in
    subst P e
    (choose P (eqb b 0x01)
    (with_operands P 1 t (omega arith)
    (λ h. choose P (eqb k 0) (omega arith) (choose P (eqb k 1) (omega arith) (choose P (eqb k 2) (omega arith) (omega arith)))))
    (omega arith))

scoped_fits : (t : List ℕ) (k : Result ScopeKind CommandError) → 2 ≤ length t → scope_size (scoped k) ≤ length t
scoped_fits t (Ok k) h = h
scoped_fits t (Err e) h = omega arith

pub scope_fits : (found : Bool) (t : List ℕ) {c : Result ScopeCommand CommandError} → scope_command found t ≡ c → scope_size c ≤ length t
unfolding scope_command
scope_fits found [] e = subst (Within scope_size []) e (omega arith)
scope_fits found (b ∷ t) e =
    let P : Result ScopeCommand CommandError → Type 0 = Within scope_size (b ∷ t) in
    subst P e
    (choose P (eqb b 0x02) (with_operands P 1 t (omega arith) (λ h. scoped_fits (b ∷ t) (scope_kind_of (get_or t 0 0)) (omega arith)))
    (choose P (found && eqb b 0x10) (with_operands P 8 t (omega arith) (λ h. omega arith))
    (choose P (found && eqb b 0x11) (with_operands P 8 t (omega arith) (λ h. omega arith)) (omega arith))))

pub name_fits : (t : List ℕ) {c : Result NameCommand CommandError} → name_command t ≡ c → name_size c ≤ length t
unfolding name_command
name_fits [] e = subst (Within name_size []) e (omega arith)
name_fits (b ∷ t) e =
    let P : Result NameCommand CommandError → Type 0 = Within name_size (b ∷ t) in
    subst P e
    (choose P (eqb b 0x20) (with_operands P 4 t (omega arith) (λ h. omega arith))
    (choose P (eqb b 0x21) (with_operands P 4 t (omega arith) (λ h. omega arith))
    (choose P (eqb b 0x22) (omega arith)
    (choose P (eqb b 0x23) (with_operands P 8 t (omega arith) (λ h. omega arith)) (omega arith)))))

pub member_fits : (t : List ℕ) {c : Result (Option Span) CommandError} → member_command t ≡ c → member_size c ≤ length t
unfolding member_command
member_fits [] e = subst (Within member_size []) e (omega arith)
member_fits (b ∷ t) e =
    let P : Result (Option Span) CommandError → Type 0 = Within member_size (b ∷ t) in
    subst P e
    (choose P (eqb b 0x25) (with_operands P 4 t (omega arith) (λ h. omega arith)) (omega arith))

pub attribute_fits : (t : List ℕ) {c : Result AttributeCommand CommandError} → attribute_command t ≡ c → attribute_size c ≤ length t
unfolding attribute_command
attribute_fits [] e = subst (Within attribute_size []) e (omega arith)
attribute_fits (b ∷ t) e =
    let P : Result AttributeCommand CommandError → Type 0 = Within attribute_size (b ∷ t) in
    subst P e
    (choose P (eqb b 0x30) (with_operands P 4 t (omega arith) (λ h. omega arith))
    (choose P (eqb b 0x31) (with_operands P 8 t (omega arith) (λ h. omega arith))
    (choose P (eqb b 0x32) (with_operands P 2 t (omega arith) (λ h. omega arith))
    (choose P (eqb b 0x33) (with_operands P 2 t (omega arith) (λ h. omega arith))
    (choose P (eqb b 0x1e) (omega arith) (omega arith))))))

pub property_fits : (t : List ℕ) {c : Result PropertyCommand CommandError} → property_command t ≡ c → property_size c ≤ length t
unfolding property_command
property_fits [] e = subst (Within property_size []) e (omega arith)
property_fits (b ∷ t) e =
    let P : Result PropertyCommand CommandError → Type 0 = Within property_size (b ∷ t) in
    subst P e
    (choose P (eqb b 0x34) (with_operands P 2 t (omega arith) (λ h. omega arith))
    (choose P (eqb b 0x36) (with_operands P 6 t (omega arith) (λ h. omega arith))
    (choose P (eqb b 0x35) (omega arith) (omega arith))))

pub value_fits : (t : List ℕ) {c : Result ValueCommand CommandError} → value_command t ≡ c → value_size c ≤ length t
unfolding value_command
value_fits [] e = subst (Within value_size []) e (omega arith)
value_fits (b ∷ t) e =
    let P : Result ValueCommand CommandError → Type 0 = Within value_size (b ∷ t) in
    subst P e
    (choose P (eqb b 0x40) (omega arith)
    (choose P (eqb b 0x41) (with_operands P 4 t (omega arith) (λ h. omega arith))
    (choose P (eqb b 0x42) (with_operands P 2 t (omega arith) (λ h. omega arith))
    (choose P (eqb b 0x43) (omega arith)
    (choose P (eqb b 0x10) (with_operands P 8 t (omega arith) (λ h. omega arith))
    (choose P (eqb b 0x11) (with_operands P 8 t (omega arith) (λ h. omega arith)) (omega arith)))))))

pub child_fits : (t : List ℕ) {c : Result ChildCommand CommandError} → child_command t ≡ c → child_size c ≤ length t
unfolding child_command
child_fits [] e = subst (Within child_size []) e (omega arith)
child_fits (b ∷ t) e =
    let P : Result ChildCommand CommandError → Type 0 = Within child_size (b ∷ t) in
    subst P e
    (choose P (eqb b 0x50) (with_operands P 4 t (omega arith) (λ h. omega arith))
    (choose P (eqb b 0x42) (with_operands P 2 t (omega arith) (λ h. omega arith))
    (choose P (eqb b 0x43) (omega arith)
    (choose P (eqb b 0x51) (with_operands P 2 t (omega arith) (λ h. omega arith))
    (choose P (eqb b 0x10) (with_operands P 8 t (omega arith) (λ h. omega arith))
    (choose P (eqb b 0x11) (with_operands P 8 t (omega arith) (λ h. omega arith))
    (choose P (eqb b 0x1f) (omega arith) (omega arith))))))))

-- ---- by the code alone

-- no size in the list is over m
unfoldable up_to : ℕ → List (ℕ × ℕ) → Bool
up_to m [] = true
up_to m (c ∷ cs) = leb c.1 m && up_to m cs

size_within : (m code : ℕ) (cs : List (ℕ × ℕ)) → up_to m cs ≡ true → size_in cs code ≤ m
unfolding up_to size_in
size_within m code [] e = omega arith
size_within m code (c ∷ cs) e = go (leb c.1 m) refl e (size_within m code cs)
  where
    go : (b : Bool) → leb c.1 m ≡ b → (b && up_to m cs) ≡ true → (up_to m cs ≡ true → size_in cs code ≤ m) → cond (eqb code c.0) c.1 (size_in cs code) ≤ m
    go true f g ih = choose (λ (n : ℕ). n ≤ m) (eqb code c.0) (leb-true c.1 m f) (ih g)
    go false f g ih = let z : ◌≡◌ {A = ℕ} 0 1 = cc in absurd (omega arith)

pub size_most : (code : ℕ) → command_size code ≤ 9
unfolding command_size root_commands up_to
size_most code = size_within 9 code root_commands refl
