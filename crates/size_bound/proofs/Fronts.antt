-- The command in front of a tape, in each place where one may stand: the pass goes over as many bytes as the reader takes, and counts a text's length.
-- Assumes nothing.
use mathlib.Core.Path.{◌≡◌, refl}
use mathlib.Core.Bool.{Bool, true, false, cond, ◌&&◌}
use mathlib.Core.List.{List, [], ◌∷◌}
use Prim.Native.Nat.{ℕ, suc, ◌+◌, ◌-◌, ◌*◌, ◌≤◌}
use native.Mathlib.Omega.{arith}
use lib.ListN.{length, drop, get_or}
use lib.Dec.{eqb, ltb}
use borrow.Author.Tests.{eqb-true, ltb-false, eq-eqb, le-ltb}
use Rattle.std.specs.Prelude.{Option, Result, Ok, Err}
use Rattle.text.specs.declared.spans.Span.{Span}
use Rattle.commands.specs.declared.error.CommandError.{CommandError}
use Rattle.commands.specs.declared.error.CommandError.TheVariants.{Cut}
use Rattle.commands.specs.Operands.{operands}
use Rattle.commands.specs.Root.{scope_kind_of, scoped, heritage_command, scope_command, name_command, member_command, attribute_command, property_command, value_command, child_command}
use Rattle.commands.specs.Sizes.{root_commands, size_in, command_size, heritage_size, scope_size, name_size, member_size, attribute_size, property_size, value_size, child_size}
use Rattle.commands.specs.declared.root.Heritage.{Heritage}
use Rattle.commands.specs.declared.root.ScopeKind.{ScopeKind}
use Rattle.commands.specs.declared.root.ScopeCommand.{ScopeCommand}
use Rattle.commands.specs.declared.root.NameCommand.{NameCommand}
use Rattle.commands.specs.declared.root.AttributeCommand.{AttributeCommand}
use Rattle.commands.specs.declared.root.PropertyCommand.{PropertyCommand}
use Rattle.commands.specs.declared.root.ValueCommand.{ValueCommand}
use Rattle.commands.specs.declared.root.ChildCommand.{ChildCommand}
use Rattle.commands.specs.declared.root.ChildCommand.TheVariants as child
use Rattle.tape.specs.Numbers.{u16_at}
use Rattle.size_bound.specs.SizeBound.{text_length, size_bound}
use Rattle.size_bound.proofs.Passing.{bound_front}

-- n bytes in front, with a text of l bytes, and the bound of what is behind them are within the bound of t
abbrev pub Fronted : List ℕ → ℕ → ℕ → Type 0
Fronted t n l = 4 * n + 6 * l + size_bound (drop n t) ≤ size_bound t

-- the length of a text child
abbrev pub child_text : Result ChildCommand CommandError → ℕ
child_text (Ok (child.Text s)) = s.len
child_text (Ok (child.Expression e)) = 0
child_text (Ok child.Empty) = 0
child_text (Ok (child.Spread e)) = 0
child_text (Ok (child.Element p)) = 0
child_text (Ok (child.Fragment p)) = 0
child_text (Ok child.End) = 0
child_text (Err e) = 0

-- ---- a chain of tests of the byte b

nothing : (t : List ℕ) → Fronted t 0 0
nothing t = omega arith

front : (b k n : ℕ) (t : List ℕ) → command_size k - 1 ≡ n → b ≡ k → n ≤ length t → Fronted (b ∷ t) (suc n) 0
front b k n t f e h = omega (arith, bound_front b k n t e f h)

test : {C : Type 0} (P : C → Type 0) (b k : ℕ) {x y : C} → (b ≡ k → P x) → P y → P (cond (eqb b k) x y)
test P b k {x} {y} p q = go (eqb b k) refl
  where
    go : (t : Bool) → eqb b k ≡ t → P (cond t x y)
    go true e = p (eqb-true b k e)
    go false e = q

-- a test that counts only where something has come
test_found : {C : Type 0} (P : C → Type 0) (found : Bool) (b k : ℕ) {x y : C} → (b ≡ k → P x) → P y → P (cond (found && eqb b k) x y)
test_found P true b k p q = test P b k p q
test_found P false b k p q = q

choose : {C : Type 0} (P : C → Type 0) (b : Bool) {x y : C} → P x → P y → P (cond b x y)
choose P true p q = p
choose P false p q = q

with_operands : {C : Type 0} (P : Result C CommandError → Type 0) (n : ℕ) (t : List ℕ) {whole : Result C CommandError} → P (Err Cut) → (n ≤ length t → P whole) → P (operands n t whole)
with_operands P n t {whole} p q = go (ltb (length t) n) refl
  where
    go : (b : Bool) → ltb (length t) n ≡ b → P (cond b (Err Cut) whole)
    go true e = p
    go false e = q (ltb-false (length t) n e)

-- ---- each place

pub heritage_front : (t : List ℕ) → Fronted t (heritage_size (heritage_command t)) 0
unfolding heritage_command command_size size_in root_commands
heritage_front [] = nothing []
heritage_front (b ∷ t) =
    let P : Result Heritage CommandError → Type 0 = λ c. Fronted (b ∷ t) (heritage_size c) 0 in
    let k = get_or t 0 0 in
    test P b 0x01
    (λ e.
    with_operands P 1 t (nothing _)
    (λ h.
    let w = front b 0x01 1 t refl e h in
    choose P (eqb k 0) w (choose P (eqb k 1) w (choose P (eqb k 2) w (nothing _)))))
    (nothing _)

scoped_front : (t : List ℕ) (k : Result ScopeKind CommandError) → Fronted t 2 0 → Fronted t (scope_size (scoped k)) 0
scoped_front t (Ok k) h = h
scoped_front t (Err e) h = nothing t

pub scope_front : (found : Bool) (t : List ℕ) → Fronted t (scope_size (scope_command found t)) 0
unfolding scope_command command_size size_in root_commands
scope_front found [] = nothing []
scope_front found (b ∷ t) =
    let P : Result ScopeCommand CommandError → Type 0 = λ c. Fronted (b ∷ t) (scope_size c) 0 in
    test P b 0x02 (λ e. with_operands P 1 t (nothing _) (λ h. scoped_front (b ∷ t) (scope_kind_of (get_or t 0 0)) (front b 0x02 1 t refl e h)))
    (test_found P found b 0x10 (λ e. with_operands P 8 t (nothing _) (λ h. front b 0x10 8 t refl e h))
    (test_found P found b 0x11 (λ e. with_operands P 8 t (nothing _) (λ h. front b 0x11 8 t refl e h)) (nothing _)))

pub name_front : (t : List ℕ) → Fronted t (name_size (name_command t)) 0
unfolding name_command command_size size_in root_commands
name_front [] = nothing []
name_front (b ∷ t) =
    let P : Result NameCommand CommandError → Type 0 = λ c. Fronted (b ∷ t) (name_size c) 0 in
    test P b 0x20 (λ e. with_operands P 4 t (nothing _) (λ h. front b 0x20 4 t refl e h))
    (test P b 0x21 (λ e. with_operands P 4 t (nothing _) (λ h. front b 0x21 4 t refl e h))
    (test P b 0x22 (λ e. front b 0x22 0 t refl e (omega arith))
    (test P b 0x23 (λ e. with_operands P 8 t (nothing _) (λ h. front b 0x23 8 t refl e h)) (nothing _))))

pub member_front : (t : List ℕ) → Fronted t (member_size (member_command t)) 0
unfolding member_command command_size size_in root_commands
member_front [] = nothing []
member_front (b ∷ t) =
    let P : Result (Option Span) CommandError → Type 0 = λ c. Fronted (b ∷ t) (member_size c) 0 in
    test P b 0x25 (λ e. with_operands P 4 t (nothing _) (λ h. front b 0x25 4 t refl e h)) (nothing _)

pub attribute_front : (t : List ℕ) → Fronted t (attribute_size (attribute_command t)) 0
unfolding attribute_command command_size size_in root_commands
attribute_front [] = nothing []
attribute_front (b ∷ t) =
    let P : Result AttributeCommand CommandError → Type 0 = λ c. Fronted (b ∷ t) (attribute_size c) 0 in
    test P b 0x30 (λ e. with_operands P 4 t (nothing _) (λ h. front b 0x30 4 t refl e h))
    (test P b 0x31 (λ e. with_operands P 8 t (nothing _) (λ h. front b 0x31 8 t refl e h))
    (test P b 0x32 (λ e. with_operands P 2 t (nothing _) (λ h. front b 0x32 2 t refl e h))
    (test P b 0x33 (λ e. with_operands P 2 t (nothing _) (λ h. front b 0x33 2 t refl e h))
    (test P b 0x1e (λ e. front b 0x1e 0 t refl e (omega arith)) (nothing _)))))

pub property_front : (t : List ℕ) → Fronted t (property_size (property_command t)) 0
unfolding property_command command_size size_in root_commands
property_front [] = nothing []
property_front (b ∷ t) =
    let P : Result PropertyCommand CommandError → Type 0 = λ c. Fronted (b ∷ t) (property_size c) 0 in
    test P b 0x34 (λ e. with_operands P 2 t (nothing _) (λ h. front b 0x34 2 t refl e h))
    (test P b 0x36 (λ e. with_operands P 6 t (nothing _) (λ h. front b 0x36 6 t refl e h))
    (test P b 0x35 (λ e. front b 0x35 0 t refl e (omega arith)) (nothing _)))

pub value_front : (t : List ℕ) → Fronted t (value_size (value_command t)) 0
unfolding value_command command_size size_in root_commands
value_front [] = nothing []
value_front (b ∷ t) =
    let P : Result ValueCommand CommandError → Type 0 = λ c. Fronted (b ∷ t) (value_size c) 0 in
    test P b 0x40 (λ e. front b 0x40 0 t refl e (omega arith))
    (test P b 0x41 (λ e. with_operands P 4 t (nothing _) (λ h. front b 0x41 4 t refl e h))
    (test P b 0x42 (λ e. with_operands P 2 t (nothing _) (λ h. front b 0x42 2 t refl e h))
    (test P b 0x43 (λ e. front b 0x43 0 t refl e (omega arith))
    (test P b 0x10 (λ e. with_operands P 8 t (nothing _) (λ h. front b 0x10 8 t refl e h))
    (test P b 0x11 (λ e. with_operands P 8 t (nothing _) (λ h. front b 0x11 8 t refl e h)) (nothing _))))))

-- a text that is whole tells its length
text_length_read : (b : ℕ) (t : List ℕ) → b ≡ 0x50 → 4 ≤ length t → text_length (b ∷ t) ≡ u16_at t 2
unfolding text_length
text_length_read b t e h = rw (eq-eqb b 0x50 e, le-ltb (length t) 4 h) refl

pub child_front : (t : List ℕ) → Fronted t (child_size (child_command t)) (child_text (child_command t))
unfolding child_command command_size size_in root_commands
child_front [] = nothing []
child_front (b ∷ t) =
    let P : Result ChildCommand CommandError → Type 0 = λ c. Fronted (b ∷ t) (child_size c) (child_text c) in
    test P b 0x50 (λ e. with_operands P 4 t (nothing _) (λ h. omega (arith, bound_front b 0x50 4 t e refl h, text_length_read b t e h)))
    (test P b 0x42 (λ e. with_operands P 2 t (nothing _) (λ h. front b 0x42 2 t refl e h))
    (test P b 0x43 (λ e. front b 0x43 0 t refl e (omega arith))
    (test P b 0x51 (λ e. with_operands P 2 t (nothing _) (λ h. front b 0x51 2 t refl e h))
    (test P b 0x10 (λ e. with_operands P 8 t (nothing _) (λ h. front b 0x10 8 t refl e h))
    (test P b 0x11 (λ e. with_operands P 8 t (nothing _) (λ h. front b 0x11 8 t refl e h))
    (test P b 0x1f (λ e. front b 0x1f 0 t refl e (omega arith)) (nothing _)))))))
