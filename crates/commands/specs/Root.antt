-- docs/TAPES.md, "Root tape": its commands, each set of them by the place where it may stand. Which command stands at the front of
-- a part of the tape. Of a command that may not stand there `Wrong` is told first, then `Cut` (its operands are cut off, or the tape ends),
-- then `Bad` (an operand is not allowed).
use Rattle.std.specs.Prelude.{ℕ, ◌+◌, Bool, true, false, cond, ◌&&◌, List, [], ◌∷◌, get_or, eqb, Option, None, Some, Result, Ok, Err}
use Rattle.text.specs.declared.spans.Span.{Span}
use Rattle.commands.specs.declared.error.CommandError.{CommandError}
use Rattle.commands.specs.declared.error.CommandError.TheVariants.{Wrong, Cut, Bad}
use Rattle.commands.specs.declared.root.Place.{Place}
use Rattle.commands.specs.declared.root.Heritage.{Heritage}
use Rattle.commands.specs.declared.root.Heritage.TheVariants as heritage
use Rattle.commands.specs.declared.root.ScopeKind.{ScopeKind}
use Rattle.commands.specs.declared.root.ScopeKind.TheVariants as kind
use Rattle.commands.specs.declared.root.ScopeCommand.{ScopeCommand}
use Rattle.commands.specs.declared.root.ScopeCommand.TheVariants as scope
use Rattle.commands.specs.declared.root.NameCommand.{NameCommand}
use Rattle.commands.specs.declared.root.NameCommand.TheVariants as name
use Rattle.commands.specs.declared.root.AttributeCommand.{AttributeCommand}
use Rattle.commands.specs.declared.root.AttributeCommand.TheVariants as attribute
use Rattle.commands.specs.declared.root.PropertyCommand.{PropertyCommand}
use Rattle.commands.specs.declared.root.PropertyCommand.TheVariants as property
use Rattle.commands.specs.declared.root.ValueCommand.{ValueCommand}
use Rattle.commands.specs.declared.root.ValueCommand.TheVariants as value
use Rattle.commands.specs.declared.root.ChildCommand.{ChildCommand}
use Rattle.commands.specs.declared.root.ChildCommand.TheVariants as child
use Rattle.tape.specs.Numbers.{u16_at, u32_at, span_at}
use Rattle.commands.specs.Operands.{operands}

-- "line u32, column u32"
abbrev pub place_at : List ℕ → ℕ → Place
place_at t i = record { line = u32_at t i; column = u32_at t (i + 4) }

-- a heritage: "nearest class body: 0 none, 1 no superclass, 2 superclass"
abbrev pub heritage_of : ℕ → Result Heritage CommandError
heritage_of b =
    cond (eqb b 0) (Ok heritage.NoClass)
    (cond (eqb b 1) (Ok heritage.Base)
    (cond (eqb b 2) (Ok heritage.Derived) (Err Bad)))

abbrev pub heritage_with : List ℕ → Result Heritage CommandError
heritage_with t = operands 1 t (heritage_of (get_or t 0 0))

-- "01 heritage u8"
unfoldable pub heritage_command : List ℕ → Result Heritage CommandError
heritage_command [] = Err Cut
heritage_command (b ∷ t) = cond (eqb b 0x01) (heritage_with t) (Err Wrong)

-- a scope's kind: "0 block, 1 arrow, 2 constructor, 3 other"
abbrev pub scope_kind_of : ℕ → Result ScopeKind CommandError
scope_kind_of b =
    cond (eqb b 0) (Ok kind.Block)
    (cond (eqb b 1) (Ok kind.Arrow)
    (cond (eqb b 2) (Ok kind.Constructor)
    (cond (eqb b 3) (Ok kind.Function) (Err Bad))))

-- a scope of kind 2 or 3
abbrev pub is_function : ScopeKind → Bool
is_function kind.Block = false
is_function kind.Arrow = false
is_function kind.Constructor = true
is_function kind.Function = true

abbrev pub scoped : Result ScopeKind CommandError → Result ScopeCommand CommandError
scoped (Ok k) = Ok (scope.Scope k)
scoped (Err e) = Err e

abbrev pub scope_with : List ℕ → Result ScopeCommand CommandError
scope_with t = operands 1 t (scoped (scope_kind_of (get_or t 0 0)))

-- "02 kind u8 once per scope, innermost first, at least one of kind 2 or 3; then one element or fragment": `found` says that one of kind 2 or 3
-- has come
unfoldable pub scope_command : Bool → List ℕ → Result ScopeCommand CommandError
scope_command found [] = Err Cut
scope_command found (b ∷ t) =
    cond (eqb b 0x02) (scope_with t)
    (cond (found && eqb b 0x10) (operands 8 t (Ok (scope.Element (place_at t 0))))
    (cond (found && eqb b 0x11) (operands 8 t (Ok (scope.Fragment (place_at t 0))))
    (Err Wrong)))

-- "Names: 20 S string; 21 S identifier or 22 `this`, each with any number of 25 S properties; 23 S S namespaced."
unfoldable pub name_command : List ℕ → Result NameCommand CommandError
name_command [] = Err Cut
name_command (b ∷ t) =
    cond (eqb b 0x20) (operands 4 t (Ok (name.Plain (span_at t 0))))
    (cond (eqb b 0x21) (operands 4 t (Ok (name.Identifier (span_at t 0))))
    (cond (eqb b 0x22) (Ok name.This)
    (cond (eqb b 0x23) (operands 8 t (Ok (name.Namespaced (span_at t 0) (span_at t 4))))
    (Err Wrong))))

-- one of an identifier's or `this`'s properties; what is none ends the name
unfoldable pub member_command : List ℕ → Result (Option Span) CommandError
member_command [] = Ok None
member_command (b ∷ t) = cond (eqb b 0x25) (operands 4 t (Ok (Some (span_at t 0)))) (Ok None)

-- "Attributes: 30 S or 31 S S (namespaced) and a value; 32 E spread; 33 E spread of an object literal E"; 1E ends them
unfoldable pub attribute_command : List ℕ → Result AttributeCommand CommandError
attribute_command [] = Err Cut
attribute_command (b ∷ t) =
    cond (eqb b 0x30) (operands 4 t (Ok (attribute.Plain (span_at t 0))))
    (cond (eqb b 0x31) (operands 8 t (Ok (attribute.Namespaced (span_at t 0) (span_at t 4))))
    (cond (eqb b 0x32) (operands 2 t (Ok (attribute.Spread (u16_at t 0))))
    (cond (eqb b 0x33) (operands 2 t (Ok (attribute.Literal (u16_at t 0))))
    (cond (eqb b 0x1e) (Ok attribute.End) (Err Wrong)))))

-- an object literal's "properties 34 E or 36 E S (S the name that `prop_name` gives), then 35"
unfoldable pub property_command : List ℕ → Result PropertyCommand CommandError
property_command [] = Err Cut
property_command (b ∷ t) =
    cond (eqb b 0x34) (operands 2 t (Ok (property.Property (u16_at t 0))))
    (cond (eqb b 0x36) (operands 6 t (Ok (property.Named (u16_at t 0) (span_at t 2))))
    (cond (eqb b 0x35) (Ok property.End) (Err Wrong)))

-- "Values: 40 none, 41 S string, 42 E, 43 empty container, 10, 11."
unfoldable pub value_command : List ℕ → Result ValueCommand CommandError
value_command [] = Err Cut
value_command (b ∷ t) =
    cond (eqb b 0x40) (Ok value.Absent)
    (cond (eqb b 0x41) (operands 4 t (Ok (value.Text (span_at t 0))))
    (cond (eqb b 0x42) (operands 2 t (Ok (value.Expression (u16_at t 0))))
    (cond (eqb b 0x43) (Ok value.Empty)
    (cond (eqb b 0x10) (operands 8 t (Ok (value.Element (place_at t 0))))
    (cond (eqb b 0x11) (operands 8 t (Ok (value.Fragment (place_at t 0))))
    (Err Wrong))))))

-- "Children: 50 S text, 42, 43, 51 E spread, 10, 11."; 1F ends them
unfoldable pub child_command : List ℕ → Result ChildCommand CommandError
child_command [] = Err Cut
child_command (b ∷ t) =
    cond (eqb b 0x50) (operands 4 t (Ok (child.Text (span_at t 0))))
    (cond (eqb b 0x42) (operands 2 t (Ok (child.Expression (u16_at t 0))))
    (cond (eqb b 0x43) (Ok child.Empty)
    (cond (eqb b 0x51) (operands 2 t (Ok (child.Spread (u16_at t 0))))
    (cond (eqb b 0x10) (operands 8 t (Ok (child.Element (place_at t 0))))
    (cond (eqb b 0x11) (operands 8 t (Ok (child.Fragment (place_at t 0))))
    (cond (eqb b 0x1f) (Ok child.End) (Err Wrong)))))))
