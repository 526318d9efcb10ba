-- Worked examples, computed from the definitions: a table for each. `cut_at` lists what a reader says of a tape's beginnings, the empty one first.
use Rattle.std.specs.Prelude.{ℕ, ◌≡◌, refl, true, false, List, [], ◌∷◌, ◌++◌, map, take, replicate, Option, None, Some, Result, Ok, Err}
use Rattle.text.specs.declared.spans.Span.{Span}
use Rattle.commands.specs.declared.error.CommandError.{CommandError}
use Rattle.commands.specs.declared.error.CommandError.TheVariants.{Wrong, Cut, Bad}
use Rattle.commands.specs.declared.opening.OptionCommand.{OptionCommand}
use Rattle.commands.specs.declared.opening.OptionCommand.TheVariants as option
use Rattle.commands.specs.declared.root.Place.{Place}
use Rattle.commands.specs.declared.root.Heritage.TheVariants as heritage
use Rattle.commands.specs.declared.root.ScopeKind.TheVariants as kind
use Rattle.commands.specs.declared.root.ScopeCommand.TheVariants as scope
use Rattle.commands.specs.declared.root.NameCommand.TheVariants as name
use Rattle.commands.specs.declared.root.AttributeCommand.TheVariants as attribute
use Rattle.commands.specs.declared.root.PropertyCommand.TheVariants as property
use Rattle.commands.specs.declared.root.ValueCommand.TheVariants as value
use Rattle.commands.specs.declared.root.ChildCommand.TheVariants as child
use Rattle.commands.specs.Opening.{flags_command, option_command}
use Rattle.commands.specs.Sizes.{root_commands, size_in, command_size}
use Rattle.commands.specs.Root.{heritage_command, scope_command, name_command, member_command, attribute_command, property_command, value_command, child_command}

abbrev pub span : ℕ → ℕ → Span
span s l = record { start = s; len = l }

abbrev pub place : ℕ → ℕ → Place
place l c = record { line = l; column = c }

abbrev pub cut_at : {A : Type 0} → (List ℕ → A) → List ℕ → List ℕ → List A
cut_at f t lengths = map (λ n. f (take n t)) lengths

-- ---- the opening tape

-- all eight flags are allowed, a ninth isn't; no other command comes first
pub flags_first :
    map flags_command
    ((0x61 ∷ 0xff ∷ 0x00 ∷ [])
    ∷ (0x61 ∷ 0x00 ∷ 0x01 ∷ [])
    ∷ (0x60 ∷ 0xff ∷ 0x00 ∷ [])
    ∷ (0x62 ∷ [])
    ∷ [])
    ≡ Ok 255 ∷ Err Bad ∷ Err Wrong ∷ Err Wrong ∷ []
unfolding flags_command
flags_first = refl

pub flags_cut : cut_at flags_command (0x61 ∷ 0x00 ∷ 0x01 ∷ []) (0 ∷ 1 ∷ 2 ∷ []) ≡ replicate 3 (Err Cut)
unfolding flags_command
flags_cut = refl

-- what is read behind the command `last`
abbrev pub after : ℕ × List ℕ → Result (Option OptionCommand) CommandError
after p = option_command p.0 p.1

-- 62 63 64 60 60, each behind the one before it; then the tape's end
pub options_in_order :
    map after
    ((0x61, 0x62 ∷ 1 ∷ 0 ∷ 2 ∷ 0 ∷ [])
    ∷ (0x62, 0x63 ∷ 1 ∷ 0 ∷ 2 ∷ 0 ∷ [])
    ∷ (0x63, 0x64 ∷ 1 ∷ 0 ∷ 2 ∷ 0 ∷ [])
    ∷ (0x64, 0x60 ∷ 1 ∷ 0 ∷ 2 ∷ 0 ∷ [])
    ∷ (0x64, 0x60 ∷ 1 ∷ 0 ∷ 2 ∷ 0 ∷ [])
    ∷ (0x64, [])
    ∷ [])
    ≡ Ok (Some (option.Pragma (span 1 2)))
    ∷ Ok (Some (option.PragmaFrag (span 1 2)))
    ∷ Ok (Some (option.ImportSource (span 1 2)))
    ∷ Ok (Some (option.Comment (span 1 2)))
    ∷ Ok (Some (option.Comment (span 1 2)))
    ∷ Ok None
    ∷ []
unfolding option_command
options_in_order = refl

-- any of them may be left out; 63 62, 62 62 and 60 64 are wrong, as is a second 61
pub options_by_order :
    map after
    ((0x61, 0x64 ∷ 1 ∷ 0 ∷ 2 ∷ 0 ∷ [])
    ∷ (0x61, 0x60 ∷ 1 ∷ 0 ∷ 2 ∷ 0 ∷ [])
    ∷ (0x63, 0x62 ∷ 1 ∷ 0 ∷ 2 ∷ 0 ∷ [])
    ∷ (0x62, 0x62 ∷ 1 ∷ 0 ∷ 2 ∷ 0 ∷ [])
    ∷ (0x64, 0x64 ∷ 1 ∷ 0 ∷ 2 ∷ 0 ∷ [])
    ∷ (0x61, 0x61 ∷ 1 ∷ 0 ∷ [])
    ∷ (0x61, 0x65 ∷ [])
    ∷ [])
    ≡ Ok (Some (option.ImportSource (span 1 2))) ∷ Ok (Some (option.Comment (span 1 2))) ∷ replicate 5 (Err Wrong)
unfolding option_command
options_by_order = refl

-- a command that may not stand there is wrong before it is cut off
pub options_cut :
    cut_at (option_command 0x61) (0x62 ∷ 1 ∷ 0 ∷ 2 ∷ 0 ∷ []) (0 ∷ 1 ∷ 2 ∷ 3 ∷ 4 ∷ [])
    ++ cut_at (option_command 0x62) (0x62 ∷ 1 ∷ 0 ∷ 2 ∷ 0 ∷ []) (0 ∷ 1 ∷ 2 ∷ 3 ∷ 4 ∷ [])
    ≡ (Ok None ∷ replicate 4 (Err Cut)) ++ (Ok None ∷ replicate 4 (Err Wrong))
unfolding option_command
options_cut = refl

-- ---- the root tape

-- a command that may not stand there comes first, then operands cut off, then a bad operand
pub heritage_order :
    map heritage_command ([] ∷ (0x02 ∷ []) ∷ (0x02 ∷ 0 ∷ []) ∷ (0x01 ∷ []) ∷ (0x01 ∷ 3 ∷ []) ∷ (0x01 ∷ 0 ∷ []) ∷ (0x01 ∷ 1 ∷ 9 ∷ []) ∷ (0x01 ∷ 2 ∷ []) ∷ [])
    ≡ Err Cut ∷ Err Wrong ∷ Err Wrong ∷ Err Cut ∷ Err Bad ∷ Ok heritage.NoClass ∷ Ok heritage.Base ∷ Ok heritage.Derived ∷ []
unfolding heritage_command
heritage_order = refl

abbrev pub scopes : List (List ℕ)
scopes =
    (0x02 ∷ 0 ∷ [])
    ∷ (0x02 ∷ 3 ∷ [])
    ∷ (0x02 ∷ 4 ∷ [])
    ∷ (0x02 ∷ [])
    ∷ (0x10 ∷ 1 ∷ 0 ∷ 0 ∷ 0 ∷ 2 ∷ 1 ∷ 0 ∷ 0 ∷ [])
    ∷ (0x11 ∷ 1 ∷ 0 ∷ 0 ∷ 0 ∷ 2 ∷ 1 ∷ 0 ∷ 0 ∷ [])
    ∷ (0x10 ∷ [])
    ∷ (0x01 ∷ 0 ∷ [])
    ∷ []
    ∷ []

-- an element or a fragment comes behind a scope of kind 2 or 3 alone
pub scopes_before :
    map (scope_command false) scopes
    ≡ Ok (scope.Scope kind.Block) ∷ Ok (scope.Scope kind.Function) ∷ Err Bad ∷ Err Cut ∷ Err Wrong ∷ Err Wrong ∷ Err Wrong ∷ Err Wrong ∷ Err Cut ∷ []
unfolding scope_command
scopes_before = refl

pub scopes_behind :
    map (scope_command true) scopes
    ≡ Ok (scope.Scope kind.Block)
    ∷ Ok (scope.Scope kind.Function)
    ∷ Err Bad
    ∷ Err Cut
    ∷ Ok (scope.Element (place 1 258))
    ∷ Ok (scope.Fragment (place 1 258))
    ∷ Err Cut
    ∷ Err Wrong
    ∷ Err Cut
    ∷ []
unfolding scope_command
scopes_behind = refl

pub names_read :
    map name_command
    ((0x20 ∷ 1 ∷ 0 ∷ 2 ∷ 0 ∷ [])
    ∷ (0x21 ∷ 1 ∷ 0 ∷ 2 ∷ 0 ∷ [])
    ∷ (0x22 ∷ [])
    ∷ (0x23 ∷ 1 ∷ 0 ∷ 2 ∷ 0 ∷ 3 ∷ 0 ∷ 4 ∷ 0 ∷ [])
    ∷ (0x25 ∷ 1 ∷ 0 ∷ 2 ∷ 0 ∷ [])
    ∷ (0x24 ∷ [])
    ∷ [])
    ≡ Ok (name.Plain (span 1 2))
    ∷ Ok (name.Identifier (span 1 2))
    ∷ Ok name.This
    ∷ Ok (name.Namespaced (span 1 2) (span 3 4))
    ∷ Err Wrong
    ∷ Err Wrong
    ∷ []
unfolding name_command
names_read = refl

pub names_cut :
    cut_at name_command (0x23 ∷ 1 ∷ 0 ∷ 2 ∷ 0 ∷ 3 ∷ 0 ∷ 4 ∷ 0 ∷ []) (0 ∷ 1 ∷ 2 ∷ 3 ∷ 4 ∷ 5 ∷ 6 ∷ 7 ∷ 8 ∷ 9 ∷ [])
    ≡ replicate 9 (Err Cut) ++ (Ok (name.Namespaced (span 1 2) (span 3 4)) ∷ [])
unfolding name_command
names_cut = refl

-- what is no property ends the name, be it the tape's end or a command that may not stand there
pub members_read :
    map member_command
    ((0x25 ∷ 1 ∷ 0 ∷ 2 ∷ 0 ∷ [])
    ∷ (0x25 ∷ 1 ∷ 0 ∷ 2 ∷ [])
    ∷ (0x25 ∷ [])
    ∷ (0x30 ∷ [])
    ∷ (0x99 ∷ [])
    ∷ []
    ∷ [])
    ≡ Ok (Some (span 1 2)) ∷ Err Cut ∷ Err Cut ∷ Ok None ∷ Ok None ∷ Ok None ∷ []
unfolding member_command
members_read = refl

pub attributes_read :
    map attribute_command
    ((0x30 ∷ 1 ∷ 0 ∷ 2 ∷ 0 ∷ [])
    ∷ (0x31 ∷ 1 ∷ 0 ∷ 2 ∷ 0 ∷ 3 ∷ 0 ∷ 4 ∷ 0 ∷ [])
    ∷ (0x32 ∷ 1 ∷ 2 ∷ [])
    ∷ (0x33 ∷ 1 ∷ 2 ∷ [])
    ∷ (0x1e ∷ [])
    ∷ (0x34 ∷ [])
    ∷ (0x1f ∷ [])
    ∷ (0x32 ∷ 1 ∷ [])
    ∷ []
    ∷ [])
    ≡ Ok (attribute.Plain (span 1 2))
    ∷ Ok (attribute.Namespaced (span 1 2) (span 3 4))
    ∷ Ok (attribute.Spread 513)
    ∷ Ok (attribute.Literal 513)
    ∷ Ok attribute.End
    ∷ Err Wrong
    ∷ Err Wrong
    ∷ Err Cut
    ∷ Err Cut
    ∷ []
unfolding attribute_command
attributes_read = refl

pub properties_read :
    map property_command
    ((0x34 ∷ 1 ∷ 2 ∷ [])
    ∷ (0x36 ∷ 1 ∷ 2 ∷ 3 ∷ 0 ∷ 0 ∷ 0 ∷ [])
    ∷ (0x35 ∷ [])
    ∷ (0x1e ∷ [])
    ∷ (0x37 ∷ [])
    ∷ [])
    ≡ Ok (property.Property 513) ∷ Ok (property.Named 513 (span 3 0)) ∷ Ok property.End ∷ Err Wrong ∷ Err Wrong ∷ []
unfolding property_command
properties_read = refl

pub properties_cut :
    cut_at property_command (0x36 ∷ 1 ∷ 2 ∷ 3 ∷ 0 ∷ 0 ∷ 0 ∷ []) (0 ∷ 1 ∷ 2 ∷ 3 ∷ 4 ∷ 5 ∷ 6 ∷ []) ≡ replicate 7 (Err Cut)
unfolding property_command
properties_cut = refl

pub values_read :
    map value_command
    ((0x40 ∷ [])
    ∷ (0x41 ∷ 1 ∷ 0 ∷ 2 ∷ 0 ∷ [])
    ∷ (0x42 ∷ 1 ∷ 2 ∷ [])
    ∷ (0x43 ∷ [])
    ∷ (0x10 ∷ 1 ∷ 0 ∷ 0 ∷ 0 ∷ 2 ∷ 1 ∷ 0 ∷ 0 ∷ [])
    ∷ (0x11 ∷ 0xff ∷ 0xff ∷ 0xff ∷ 0xff ∷ 0 ∷ 0 ∷ 0 ∷ 0 ∷ [])
    ∷ (0x50 ∷ 1 ∷ 0 ∷ 2 ∷ 0 ∷ [])
    ∷ (0x51 ∷ [])
    ∷ (0x41 ∷ 1 ∷ 0 ∷ 2 ∷ [])
    ∷ []
    ∷ [])
    ≡ Ok value.Absent
    ∷ Ok (value.Text (span 1 2))
    ∷ Ok (value.Expression 513)
    ∷ Ok value.Empty
    ∷ Ok (value.Element (place 1 258))
    ∷ Ok (value.Fragment (place 4294967295 0))
    ∷ Err Wrong
    ∷ Err Wrong
    ∷ Err Cut
    ∷ Err Cut
    ∷ []
unfolding value_command
values_read = refl

pub children_read :
    map child_command
    ((0x50 ∷ 1 ∷ 0 ∷ 2 ∷ 0 ∷ [])
    ∷ (0x42 ∷ 1 ∷ 2 ∷ [])
    ∷ (0x43 ∷ [])
    ∷ (0x51 ∷ 1 ∷ 2 ∷ [])
    ∷ (0x10 ∷ 1 ∷ 0 ∷ 0 ∷ 0 ∷ 2 ∷ 1 ∷ 0 ∷ 0 ∷ [])
    ∷ (0x11 ∷ 1 ∷ 0 ∷ 0 ∷ 0 ∷ 2 ∷ 1 ∷ 0 ∷ 0 ∷ [])
    ∷ (0x1f ∷ [])
    ∷ (0x41 ∷ 1 ∷ 0 ∷ 2 ∷ 0 ∷ [])
    ∷ (0x1e ∷ [])
    ∷ [])
    ≡ Ok (child.Text (span 1 2))
    ∷ Ok (child.Expression 513)
    ∷ Ok child.Empty
    ∷ Ok (child.Spread 513)
    ∷ Ok (child.Element (place 1 258))
    ∷ Ok (child.Fragment (place 1 258))
    ∷ Ok child.End
    ∷ Err Wrong
    ∷ Err Wrong
    ∷ []
unfolding child_command
children_read = refl

pub children_cut :
    cut_at child_command (0x10 ∷ 1 ∷ 0 ∷ 0 ∷ 0 ∷ 2 ∷ 1 ∷ 0 ∷ 0 ∷ []) (0 ∷ 1 ∷ 2 ∷ 3 ∷ 4 ∷ 5 ∷ 6 ∷ 7 ∷ 8 ∷ []) ≡ replicate 9 (Err Cut)
unfolding child_command
children_cut = refl

-- ---- sizes by the code

-- what carries a kind, a place, nothing, a span, two spans, an expression, an expression and a span
pub sizes_told :
    map command_size (0x01 ∷ 0x02 ∷ 0x10 ∷ 0x11 ∷ 0x1e ∷ 0x1f ∷ 0x20 ∷ 0x22 ∷ 0x23 ∷ 0x31 ∷ 0x33 ∷ 0x36 ∷ 0x41 ∷ 0x42 ∷ 0x43 ∷ 0x50 ∷ 0x51 ∷ [])
    ≡ 2 ∷ 2 ∷ 9 ∷ 9 ∷ 1 ∷ 1 ∷ 5 ∷ 1 ∷ 9 ∷ 9 ∷ 3 ∷ 7 ∷ 5 ∷ 3 ∷ 1 ∷ 5 ∷ 3 ∷ []
unfolding command_size size_in root_commands
sizes_told = refl

-- what begins no command of the root tape: gaps, a command of the opening tape, one of the call tape, the last byte
pub sizes_none : map command_size (0x00 ∷ 0x03 ∷ 0x12 ∷ 0x24 ∷ 0x37 ∷ 0x44 ∷ 0x52 ∷ 0x61 ∷ 0x80 ∷ 0xff ∷ []) ≡ replicate 10 0
unfolding command_size size_in root_commands
sizes_none = refl
