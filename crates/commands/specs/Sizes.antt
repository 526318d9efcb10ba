-- How many bytes of its tape a command takes: one for its code, and its operands. What is none takes 0.
use Rattle.std.specs.Prelude.{ℕ, cond, List, [], ◌∷◌, eqb, Option, None, Some, Result, Ok, Err}
use Rattle.text.specs.declared.spans.Span.{Span}
use Rattle.commands.specs.declared.error.CommandError.{CommandError}
use Rattle.commands.specs.declared.opening.OptionCommand.{OptionCommand}
use Rattle.commands.specs.declared.opening.OptionCommand.TheVariants as option
use Rattle.commands.specs.declared.root.Heritage.{Heritage}
use Rattle.commands.specs.declared.root.ScopeCommand.{ScopeCommand}
use Rattle.commands.specs.declared.root.ScopeCommand.TheVariants as scope
use Rattle.commands.specs.declared.root.NameCommand.{NameCommand}
use Rattle.commands.specs.declared.root.NameCommand.TheVariants as name
use Rattle.commands.specs.declared.root.AttributeCommand.{AttributeCommand}
use Rattle.commands.specs.declared.root.AttributeCommand.TheVariants as attribute
use Rattle.commands.specs.declared.root.PropertyCommand.{PropertyCommand}
use Rattle.commands.specs.declared.root.PropertyCommand.TheVariants as property
use Rattle.commands.specs.declared.root.ValueCommand.{ValueCommand}
use Rattle.commands.specs.declared.root.ValueCommand.TheVariants as value
use Rattle.commands.specs.declared.root.ChildCommand.{ChildCommand}
use Rattle.commands.specs.declared.root.ChildCommand.TheVariants as child

-- ---- by what a command carries behind its code

abbrev pub bare : ℕ
bare = 1

abbrev pub with_kind : ℕ
with_kind = 2

abbrev pub with_flags : ℕ
with_flags = 3

abbrev pub with_expression : ℕ
with_expression = 3

abbrev pub with_span : ℕ
with_span = 5

abbrev pub with_expression_and_span : ℕ
with_expression_and_span = 7

abbrev pub with_spans : ℕ
with_spans = 9

-- line and column
abbrev pub with_place : ℕ
with_place = 9

-- ---- by its code alone, whatever place it stands in

-- the commands of the root tape: code and size
unfoldable pub root_commands : List (ℕ × ℕ)
root_commands =
    (0x01, with_kind)  -- heritage
    ∷ (0x02, with_kind)  -- scope
    ∷ (0x10, with_place)  -- element
    ∷ (0x11, with_place)  -- fragment
    ∷ (0x1e, bare)  -- end_attributes
    ∷ (0x1f, bare)  -- end
    ∷ (0x20, with_span)  -- tag
    ∷ (0x21, with_span)  -- tag_identifier
    ∷ (0x22, bare)  -- tag_this
    ∷ (0x23, with_spans)  -- tag_namespaced
    ∷ (0x25, with_span)  -- tag_member
    ∷ (0x30, with_span)  -- attribute
    ∷ (0x31, with_spans)  -- attribute_namespaced
    ∷ (0x32, with_expression)  -- spread_attribute
    ∷ (0x33, with_expression)  -- literal
    ∷ (0x34, with_expression)  -- property
    ∷ (0x35, bare)  -- end_literal
    ∷ (0x36, with_expression_and_span)  -- named_property
    ∷ (0x40, bare)  -- no_value
    ∷ (0x41, with_span)  -- string_value
    ∷ (0x42, with_expression)  -- container
    ∷ (0x43, bare)  -- empty_container
    ∷ (0x50, with_span)  -- text
    ∷ (0x51, with_expression)  -- spread_child
    ∷ []

-- the size beside the code; 0 where the code isn't listed
unfoldable pub size_in : List (ℕ × ℕ) → ℕ → ℕ
size_in [] code = 0
size_in (c ∷ cs) code = cond (eqb code c.0) c.1 (size_in cs code)

-- how many bytes the command of the root tape with this code takes; 0 where none begins with it
unfoldable pub command_size : ℕ → ℕ
command_size code = size_in root_commands code

-- ---- by what was read: the opening tape. What is no command, by its place or by its operands, takes 0

abbrev pub flags_size : Result ℕ CommandError → ℕ
flags_size (Ok f) = with_flags
flags_size (Err e) = 0

abbrev pub option_size : Result (Option OptionCommand) CommandError → ℕ
option_size (Ok (Some (option.Pragma s))) = with_span
option_size (Ok (Some (option.PragmaFrag s))) = with_span
option_size (Ok (Some (option.ImportSource s))) = with_span
option_size (Ok (Some (option.Comment s))) = with_span
option_size (Ok None) = 0
option_size (Err e) = 0

-- ---- the root tape

abbrev pub heritage_size : Result Heritage CommandError → ℕ
heritage_size (Ok k) = with_kind
heritage_size (Err e) = 0

abbrev pub scope_size : Result ScopeCommand CommandError → ℕ
scope_size (Ok (scope.Scope k)) = with_kind
scope_size (Ok (scope.Element p)) = with_place
scope_size (Ok (scope.Fragment p)) = with_place
scope_size (Err e) = 0

abbrev pub name_size : Result NameCommand CommandError → ℕ
name_size (Ok (name.Plain s)) = with_span
name_size (Ok (name.Identifier s)) = with_span
name_size (Ok name.This) = bare
name_size (Ok (name.Namespaced s n)) = with_spans
name_size (Err e) = 0

-- what ends the name is the command behind it, which is not taken
abbrev pub member_size : Result (Option Span) CommandError → ℕ
member_size (Ok (Some s)) = with_span
member_size (Ok None) = 0
member_size (Err e) = 0

abbrev pub attribute_size : Result AttributeCommand CommandError → ℕ
attribute_size (Ok (attribute.Plain s)) = with_span
attribute_size (Ok (attribute.Namespaced s n)) = with_spans
attribute_size (Ok (attribute.Spread e)) = with_expression
attribute_size (Ok (attribute.Literal e)) = with_expression
attribute_size (Ok attribute.End) = bare
attribute_size (Err e) = 0

abbrev pub property_size : Result PropertyCommand CommandError → ℕ
property_size (Ok (property.Property e)) = with_expression
property_size (Ok (property.Named e s)) = with_expression_and_span
property_size (Ok property.End) = bare
property_size (Err e) = 0

abbrev pub value_size : Result ValueCommand CommandError → ℕ
value_size (Ok value.Absent) = bare
value_size (Ok (value.Text s)) = with_span
value_size (Ok (value.Expression e)) = with_expression
value_size (Ok value.Empty) = bare
value_size (Ok (value.Element p)) = with_place
value_size (Ok (value.Fragment p)) = with_place
value_size (Err e) = 0

abbrev pub child_size : Result ChildCommand CommandError → ℕ
child_size (Ok (child.Text s)) = with_span
child_size (Ok (child.Expression e)) = with_expression
child_size (Ok child.Empty) = bare
child_size (Ok (child.Spread e)) = with_expression
child_size (Ok (child.Element p)) = with_place
child_size (Ok (child.Fragment p)) = with_place
child_size (Ok child.End) = bare
child_size (Err e) = 0
