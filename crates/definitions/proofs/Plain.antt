-- Plain output: commands that mention no binding and are no 9F. The parts of a call that are neither its callee, nor an inner element, nor `__source` are plain.
--     plain, Plain               the test, and that it passes
--     plain_imports              plain output mentions nothing
--     ◌and◌, choice              parts and choices of plain output are plain
--     plain_name, plain_text ..  what is plain
--     commands_append            the commands of an output's parts
-- Assumes nothing.
use mathlib.Core.Path.{◌≡◌, refl, ap}
use mathlib.Core.Bool.{Bool, true, false, cond, not, ◌&&◌}
use mathlib.Core.List.{List, [], ◌∷◌, ◌++◌}
use Prim.Native.Nat.{ℕ}
use lib.Dec.{eqb, leb}
use Rattle.text.specs.declared.spans.Span.{Span}
use Rattle.text.specs.Bytes.{find}
use Rattle.text.specs.Spans.{part_of}
use Rattle.definitions.specs.declared.records.Import.{Import}
use Rattle.definitions.specs.Tree.{Name, Property, unnamed, prop_name, Value}
use Rattle.definitions.specs.Tree as tree
use Rattle.definitions.specs.Calls.{Bare, WithByte, WithExpression, WithSpan, Command, bare, byte, over, span, binding, source, bare_code, Notice, valueless_key, namespaced_tag}
use Rattle.definitions.specs.Calls as call
use Rattle.definitions.specs.Callees.{is_callee}
use Rattle.definitions.specs.Lowering.{Context, Output, emit, notify, put, put_byte, put_over, put_span, piece, quoted, joined, colonized, members}
use Rattle.definitions.specs.Lowering.{lower_name, is_key, has_value, has_proto, carried, lower_literal, is_found, attribute_name, key_notice, lower_text}
use Rattle.definitions.specs.Lowering.{self_output, development, static_children, no_key, commands_of}
use Rattle.definitions.proofs.Counting.{never, both}
use Rattle.definitions.proofs.Numbering.{imports_of}

unfoldable pub plain_command : Command Import → Bool
plain_command (bare c) = not (is_callee c)
plain_command (byte c n) = true
plain_command (over c e) = true
plain_command (span c s) = true
plain_command (binding i) = false
plain_command (source i p) = false

unfoldable pub plain : List Output → Bool
plain [] = true
plain (emit c ∷ os) = plain_command c && plain os
plain (notify n ∷ os) = plain os

pub record Plain (os : List Output) : Type 0 where
  pub so : plain os ≡ true

pub commands_append : (xs ys : List Output) → commands_of (xs ++ ys) ≡ commands_of xs ++ commands_of ys
unfolding commands_of
commands_append [] ys = refl
commands_append (emit c ∷ xs) ys = ap (c ∷◌) (commands_append xs ys)
commands_append (notify n ∷ xs) ys = commands_append xs ys

pub plain_imports : (os : List Output) → plain os ≡ true → imports_of (commands_of os) ≡ []
unfolding plain plain_command commands_of imports_of
plain_imports [] h = refl
plain_imports (emit (bare c) ∷ os) h = plain_imports os (both (not (is_callee c)) (plain os) h).1
plain_imports (emit (byte c n) ∷ os) h = plain_imports os h
plain_imports (emit (over c e) ∷ os) h = plain_imports os h
plain_imports (emit (span c s) ∷ os) h = plain_imports os h
plain_imports (emit (binding i) ∷ os) h = never h
plain_imports (emit (source i p) ∷ os) h = never h
plain_imports (notify n ∷ os) h = plain_imports os h

-- ---- parts and choices

plain_append : (xs ys : List Output) → plain xs ≡ true → plain ys ≡ true → plain (xs ++ ys) ≡ true
unfolding plain
plain_append [] ys h k = k
plain_append (emit c ∷ xs) ys h k =
    let d = both (plain_command c) (plain xs) h in rw d.0 (plain_append xs ys d.1 k)
plain_append (notify n ∷ xs) ys h k = plain_append xs ys h k

pub ◌and◌ : {xs ys : List Output} → Plain xs → Plain ys → Plain (xs ++ ys)
◌and◌ {xs} {ys} h k = record { so = plain_append xs ys h.so k.so }

infixl 20 ◌and◌
pub choice : {xs ys : List Output} (b : Bool) → Plain xs → Plain ys → Plain (cond b xs ys)
choice true h k = h
choice false h k = k

pub none : Plain []
unfolding plain
none = record { so = refl }

pub plain_put : (c : Bare) → is_callee c ≡ false → Plain (put c)
unfolding plain plain_command
plain_put c e = record { so = rw e }

pub plain_byte : (c : WithByte) (n : ℕ) → Plain (put_byte c n)
unfolding plain plain_command
plain_byte c n = record { so = refl }

pub plain_over : (c : WithExpression) (e : ℕ) → Plain (put_over c e)
unfolding plain plain_command
plain_over c e = record { so = refl }

plain_span : (c : WithSpan) (s : Span) → Plain (put_span c s)
unfolding plain plain_command
plain_span c s = record { so = refl }

plain_notify : (n : Notice) → Plain (notify n ∷ [])
unfolding plain
plain_notify n = record { so = refl }

-- ---- strings and names

plain_piece : (s : Span) → Plain (piece s)
plain_piece s = choice (eqb s.len 0) none (plain_span call.Piece s)

plain_quoted : {ps : List Output} → Plain ps → Plain (quoted ps)
unfolding bare_code
plain_quoted h = plain_put call.StringBegin refl and h and plain_put call.StringEnd refl

plain_joined : (ss : List Span) → Plain (joined ss)
unfolding joined bare_code
plain_joined [] = none
plain_joined (s ∷ []) = plain_piece s
plain_joined (s ∷ r ∷ rs) = plain_piece s and plain_put call.Space refl and plain_joined (r ∷ rs)

pub plain_colonized : (s r : Span) → Plain (colonized s r)
unfolding bare_code
plain_colonized s r = plain_quoted (plain_piece s and plain_put call.Colon refl and plain_piece r)

plain_members : (ss : List Span) → Plain (members ss)
unfolding members
plain_members [] = none
plain_members (s ∷ ss) = plain_span call.MemberName s and plain_members ss

pub plain_string : (s : Span) → Plain (quoted (piece s))
plain_string s = plain_quoted (plain_piece s)

pub plain_name : (c : Context) (n : Name) → Plain (lower_name c n)
unfolding lower_name bare_code
plain_name c (tree.plain s) = plain_string s
plain_name c (tree.identifier s ms) = plain_span call.Identifier s and plain_members ms
plain_name c (tree.this ms) = plain_put call.This refl and plain_members ms
plain_name c (tree.namespaced s r) =
    choice c.settings.options.flags.throw_if_namespace (plain_notify (namespaced_tag s r)) none and plain_colonized s r

-- ---- attributes

plain_carried : (ps : List Property) → Plain (carried ps)
unfolding carried
plain_carried [] = none
plain_carried (unnamed e ∷ ps) = plain_over call.Carried e and plain_carried ps
plain_carried (prop_name e s ∷ ps) = plain_over call.Carried e and plain_carried ps

pub plain_literal : (c : Context) (e : ℕ) (ps : List Property) → Plain (lower_literal c e ps)
plain_literal c e ps = choice (has_proto c ps) (plain_over call.SpreadProperty e) (plain_carried ps)

pub plain_attribute : (c : Context) (s : Span) → Plain (attribute_name c s)
unfolding attribute_name bare_code
plain_attribute c s =
    choice (is_found (find (eqb 0x2d) (part_of c.text s))) (plain_put call.StringName refl and plain_string s) (plain_span call.Name s)

pub plain_notice : (c : Context) (s : Span) (v : Value) → Plain (key_notice c s v)
unfolding key_notice
plain_notice c s v = choice (is_key c s && not (has_value v)) (plain_notify (valueless_key s)) none

-- ---- children and what is added

pub plain_text : (ss : List Span) → Plain (lower_text ss)
unfolding lower_text
plain_text [] = none
plain_text (s ∷ ss) = plain_quoted (plain_joined (s ∷ ss))

pub plain_self : (c : Context) → Plain (self_output c)
unfolding self_output bare_code
plain_self c = choice (c.settings.options.flags.self_plugin && c.self_allowed) (plain_put call.SelfProperty refl) none

pub plain_static : (c : Context) (n : ℕ) → Plain (static_children c n)
unfolding static_children bare_code
plain_static c n = choice (development c) (choice (leb 2 n) (plain_put call.LiteralTrue refl) (plain_put call.LiteralFalse refl)) none

pub plain_no_key : (c : Context) → Plain (no_key c)
unfolding no_key bare_code
plain_no_key c = choice (development c) (plain_put call.VoidZero refl) none
