-- Reading a call tape gives back the commands that were written.
--     kind_of_bare, ..       the table of kinds and the codes agree
--     first_back             the first command of a tape
--     calls_back             all of them: `read_calls (call_bytes cs) ≡ cs`
-- Assumes nothing.
use mathlib.Core.Path.{◌≡◌, refl, ap, ◌∙◌}
use mathlib.Core.List.{List, [], ◌∷◌, ◌++◌}
use Prim.Native.Nat.{ℕ, zero, suc, ◌≤◌}
use native.Mathlib.Omega.{arith}
use lib.ListN.{length, length-append}
use lib.Seq.{drop-append_seam}
use borrow.Author.Tests.{le-ltb}
use Rattle.commands.specs.declared.root.Place.{Place}
use Rattle.tape.specs.Numbers.{u16_bytes, u32_bytes, span_bytes}
use Rattle.commands.specs.Root.{place_at}
use Rattle.tape.proofs.ReadBack.{u16_back, u32_back, span_back}
use Rattle.definitions.specs.Calls.{Bare, ObjectBegin, ObjectEnd, StringName, Null, StringBegin, Space, StringEnd, Colon, LiteralTrue}
use Rattle.definitions.specs.Calls.{LiteralFalse, VoidZero, This, ChildrenBegin, Key, Tag, Callee, SelfProperty, WithByte, Call, ChildrenEnd, Pragma}
use Rattle.definitions.specs.Calls.{Member, CallEnd, WithExpression, SpreadProperty, Carried, SoleSpread, Expression, SpreadItem, WithSpan, Name}
use Rattle.definitions.specs.Calls.{Piece, Identifier, MemberName, Command, bare, byte, over, span, binding, source, bare_code, byte_code}
use Rattle.definitions.specs.Calls.{expression_code, span_code, bytes_of, call_bytes, is_bare, is_byte, is_over, is_span}
use Rattle.definitions.specs.Calls.{lookup, kinds, taking, read_by, read_first, read_from, read_calls}

kind_of_bare : (c : Bare) → lookup (bare_code c) kinds ≡ is_bare c
unfolding lookup bare_code
kind_of_bare ObjectBegin = refl
kind_of_bare ObjectEnd = refl
kind_of_bare StringName = refl
kind_of_bare Null = refl
kind_of_bare StringBegin = refl
kind_of_bare Space = refl
kind_of_bare StringEnd = refl
kind_of_bare Colon = refl
kind_of_bare LiteralTrue = refl
kind_of_bare LiteralFalse = refl
kind_of_bare VoidZero = refl
kind_of_bare This = refl
kind_of_bare ChildrenBegin = refl
kind_of_bare Key = refl
kind_of_bare Tag = refl
kind_of_bare Callee = refl
kind_of_bare SelfProperty = refl

kind_of_byte : (c : WithByte) → lookup (byte_code c) kinds ≡ is_byte c
unfolding lookup byte_code
kind_of_byte Call = refl
kind_of_byte ChildrenEnd = refl
kind_of_byte Pragma = refl
kind_of_byte Member = refl
kind_of_byte CallEnd = refl

kind_of_over : (c : WithExpression) → lookup (expression_code c) kinds ≡ is_over c
unfolding lookup expression_code
kind_of_over SpreadProperty = refl
kind_of_over Carried = refl
kind_of_over SoleSpread = refl
kind_of_over Expression = refl
kind_of_over SpreadItem = refl

kind_of_span : (c : WithSpan) → lookup (span_code c) kinds ≡ is_span c
unfolding lookup span_code
kind_of_span Name = refl
kind_of_span Piece = refl
kind_of_span Identifier = refl
kind_of_span MemberName = refl

-- operands that are all there
taking_all : (ops t : List ℕ) (c : Command ℕ) (next : List ℕ → List (Command ℕ)) → taking (length ops) (ops ++ t) c next ≡ c ∷ next t
taking_all ops t c next = rw (le-ltb (length (ops ++ t)) (length ops) (omega (arith, length-append ops t)), drop-append_seam ops t)

place_back : (b : ℕ) (p : Place) (t : List ℕ) → place_at (b ∷ (u32_bytes p.line ++ u32_bytes p.column) ++ t) 1 ≡ p
place_back b p t =
    λ ι. record { line = u32_back p.line (u32_bytes p.column ++ t) ι; column = u32_back p.column t ι }

pub first_back : (c : Command ℕ) (t : List ℕ) (next : List ℕ → List (Command ℕ)) → read_first (bytes_of c ++ t) next ≡ c ∷ next t
unfolding read_first bytes_of read_by lookup
first_back (bare c) t next = rw (kind_of_bare c)
first_back (byte c n) t next = rw (kind_of_byte c) (taking_all (n ∷ []) t (byte c n) next)
first_back (over c e) t next = rw (kind_of_over c, u16_back e t) (taking_all (u16_bytes e) t (over c e) next)
first_back (span c s) t next = rw (kind_of_span c, span_back s t) (taking_all (span_bytes s) t (span c s) next)
first_back (binding b) t next = taking_all (b ∷ []) t (binding b) next
first_back (source b p) t next =
    rw (place_back b p t) (taking_all (b ∷ u32_bytes p.line ++ u32_bytes p.column) t (source b p) next)

some_byte : (c : Command ℕ) → 1 ≤ length (bytes_of c)
unfolding bytes_of
some_byte (bare c) = omega arith
some_byte (byte c n) = omega arith
some_byte (over c e) = omega arith
some_byte (span c s) = omega arith
some_byte (binding b) = omega arith
some_byte (source b p) = omega arith

from_back : (f : ℕ) (cs : List (Command ℕ)) → length (call_bytes cs) ≤ f → read_from f (call_bytes cs) ≡ cs
unfolding read_from call_bytes read_first
from_back zero [] h = refl
from_back (suc f) [] h = refl
from_back zero (c ∷ cs) h = absurd (omega (arith, length-append (bytes_of c) (call_bytes cs), some_byte c))
from_back (suc f) (c ∷ cs) h =
    first_back c (call_bytes cs) (λ r. read_from f r)
    ∙ ap (c ∷◌) (from_back f cs (omega (arith, length-append (bytes_of c) (call_bytes cs), some_byte c)))

pub calls_back : (cs : List (Command ℕ)) → read_calls (call_bytes cs) ≡ cs
unfolding read_calls
calls_back cs = from_back (length (call_bytes cs)) cs (omega arith)
