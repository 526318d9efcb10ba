-- docs/TAPES.md, "Call tape" and "Notice tape": the commands of the call tape and the notices, their bytes, and how a call tape is read.
use Rattle.std.specs.Prelude.{ℕ, zero, suc, cond, List, [], ◌∷◌, ◌++◌, length, drop, get_or, eqb, ltb}
use Rattle.text.specs.declared.spans.Span.{Span}
use Rattle.commands.specs.declared.root.Place.{Place}
use Rattle.tape.specs.Numbers.{u16_at, span_at, u16_bytes, u32_bytes, span_bytes}
use Rattle.commands.specs.Root.{place_at}
pub use Rattle.definitions.specs.declared.call_tape.Bare.{Bare}
pub use Rattle.definitions.specs.declared.call_tape.Bare.TheVariants.{ObjectBegin, ObjectEnd, StringName, Null, StringBegin, Space, StringEnd, Colon, LiteralTrue, LiteralFalse, VoidZero, This, ChildrenBegin, Key, Tag, Callee, SelfProperty}
pub use Rattle.definitions.specs.declared.call_tape.WithByte.{WithByte}
pub use Rattle.definitions.specs.declared.call_tape.WithByte.TheVariants.{Call, Pragma, Member, ChildrenEnd, CallEnd}
pub use Rattle.definitions.specs.declared.call_tape.WithExpression.{WithExpression}
pub use Rattle.definitions.specs.declared.call_tape.WithExpression.TheVariants.{SpreadProperty, Carried, SoleSpread, Expression, SpreadItem}
pub use Rattle.definitions.specs.declared.call_tape.WithSpan.{WithSpan}
pub use Rattle.definitions.specs.declared.call_tape.WithSpan.TheVariants.{Name, Piece, Identifier, MemberName}

-- ---- the commands, by their operands: none; a u8 ("80 01" or "80 00"; "9B form (0 one bare item, 1 array)"; "98 u8 pragma (0 call, 1 fragment)"; "99 name u8";
-- "A0 pure u8"); an E ("86 E spread", "87 E carried over", "89 E", "94 E", "9C E spread child"); an S ("83 S", "8B S", "97 S identifier", "A3 S")

-- a command, over what it takes for a binding: "96 binding"; "A1: binding u8, line u32, column u32, both plus one"
pub data Command (B : Type 0) : Type 0 where
  bare : Bare → Command B
  byte : WithByte → ℕ → Command B
  over : WithExpression → ℕ → Command B
  span : WithSpan → Span → Command B
  binding : B → Command B
  source : B → Place → Command B

-- "C0 S: key without value. C1 S S: namespaced tag under throw_if_namespace."; "notice C2 S, S being that part": the first part of a pragma that fails
pub data Notice : Type 0 where
  valueless_key : Span → Notice
  namespaced_tag : Span → Span → Notice
  invalid_pragma : Span → Notice

-- ---- their bytes

unfoldable pub bare_code : Bare → ℕ
bare_code ObjectBegin = 0x81
bare_code ObjectEnd = 0x82
bare_code StringName = 0x84
bare_code Null = 0x88
bare_code StringBegin = 0x8a
bare_code Space = 0x8c
bare_code StringEnd = 0x8d
bare_code Colon = 0x8e
bare_code LiteralTrue = 0x90
bare_code LiteralFalse = 0x91
bare_code VoidZero = 0x92
bare_code This = 0x93
bare_code ChildrenBegin = 0x9a
bare_code Key = 0x9d
bare_code Tag = 0x9e
bare_code Callee = 0x9f
bare_code SelfProperty = 0xa2

unfoldable pub byte_code : WithByte → ℕ
byte_code Call = 0x80
byte_code Pragma = 0x98
byte_code Member = 0x99
byte_code ChildrenEnd = 0x9b
byte_code CallEnd = 0xa0

unfoldable pub expression_code : WithExpression → ℕ
expression_code SpreadProperty = 0x86
expression_code Carried = 0x87
expression_code SoleSpread = 0x89
expression_code Expression = 0x94
expression_code SpreadItem = 0x9c

unfoldable pub span_code : WithSpan → ℕ
span_code Name = 0x83
span_code Piece = 0x8b
span_code Identifier = 0x97
span_code MemberName = 0xa3

unfoldable pub bytes_of : Command ℕ → List ℕ
bytes_of (bare c) = bare_code c ∷ []
bytes_of (byte c n) = byte_code c ∷ n ∷ []
bytes_of (over c e) = expression_code c ∷ u16_bytes e
bytes_of (span c s) = span_code c ∷ span_bytes s
bytes_of (binding b) = 0x96 ∷ b ∷ []
bytes_of (source b p) = 0xa1 ∷ b ∷ u32_bytes p.line ++ u32_bytes p.column

-- the bytes of a call tape
unfoldable pub call_bytes : List (Command ℕ) → List ℕ
call_bytes [] = []
call_bytes (c ∷ cs) = bytes_of c ++ call_bytes cs

unfoldable pub notice_bytes_of : Notice → List ℕ
notice_bytes_of (valueless_key s) = 0xc0 ∷ span_bytes s
notice_bytes_of (namespaced_tag s t) = 0xc1 ∷ span_bytes s ++ span_bytes t
notice_bytes_of (invalid_pragma s) = 0xc2 ∷ span_bytes s

unfoldable pub notice_bytes : List Notice → List ℕ
notice_bytes [] = []
notice_bytes (n ∷ ns) = notice_bytes_of n ++ notice_bytes ns

-- ---- reading a call tape

-- which command a byte is
pub data Kind : Type 0 where
  is_bare : Bare → Kind
  is_byte : WithByte → Kind
  is_over : WithExpression → Kind
  is_span : WithSpan → Kind
  is_binding is_source is_none : Kind

-- the kind of a byte, looked up in a table
unfoldable pub lookup : ℕ → List (ℕ × Kind) → Kind
lookup c [] = is_none
lookup c (r ∷ rs) = cond (eqb c r.0) r.1 (lookup c rs)

abbrev pub kinds : List (ℕ × Kind)
kinds =
    (0x80, is_byte Call) ∷ (0x81, is_bare ObjectBegin) ∷ (0x82, is_bare ObjectEnd) ∷ (0x83, is_span Name) ∷ (0x84, is_bare StringName)
    ∷ (0x86, is_over SpreadProperty) ∷ (0x87, is_over Carried) ∷ (0x88, is_bare Null) ∷ (0x89, is_over SoleSpread) ∷ (0x8a, is_bare StringBegin)
    ∷ (0x8b, is_span Piece) ∷ (0x8c, is_bare Space) ∷ (0x8d, is_bare StringEnd) ∷ (0x8e, is_bare Colon) ∷ (0x90, is_bare LiteralTrue)
    ∷ (0x91, is_bare LiteralFalse) ∷ (0x92, is_bare VoidZero) ∷ (0x93, is_bare This) ∷ (0x94, is_over Expression) ∷ (0x96, is_binding)
    ∷ (0x97, is_span Identifier) ∷ (0x98, is_byte Pragma) ∷ (0x99, is_byte Member) ∷ (0x9a, is_bare ChildrenBegin) ∷ (0x9b, is_byte ChildrenEnd)
    ∷ (0x9c, is_over SpreadItem) ∷ (0x9d, is_bare Key) ∷ (0x9e, is_bare Tag) ∷ (0x9f, is_bare Callee) ∷ (0xa0, is_byte CallEnd)
    ∷ (0xa1, is_source) ∷ (0xa2, is_bare SelfProperty) ∷ (0xa3, is_span MemberName) ∷ []

-- a command whose operands are the first n bytes of t, before what is read behind them; nothing is read where they are cut off
abbrev pub taking : ℕ → List ℕ → Command ℕ → (List ℕ → List (Command ℕ)) → List (Command ℕ)
taking n t c next = cond (ltb (length t) n) [] (c ∷ next (drop n t))

-- the command of a kind whose operands begin t
unfoldable pub read_by : Kind → List ℕ → (List ℕ → List (Command ℕ)) → List (Command ℕ)
read_by (is_bare c) t next = bare c ∷ next t
read_by (is_byte c) t next = taking 1 t (byte c (get_or t 0 0)) next
read_by (is_over c) t next = taking 2 t (over c (u16_at t 0)) next
read_by (is_span c) t next = taking 4 t (span c (span_at t 0)) next
read_by is_binding t next = taking 1 t (binding (get_or t 0 0)) next
read_by is_source t next = taking 9 t (source (get_or t 0 0) (place_at t 1)) next
read_by is_none t next = []

unfoldable pub read_first : List ℕ → (List ℕ → List (Command ℕ)) → List (Command ℕ)
read_first [] next = []
read_first (b ∷ t) next = read_by (lookup b kinds) t next

-- the commands of a tape, up to the first byte that is none; any number of turns from the tape's length on gives the same
unfoldable pub read_from : ℕ → List ℕ → List (Command ℕ)
read_from zero t = []
read_from (suc f) t = read_first t (λ r. read_from f r)

unfoldable pub read_calls : List ℕ → List (Command ℕ)
read_calls t = read_from (length t) t
