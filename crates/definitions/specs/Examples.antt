-- The specification's "Sheets to try", the proved set, and how open places were read: two tables, each closed by one claim that is computed from the definitions
-- (proofs/Examples).
use Rattle.std.specs.Prelude.{ℕ, ◌+◌, ◌*◌, ◌-◌, ◌≡◌, cond, List, [], ◌∷◌, ◌++◌, map, length, eqb, leb, Err, None, Ok, Option, Result, Some, ⊤}
use Rattle.tape.specs.declared.refusal.Refusal.{Refusal}
use Prim.Native.String.{String}
use Rattle.text.specs.declared.spans.Span.{Span}
use Rattle.text.specs.Bytes.{ascii}
use Rattle.text.specs.Spans.{part_of}
use Rattle.tape.specs.Refusals.{number_of, figure_of}
use Rattle.definitions.specs.declared.options.PragmaRoot.TheVariants as root
use Rattle.definitions.specs.declared.options.Form.{Form}
use Rattle.definitions.specs.declared.options.InvalidPart.{InvalidPart}
use Rattle.definitions.specs.declared.options.Settings.{Settings}
use Rattle.definitions.specs.Judging.{Judged, accepted, refused}
use Rattle.definitions.specs.Pragmas.{failing, pragma_of}
use Rattle.definitions.specs.Opening.{judge_opening}
use Rattle.definitions.specs.JsxText.{jsx_text}
use Rattle.definitions.specs.Calls.{Command, bare, byte, over, span, binding, source, read_calls, bare_code, span_code, call_bytes}
use Rattle.definitions.specs.Store.{numbered_all}
use Rattle.definitions.specs.Lowering.{lower_text, commands_of}
use Rattle.definitions.specs.Entries.{opened as opened_over}
use Rattle.definitions.specs.Program.{Printed, printed, refused_with, jsxtape}

-- ---- how rows are written

unfoldable pub digit : ℕ → ℕ
digit c = cond (leb 0x61 c) (c - 0x57) (c - 0x30)

-- bytes of two digits each, one space between them
unfoldable pub hex_of : List ℕ → List ℕ
hex_of [] = []
hex_of (a ∷ []) = []
hex_of (a ∷ b ∷ []) = (digit a * 16 + digit b) ∷ []
hex_of (a ∷ b ∷ c ∷ l) = (digit a * 16 + digit b) ∷ hex_of l

abbrev pub hex : String → List ℕ
hex s = hex_of (ascii s)

abbrev pub at : ℕ → ℕ → Span
at s n = record { start = s; len = n }

-- what is asked: the string that a JSX text becomes, both pragma pairs that a comment sets with jsx_plugin on, how a pragma is read, what an opening comes to over a
-- notice target, what a job prints
pub data Question : Type 0 where
  string_in : List ℕ → Question
  pairs_in : List ℕ → Question
  pragma_is : List ℕ → Question
  opens : List ℕ → List ℕ → List ℕ → Question
  prints : List ℕ → List ℕ → List ℕ → Question

-- a string as it is written and what it means; the JSX pair and the TypeScript pair, in each the pragma and the fragment pragma; the notice fill and the target behind
-- an opening, or its refusal and the target
pub data Reply : Type 0 where
  string : List ℕ → List ℕ → Reply
  pairs : Option Span → Option Span → Option Span → Option Span → Reply
  reads : Result Form InvalidPart → Reply
  noticed : ℕ → List ℕ → Reply
  refused_over : ℕ → ℕ → List ℕ → Reply
  output : Printed → Reply
  turned_away : Reply

-- an opening with jsx_plugin and one comment, the whole text
abbrev pub commented : List ℕ → List ℕ
commented c = 0x61 ∷ 0x01 ∷ 0x00 ∷ 0x60 ∷ 0 ∷ 0 ∷ length c ∷ 0 ∷ []

unfoldable pub pairs_of : Judged Settings → Reply
pairs_of (accepted s) = pairs s.options.pragma s.options.pragma_frag s.options.ts_pragma s.options.ts_pragma_frag
pairs_of (refused r) = turned_away

unfoldable pub opening_reply : Result ⊤ Refusal → ℕ → List ℕ → Reply
opening_reply (Ok tt) fill target = noticed fill target
opening_reply (Err r) fill target = refused_over (number_of r) (figure_of r) target

-- the bytes of a text child that is all of the text
abbrev pub string_bytes : List ℕ → List ℕ
string_bytes text = call_bytes (numbered_all [] (commands_of (lower_text (jsx_text text (at 0 (length text))))))

-- what a string's commands mean: "8B S, 8C space, 8E colon"
unfoldable pub meaning_of : List ℕ → Command ℕ → List ℕ
meaning_of text (bare c) = cond (eqb (bare_code c) 0x8c) (ascii " ") (cond (eqb (bare_code c) 0x8e) (ascii ":") [])
meaning_of text (span c s) = cond (eqb (span_code c) 0x8b) (part_of text s) []
meaning_of text (byte c n) = []
meaning_of text (over c e) = []
meaning_of text (binding b) = []
meaning_of text (source b p) = []

unfoldable pub meaning : List ℕ → List (Command ℕ) → List ℕ
meaning text [] = []
meaning text (c ∷ cs) = meaning_of text c ++ meaning text cs

unfoldable pub reply_to : Question → Reply
reply_to (string_in text) = string (string_bytes text) (meaning text (read_calls (string_bytes text)))
reply_to (pairs_in c) = pairs_of (judge_opening c (commented c) 0)
reply_to (pragma_is l) = reads (pragma_of l)
reply_to (opens job text target) =
    opening_reply (opened_over text job target).stepped.answer (opened_over text job target).stepped.state.notices (opened_over text job target).notices
reply_to (prints job text tape) = output (jsxtape job text tape)

pub record Row : Type 0 where
  pub asked : Question
  pub expected : Reply

infix 5 ◌gives◌
abbrev pub ◌gives◌ : Question → Reply → Row
q gives r = record { asked = q; expected = r }

-- ---- the table

-- a root of heritage 0 in a function, then an element at line 0, column 0
-- (rows write it out: 01 00 02 03 10, eight zero bytes)

abbrev pub table : List Row
table =
    -- "Text of 3 spaces: kept."
    (string_in (ascii "   ") gives string (hex "8a 8b 00 00 03 00 8d") (ascii "   "))
    -- "LF: no child."
    ∷ (string_in (ascii "\n") gives string [] [])
    -- "\" a LF b \" with single spaces gives \" a b \"": " a", a space, "b ". Wrong port: trimming the first line's front
    ∷ (string_in (ascii " a \n b ") gives string (hex "8a 8b 00 00 02 00 8c 8b 05 00 02 00 8d") (ascii " a b "))
    -- "comment `a@@jsx h`: pragma h"
    ∷ (pairs_in (ascii "a@@jsx h") gives pairs (Some (at 7 1)) None (Some (at 7 1)) None)
    -- "`@jsx `, LF, `@jsxFrag f`: neither set"
    ∷ (pairs_in (ascii "@jsx \n@jsxFrag f") gives pairs None None None None)
    -- "`h.class` valid; `import` and `a..b` invalid; `this` valid"
    ∷ (pragma_is (ascii "h.class") gives reads (Ok (record { root = root.Identifier; tail = 1 })))
    ∷ (pragma_is (ascii "import") gives reads (failing 0 6))
    ∷ (pragma_is (ascii "a..b") gives reads (failing 2 0))
    ∷ (pragma_is (ascii "this") gives reads (Ok (record { root = root.This; tail = 0 })))
    -- "Automatic, not development, sole spread child: array, callee jsx." Wrong port: jsxs for a sole spread
    ∷ (prints (hex "61 81 00") (ascii "a") (hex "01 00 02 03 10 00 00 00 00 00 00 00 00 20 00 00 01 00 1e 51 05 00 1f")
    gives output (printed
    (hex "80 01 81 9a 9c 05 00 9b 01 82 9e 8a 8b 00 00 01 00 8d 9f 96 00 a0 01")
    []
    (hex "b0 01 b1 02 00")))
    -- "Valueless key: notice and key: true."
    ∷ (prints (hex "61 81 00") (ascii "akey") (hex "01 00 02 03 10 00 00 00 00 00 00 00 00 20 00 00 01 00 30 01 00 03 00 40 1e 1f")
    gives output (printed
    (hex "80 01 81 83 01 00 03 00 90 82 9e 8a 8b 00 00 01 00 8d 9f 96 00 a0 01")
    (hex "c0 01 00 03 00")
    (hex "b0 01 b1 02 00")))
    -- "Classic, two spreads of `{}`, self and source plugins off: null."
    ∷ (prints (hex "61 09 00") (ascii "a") (hex "01 00 02 03 10 00 00 00 00 00 00 00 00 20 00 00 01 00 33 05 00 35 33 06 00 35 1e 1f")
    gives output (printed (hex "80 00 88 9e 8a 8b 00 00 01 00 8d 9f 98 00 a0 01") [] []))
    -- "Classic lone spread of `{}`, self and source plugins off: 89 and its E."
    ∷ (prints (hex "61 09 00") (ascii "a") (hex "01 00 02 03 10 00 00 00 00 00 00 00 00 20 00 00 01 00 33 05 00 35 1e 1f")
    gives output (printed (hex "80 00 89 05 00 9e 8a 8b 00 00 01 00 8d 9f 98 00 a0 01") [] []))
    -- the whole example: job `61 e1 00`
    ∷ (prints (hex "61 e1 00") (ascii "a") (hex "01 00 02 03 10 00 00 00 00 00 00 00 00 20 00 00 01 00 1e 1f")
    gives output (printed (hex "80 01 81 82 9e 8a 8b 00 00 01 00 8d 9f 96 00 a0 01") [] (hex "b0 01 b1 02 00")))
    -- Wrong port: import before children. The fragment inside makes bindings 0 and 1, the element around it mentions 1
    ∷ (prints (hex "61 81 00") (ascii "a")
    (hex "01 00 02 03 10 00 00 00 00 00 00 00 00 20 00 00 01 00 1e 11 00 00 00 00 00 00 00 00 1f 51 05 00 1f")
    gives output (printed
    (hex "80 01 81 9a 80 01 81 82 9e 96 00 9f 96 01 a0 01 9c 05 00 9b 01 82 9e 8a 8b 00 00 01 00 8d 9f 96 02 a0 01")
    []
    (hex "b0 01 b1 00 00 b1 02 01 b1 03 02")))
    -- Wrong port: lone spread decided by whether self was allowed. Here it is not (a constructor of a derived class), but its plugin is on
    ∷ (prints (hex "61 0b 00") (ascii "a") (hex "01 02 02 02 10 00 00 00 00 00 00 00 00 20 00 00 01 00 32 05 00 1e 1f")
    gives output (printed (hex "80 00 81 86 05 00 82 9e 8a 8b 00 00 01 00 8d 9f 98 00 a0 01") [] []))
    ∷ []

-- ---- how open places were read (docs/DECISIONS.md): what is expected was computed by another program, from the specification's text

abbrev pub readings : List Row
readings =
    -- an automatic call of a fragment has no A1 and no A2, and makes no file name: the self and the source plugin are on
    (prints (hex "61 86 00") (ascii "") (hex "01 00 02 03 11 00 00 00 00 00 00 00 00 1f")
    gives output (printed (hex "80 01 81 82 9e 96 00 9f 96 01 a0 01") [] (hex "b0 01 b1 00 00 b1 02 01")))
    -- the same in a script
    ∷ (prints (hex "61 06 00") (ascii "") (hex "01 00 02 03 11 00 00 00 00 00 00 00 00 1f")
    gives output (printed (hex "80 01 81 82 9e 96 00 99 00 9f 96 00 99 02 a0 01") [] (hex "b0 01 b2 00")))
    -- empty text is one line and survives as the empty string
    ∷ (prints (hex "61 81 00") (ascii "a") (hex "01 00 02 03 10 00 00 00 00 00 00 00 00 20 00 00 01 00 1e 50 01 00 00 00 1f")
    gives output (printed (hex "80 01 81 9a 8a 8d 9b 00 82 9e 8a 8b 00 00 01 00 8d 9f 96 00 a0 01") [] (hex "b0 01 b1 02 00")))
    -- `key` with an empty container has a value, and there is no notice
    ∷ (prints (hex "61 81 00") (ascii "akey") (hex "01 00 02 03 10 00 00 00 00 00 00 00 00 20 00 00 01 00 30 01 00 03 00 43 1e 1f")
    gives output (printed (hex "80 01 81 82 9d 90 9e 8a 8b 00 00 01 00 8d 9f 96 00 a0 01") [] (hex "b0 01 b1 02 00")))
    -- a valueless key gives C0 and `key: true`, and leaves an earlier value alone
    ∷ (prints (hex "61 81 00") (ascii "akey") (hex "01 00 02 03 10 00 00 00 00 00 00 00 00 20 00 00 01 00 30 01 00 03 00 42 07 00 30 01 00 03 00 40 1e 1f")
    gives output (printed (hex "80 01 81 83 01 00 03 00 90 82 9d 94 07 00 9e 8a 8b 00 00 01 00 8d 9f 96 00 a0 01") (hex "c0 01 00 03 00") (hex "b0 01 b1 02 00")))
    -- an automatic key that a later one overrides leaves no call and no binding: there is no Fragment
    ∷ (prints (hex "61 81 00") (ascii "akey") (hex "01 00 02 03 10 00 00 00 00 00 00 00 00 20 00 00 01 00 30 01 00 03 00 11 00 00 00 00 00 00 00 00 1f 30 01 00 03 00 42 07 00 1e 1f")
    gives output (printed (hex "80 01 81 82 9d 94 07 00 9e 8a 8b 00 00 01 00 8d 9f 96 00 a0 01") [] (hex "b0 01 b1 02 00")))
    -- the last key's value is lowered after the children: Fragment, in the child, is bound before createElement, in the key
    ∷ (prints (hex "61 81 00") (ascii "akey") (hex "01 00 02 03 10 00 00 00 00 00 00 00 00 20 00 00 01 00 30 01 00 03 00 10 00 00 00 00 00 00 00 00 20 00 00 01 00 32 05 00 30 01 00 03 00 42 06 00 1e 1f 1e 11 00 00 00 00 00 00 00 00 1f 1f")
    gives output (printed (hex "80 01 81 9a 80 01 81 82 9e 96 00 9f 96 01 a0 01 9b 00 82 9d 80 00 81 86 05 00 83 01 00 03 00 94 06 00 82 9e 8a 8b 00 00 01 00 8d 9f 96 02 a0 01 9e 8a 8b 00 00 01 00 8d 9f 96 01 a0 01") [] (hex "b0 01 b1 00 00 b1 02 01 b0 00 b1 01 02")))
    -- a key after a spread: 80 00, every attribute a property, callee createElement of source 0, in development too; an element inside chooses for itself
    ∷ (prints (hex "61 91 00") (ascii "akey") (hex "01 00 02 03 10 00 00 00 00 00 00 00 00 20 00 00 01 00 32 05 00 30 01 00 03 00 42 06 00 1e 10 00 00 00 00 00 00 00 00 20 00 00 01 00 1e 1f 1f")
    gives output (printed (hex "80 00 81 86 05 00 83 01 00 03 00 94 06 00 a2 a1 00 01 00 00 00 01 00 00 00 82 80 01 81 82 92 91 a1 00 01 00 00 00 01 00 00 00 a2 9e 8a 8b 00 00 01 00 8d 9f 96 01 a0 01 9e 8a 8b 00 00 01 00 8d 9f 96 02 a0 01") [] (hex "b0 01 b1 04 01 b0 00 b1 01 02 b3 00 00")))
    -- classic call: the file name is numbered before what the children bind
    ∷ (prints (hex "61 84 00") (ascii "akey") (hex "01 00 02 03 10 00 00 00 00 00 00 00 00 20 00 00 01 00 32 05 00 30 01 00 03 00 42 06 00 1e 11 00 00 00 00 00 00 00 00 1f 1f")
    gives output (printed (hex "80 00 81 86 05 00 83 01 00 03 00 94 06 00 a1 00 01 00 00 00 01 00 00 00 82 80 01 81 82 9e 96 01 9f 96 02 a0 01 9e 8a 8b 00 00 01 00 8d 9f 96 03 a0 01") [] (hex "b0 01 b1 00 01 b1 02 02 b0 00 b1 01 03 b3 00 00")))
    -- automatic call: the file name is numbered after what the children bind
    ∷ (prints (hex "61 84 00") (ascii "a") (hex "01 00 02 03 10 00 00 00 00 00 00 00 00 20 00 00 01 00 1e 11 00 00 00 00 00 00 00 00 1f 1f")
    gives output (printed (hex "80 01 81 9a 80 01 81 82 9e 96 00 9f 96 01 a0 01 9b 00 82 a1 02 01 00 00 00 01 00 00 00 9e 8a 8b 00 00 01 00 8d 9f 96 01 a0 01") [] (hex "b0 01 b1 00 00 b1 02 01 b3 02 00")))
    -- C0 when the attribute is met, C1 when the tag is made, after everything inside
    ∷ (prints (hex "61 a1 00") (ascii "abkey") (hex "01 00 02 03 10 00 00 00 00 00 00 00 00 23 00 00 01 00 01 00 01 00 1e 10 00 00 00 00 00 00 00 00 20 00 00 01 00 30 02 00 03 00 40 1e 1f 1f")
    gives output (printed (hex "80 01 81 9a 80 01 81 83 02 00 03 00 90 82 9e 8a 8b 00 00 01 00 8d 9f 96 00 a0 01 9b 00 82 9e 8a 8b 00 00 01 00 8e 8b 01 00 01 00 8d 9f 96 00 a0 01") (hex "c0 02 00 03 00 c1 00 00 01 00 01 00 01 00") (hex "b0 01 b1 02 00")))
    --  before  at the end of a classic call
    ∷ (prints (hex "61 8e 00") (ascii "a") (hex "01 00 02 03 10 00 00 00 00 00 00 00 00 20 00 00 01 00 1e 1f")
    gives output (printed (hex "80 00 81 a2 a1 00 01 00 00 00 01 00 00 00 82 9e 8a 8b 00 00 01 00 8d 9f 98 00 a0 01") [] (hex "b3 00 00")))
    -- source before self in an automatic call
    ∷ (prints (hex "61 86 00") (ascii "a") (hex "01 00 02 03 10 00 00 00 00 00 00 00 00 20 00 00 01 00 1e 1f")
    gives output (printed (hex "80 01 81 82 a1 00 01 00 00 00 01 00 00 00 a2 9e 8a 8b 00 00 01 00 8d 9f 96 01 a0 01") [] (hex "b0 01 b1 02 01 b3 00 00")))
    -- no self in a constructor of a derived class
    ∷ (prints (hex "61 82 00") (ascii "a") (hex "01 02 02 00 02 02 10 00 00 00 00 00 00 00 00 20 00 00 01 00 1e 1f")
    gives output (printed (hex "80 01 81 82 9e 8a 8b 00 00 01 00 8d 9f 96 00 a0 01") [] (hex "b0 01 b1 02 00")))
    -- a literal with `__proto__` is one 86, in an automatic call too; any other is carried over
    ∷ (prints (hex "61 81 00") (ascii "a__proto__") (hex "01 00 02 03 10 00 00 00 00 00 00 00 00 20 00 00 01 00 33 05 00 34 06 00 36 07 00 01 00 09 00 35 33 08 00 34 09 00 35 1e 1f")
    gives output (printed (hex "80 01 81 86 05 00 87 09 00 82 9e 8a 8b 00 00 01 00 8d 9f 96 00 a0 01") [] (hex "b0 01 b1 02 00")))
    -- records of a script: groups in order of first use, source 0 in front, the file name last
    ∷ (prints (hex "61 04 00") (ascii "akey") (hex "01 00 02 03 10 00 00 00 00 00 00 00 00 20 00 00 01 00 1e 10 00 00 00 00 00 00 00 00 20 00 00 01 00 32 05 00 30 01 00 03 00 42 06 00 1e 1f 1f")
    gives output (printed (hex "80 01 81 9a 80 00 81 86 05 00 83 01 00 03 00 94 06 00 a1 00 01 00 00 00 01 00 00 00 82 9e 8a 8b 00 00 01 00 8d 9f 96 01 99 01 a0 01 9b 00 82 a1 00 01 00 00 00 01 00 00 00 9e 8a 8b 00 00 01 00 8d 9f 96 02 99 02 a0 01") [] (hex "b0 00 b2 01 b0 01 b2 02 b3 00 01")))
    -- a name with a hyphen and a namespaced one are strings
    ∷ (prints (hex "61 81 00") (ascii "aa-b") (hex "01 00 02 03 10 00 00 00 00 00 00 00 00 20 00 00 01 00 30 01 00 03 00 41 00 00 01 00 31 00 00 01 00 01 00 01 00 40 1e 1f")
    gives output (printed (hex "80 01 81 84 8a 8b 01 00 03 00 8d 8a 8b 00 00 01 00 8d 84 8a 8b 00 00 01 00 8e 8b 01 00 01 00 8d 90 82 9e 8a 8b 00 00 01 00 8d 9f 96 00 a0 01") [] (hex "b0 01 b1 02 00")))
    -- a value may not stand among children: 3 at its offset
    ∷ (prints (hex "61 81 00") (ascii "a") (hex "01 00 02 03 10 00 00 00 00 00 00 00 00 20 00 00 01 00 1e 40 1f")
    gives output (refused_with 3 19))
    -- 7: a reference, also in a key that is never lowered, and behind an ampersand that opens none
    ∷ (prints (hex "61 81 00") (ascii "akey&b;") (hex "01 00 02 03 10 00 00 00 00 00 00 00 00 20 00 00 01 00 30 01 00 03 00 41 04 00 03 00 30 01 00 03 00 42 07 00 1e 1f")
    gives output (refused_with 7 23))
    ∷ (prints (hex "61 e1 00") (ascii "&a&amp;") (hex "01 00 02 03 11 00 00 00 00 00 00 00 00 50 00 00 07 00 1f") gives output (refused_with 7 13))
    -- an ampersand that opens none is plain text, in one piece with what stands around it: in a text, in a string, and where the semicolon stands behind the span
    ∷ (prints (hex "61 e1 00") (ascii "&#X41;") (hex "01 00 02 03 11 00 00 00 00 00 00 00 00 50 00 00 06 00 1f")
    gives output (printed (hex "80 01 81 9a 8a 8b 00 00 06 00 8d 9b 00 82 9e 96 00 9f 96 01 a0 01") [] (hex "b0 01 b1 00 00 b1 02 01")))
    ∷ (prints (hex "61 08 00") (ascii "hQ & A&a;") (hex "01 00 02 03 10 00 00 00 00 00 00 00 00 20 00 00 01 00 30 00 00 01 00 41 01 00 05 00 1e 50 06 00 02 00 1f")
    gives output (printed (hex "80 00 81 83 00 00 01 00 8a 8b 01 00 05 00 8d 82 8a 8b 06 00 02 00 8d 9e 8a 8b 00 00 01 00 8d 9f 98 00 a0 01") [] []))
    -- which span was bad, over the two bytes of U+00E9. One span with two faults: beyond the text and cutting is 4, an empty name beyond the text is 4, one within a
    -- character is 13
    ∷ (prints (hex "61 81 00") (hex "c3 a9") (hex "01 00 02 03 10 00 00 00 00 00 00 00 00 20 01 00 09 00 1e 1f")
    gives output (refused_with 4 13))
    ∷ (prints (hex "61 81 00") (hex "c3 a9") (hex "01 00 02 03 10 00 00 00 00 00 00 00 00 20 03 00 00 00 1e 1f")
    gives output (refused_with 4 13))
    ∷ (prints (hex "61 81 00") (hex "c3 a9") (hex "01 00 02 03 10 00 00 00 00 00 00 00 00 20 01 00 00 00 1e 1f")
    gives output (refused_with 13 13))
    -- two spans: the number decides, not which comes first. Cutting and beyond, empty and beyond, empty and cutting, empty and in order
    ∷ (prints (hex "61 81 00") (hex "c3 a9") (hex "01 00 02 03 10 00 00 00 00 00 00 00 00 23 00 00 01 00 00 00 03 00 1e 1f")
    gives output (refused_with 4 13))
    ∷ (prints (hex "61 81 00") (hex "c3 a9") (hex "01 00 02 03 10 00 00 00 00 00 00 00 00 23 00 00 00 00 00 00 03 00 1e 1f")
    gives output (refused_with 4 13))
    ∷ (prints (hex "61 81 00") (hex "c3 a9") (hex "01 00 02 03 10 00 00 00 00 00 00 00 00 23 00 00 00 00 00 00 01 00 1e 1f")
    gives output (refused_with 13 13))
    ∷ (prints (hex "61 81 00") (hex "c3 a9") (hex "01 00 02 03 10 00 00 00 00 00 00 00 00 23 00 00 00 00 00 00 02 00 1e 1f")
    gives output (refused_with 14 13))
    -- a text that cuts a character and has a reference is 13; an opening's spans may be empty, and their faults go in tape order
    ∷ (prints (hex "61 81 00") (hex "c3 a9 26 61 3b") (hex "01 00 02 03 11 00 00 00 00 00 00 00 00 50 01 00 04 00 1f")
    gives output (refused_with 13 13))
    ∷ (prints (hex "61 09 00 62 00 00 00 00 63 01 00 01 00 60 00 00 03 00") (hex "c3 a9") (hex "")
    gives output (refused_with 13 8))
    -- the first part of a pragma that fails. For `import` without `meta` next it is the root
    ∷ (pragma_is (ascii "h..x") gives reads (failing 2 0))
    ∷ (pragma_is (ascii "import.x") gives reads (failing 0 6))
    ∷ (pragma_is (ascii "import.") gives reads (failing 0 6))
    ∷ (pragma_is (ascii "import.meta") gives reads (Ok (record { root = root.ImportMeta; tail = 0 })))
    ∷ (pragma_is (ascii "import.meta.") gives reads (failing 12 0))
    ∷ (pragma_is (ascii "import.meta.h.1x") gives reads (failing 14 2))
    ∷ (pragma_is (ascii ".") gives reads (failing 0 0))
    ∷ (pragma_is (ascii "class.h") gives reads (failing 0 5))
    ∷ (pragma_is (ascii "h.1x.2y") gives reads (failing 2 2))
    ∷ (pragma_is [] gives reads (failing 0 0))
    -- C2 comes before the root's notices
    ∷ (prints (hex "61 08 00 62 00 00 04 00") (ascii "h..xkey") (hex "01 00 02 03 10 00 00 00 00 00 00 00 00 22 30 04 00 03 00 40 1e 1f")
    gives output (printed (hex "80 00 81 83 04 00 03 00 90 82 9e 93 9f 98 00 a0 00") (hex "c2 02 00 00 00 c0 04 00 03 00") []))
    -- pragma first, then fragment; in a job that is automatic none; exactly full, and one byte short
    ∷ (opens (hex "61 08 00 62 00 00 02 00 63 02 00 05 00") (ascii "1xclass") (hex "ff ff ff ff ff ff ff ff ff ff ff")
    gives noticed 10 (hex "c2 00 00 02 00 c2 02 00 05 00 ff"))
    ∷ (opens (hex "61 00 00 62 00 00 02 00 63 02 00 05 00") (ascii "1xclass") (hex "ff") gives noticed 0 (hex "ff"))
    ∷ (opens (hex "61 80 00 62 00 00 02 00 63 02 00 05 00") (ascii "1xclass") [] gives noticed 0 [])
    ∷ (opens (hex "61 08 00 62 00 00 02 00") (ascii "1x") (hex "ff ff ff ff ff") gives noticed 5 (hex "c2 00 00 02 00"))
    ∷ (opens (hex "61 08 00 62 00 00 02 00") (ascii "1x") (hex "ff ff ff ff") gives refused_over 11 5 (hex "ff ff ff ff"))
    -- the pair in force after comments: a 62 that a comment overrides gives nothing, a comment's own pragma is told, and the TypeScript pair never; a comment can make
    -- the job classic. An empty option is told with an empty S at its start
    ∷ (opens (hex "61 09 00 62 00 00 02 00 60 02 00 06 00") (ascii "1x@jsx h") [] gives noticed 0 [])
    ∷ (opens (hex "61 09 00 60 00 00 08 00") (ascii "@jsx h.-") (hex "00 00 00 00 00") gives noticed 5 (hex "c2 07 00 01 00"))
    ∷ (opens (hex "61 08 00 60 00 00 08 00") (ascii "@jsx h.-") [] gives noticed 0 [])
    ∷ (opens (hex "61 01 00 62 00 00 00 00 60 00 00 13 00") (ascii "@jsxRuntime classic") (hex "00 00 00 00 00") gives noticed 5 (hex "c2 00 00 00 00"))
    ∷ (opens (hex "61 09 00 62 15 00 01 00 60 00 00 15 00") (ascii "@jsxRuntime automatic1") [] gives noticed 0 [])
    -- 5 before 11
    ∷ (opens (hex "61 08 00 62 00 00 01 00 63 01 00 02 00") (hex "31 c3 a9") [] gives refused_over 5 1 [])
    ∷ []

-- ---- what is claimed of a table

abbrev pub Answered : List Row → Type 0
Answered rows = map (λ r. reply_to r.asked) rows ≡ map (λ r. r.expected) rows
