-- docs/TAPES.md, "Settings": what a pragma is (`parse_impl` and `parse_no_ctx` of jsx_impl.rs), and what of it fails.
use Rattle.std.specs.Prelude.{ℕ, ◌+◌, Bool, false, cond, not, ◌&&◌, ◌||◌, List, [], ◌∷◌, length, eqb, leb, None, Option, Some, Ok, Err, Result}
use Rattle.std.specs.List.{list_all, list_any}
use Rattle.text.specs.declared.spans.Span.{Span}
use Rattle.text.specs.Bytes.{ascii, same}
use Rattle.text.specs.Spans.{part_of}
use Rattle.definitions.specs.declared.options.PragmaRoot.{PragmaRoot}
use Rattle.definitions.specs.declared.options.PragmaRoot.TheVariants.{Default, This, ImportMeta, Identifier}
use Rattle.definitions.specs.declared.options.Form.{Form}
use Rattle.definitions.specs.declared.options.InvalidPart.{InvalidPart}

-- a byte more in front of the first part
unfoldable pub onto : {A : Type 0} → A → List (List A) → List (List A)
onto b [] = (b ∷ []) ∷ []
onto b (w ∷ ws) = (b ∷ w) ∷ ws

-- "A pragma splits at dots."
unfoldable pub split : List ℕ → List (List ℕ)
split [] = [] ∷ []
split (b ∷ l) = cond (eqb b 0x2e) ([] ∷ split l) (onto b (split l))

-- ECMA-262, IdentifierName: "In ASCII that is a letter, $ or _, then these and digits."
unfoldable pub is_identifier_start : ℕ → Bool
is_identifier_start b = (leb 0x41 b && leb b 0x5a) || (leb 0x61 b && leb b 0x7a) || eqb b 0x24 || eqb b 0x5f

unfoldable pub is_identifier_part : ℕ → Bool
is_identifier_part b = is_identifier_start b || (leb 0x30 b && leb b 0x39)

unfoldable pub is_identifier_name : List ℕ → Bool
is_identifier_name [] = false
is_identifier_name (b ∷ l) = is_identifier_start b && list_all is_identifier_part l

abbrev pub is_one_of : List ℕ → List (List ℕ) → Bool
is_one_of w ws = list_any (same w) ws

-- ECMA-262, ReservedWord: 38 words
unfoldable pub is_reserved_word : List ℕ → Bool
is_reserved_word w =
    is_one_of w
    (ascii "await" ∷ ascii "break" ∷ ascii "case" ∷ ascii "catch" ∷ ascii "class" ∷ ascii "const" ∷ ascii "continue" ∷ ascii "debugger"
    ∷ ascii "default" ∷ ascii "delete" ∷ ascii "do" ∷ ascii "else" ∷ ascii "enum" ∷ ascii "export" ∷ ascii "extends" ∷ ascii "false"
    ∷ ascii "finally" ∷ ascii "for" ∷ ascii "function" ∷ ascii "if" ∷ ascii "import" ∷ ascii "in" ∷ ascii "instanceof" ∷ ascii "new"
    ∷ ascii "null" ∷ ascii "return" ∷ ascii "super" ∷ ascii "switch" ∷ ascii "this" ∷ ascii "throw" ∷ ascii "true" ∷ ascii "try"
    ∷ ascii "typeof" ∷ ascii "var" ∷ ascii "void" ∷ ascii "while" ∷ ascii "with" ∷ ascii "yield" ∷ [])

-- "Invalid or empty means React.createElement or React.Fragment"
abbrev pub default_form : Form
default_form = record { root = Default; tail = 0 }

-- ---- reading a pragma: "tell absent, valid and invalid apart, with the text offset of the first part that fails"

-- the part of n bytes that begins at place i fails
abbrev pub failing : ℕ → ℕ → Result Form InvalidPart
failing i n = Err (record { place = i; len = n })

-- "every tail part is an identifier name, reserved or not": the parts that follow n others behind the root r, the first of them beginning at place i
unfoldable pub tail_from : PragmaRoot → ℕ → ℕ → List (List ℕ) → Result Form InvalidPart
tail_from r n i [] = Ok (record { root = r; tail = n })
tail_from r n i (w ∷ ws) = cond (is_identifier_name w) (tail_from r (n + 1) (i + length w + 1) ws) (failing i (length w))

-- "root `import` needs `meta` next"; "For `import` without `meta` next that part is the root.", which has k bytes
unfoldable pub meta_behind : ℕ → List (List ℕ) → Result Form InvalidPart
meta_behind k [] = failing 0 k
meta_behind k (w ∷ ws) = cond (same w (ascii "meta")) (tail_from ImportMeta 0 (k + 1 + length w + 1) ws) (failing 0 k)

-- "Root `this` needs no tail; root `import` needs `meta` next; any other root is an identifier name and not reserved". A pragma has a part at the least
unfoldable pub parts_read : List (List ℕ) → Result Form InvalidPart
parts_read [] = failing 0 0
parts_read (w ∷ ws) =
    cond (same w (ascii "this")) (tail_from This 0 (length w + 1) ws)
    (cond (same w (ascii "import")) (meta_behind (length w) ws)
    (cond (is_identifier_name w && not (is_reserved_word w)) (tail_from Identifier 0 (length w + 1) ws) (failing 0 (length w))))

-- a pragma, its places counted from its front. The empty one has one part, which is no name: it is "invalid, with an empty S at its start"
unfoldable pub pragma_of : List ℕ → Result Form InvalidPart
pragma_of l = parts_read (split l)

-- the same where the pragma begins at place k
unfoldable pub behind_place : ℕ → Result Form InvalidPart → Result (Option Form) InvalidPart
behind_place k (Ok f) = Ok (Some f)
behind_place k (Err p) = Err (record { place = k + p.place; len = p.len })

-- a pragma that may be absent, its places those of the text
unfoldable pub pragma_in : List ℕ → Option Span → Result (Option Form) InvalidPart
pragma_in text None = Ok None
pragma_in text (Some s) = behind_place s.start (pragma_of (part_of text s))

-- ---- the form that the settings take: "The settings still fall back as `parse_no_ctx` does"

unfoldable pub form_by : Result (Option Form) InvalidPart → Form
form_by (Ok None) = default_form
form_by (Ok (Some f)) = f
form_by (Err p) = default_form
