-- What the steps of the pragma search give, in the terms of crate `definitions`.
use Rattle.std.specs.Prelude.{ℕ, ◌+◌, ◌-◌, Bool, cond, ◌||◌, List, [], ◌∷◌, length, get_or, take, drop, eqb, ltb, Option, Some, None}
use Rattle.text.specs.Bytes.{ascii, same}
use Rattle.tape.specs.Numbers.{u32_at}
use Rattle.definitions.specs.Comments.{leads_in, seek, value_start, value_of}
use Rattle.definitions.specs.Comments as comments
use Rattle.comments.specs.declared.PragmaType.{PragmaType}
use Rattle.comments.specs.declared.PragmaType.TheVariants.{Jsx, JsxRuntime, JsxImportSource, JsxFrag}
use Rattle.comments.specs.declared.Pragma.{Pragma}

-- the two conditions on an at sign
unfoldable pub stands : List ℕ → ℕ → ℕ → Bool
stands c i sign = eqb sign i || leads_in (get_or c (sign - 1) 0)

unfoldable pub begins : List ℕ → ℕ → Bool
begins c sign = same (take 4 (drop sign c)) (ascii "@jsx")

-- four bytes from a place on
unfoldable pub four_at : List ℕ → ℕ → Option ℕ
four_at c i = cond (ltb (length c - i) 4) None (Some (u32_at c i))

-- the definitions' values for the code's
unfoldable pub known_for : PragmaType → comments.Keyword
known_for Jsx = comments.jsx
known_for JsxRuntime = comments.runtime
known_for JsxImportSource = comments.import_source
known_for JsxFrag = comments.frag

unfoldable pub keyword_for : Option PragmaType → comments.Keyword
keyword_for (Some k) = known_for k
keyword_for None = comments.unknown

unfoldable pub search_for : Option (PragmaType × ℕ) → comments.Search
search_for (Some p) = comments.pragma (known_for p.0) p.1
search_for None = comments.nothing

-- ---- what `find_jsx_pragma` hands back: a keyword, a value and the place where it ends
pub data PragmaValue : Type 0 where
  some : comments.Keyword → List ℕ → ℕ → PragmaValue
  none : PragmaValue

unfoldable pub pragma_for : Option Pragma → PragmaValue
pragma_for (Some p) = some (known_for p.kind) p.value.now p.end
pragma_for None = none

-- "An empty value ends this comment": it is no pragma
unfoldable pub pragma_by : comments.Keyword → List ℕ → ℕ → PragmaValue
pragma_by k [] end = none
pragma_by k (b ∷ v) end = some k (b ∷ v) end

-- the value of a keyword that ends before i
abbrev pub value_from : List ℕ → ℕ → List ℕ
value_from c i = value_of (drop (value_start c i) c)

unfoldable pub pragma_of : List ℕ → comments.Search → PragmaValue
pragma_of c comments.nothing = none
pragma_of c (comments.pragma k i) = pragma_by k (value_from c i) (value_start c i + length (value_from c i))

-- the next pragma of a comment, of which what is left begins at i
abbrev pub pragma_from : List ℕ → ℕ → PragmaValue
pragma_from c i = pragma_of c (seek (length c) c i)
