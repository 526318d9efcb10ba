-- docs/TAPES.md, "Settings": the pragmas of the comments and what they set (comments.rs).
use Rattle.std.specs.Prelude.{ℕ, zero, suc, ◌+◌, ◌-◌, Bool, true, false, cond, not, ◌&&◌, ◌||◌, List, [], ◌∷◌, length, take, drop, get_or, eqb, leb, None, Option, Some}
use Rattle.text.specs.declared.spans.Span.{Span}
use Rattle.text.specs.Bytes.{ascii, same, find_from}
use Rattle.text.specs.Spans.{part_of}
use Rattle.definitions.specs.declared.options.Flags.{Flags}
use Rattle.definitions.specs.declared.options.Options.{Options}

-- ---- the bytes that the search tells apart

abbrev pub is_at : ℕ → Bool
is_at b = eqb b 0x40

-- "after space, tab, CR, LF or star"
abbrev pub leads_in : ℕ → Bool
leads_in b = eqb b 0x20 || eqb b 0x09 || eqb b 0x0d || eqb b 0x0a || eqb b 0x2a

-- "space or tab"
abbrev pub is_blank : ℕ → Bool
is_blank b = eqb b 0x20 || eqb b 0x09

-- "ASCII white space (9 to D, 20)"
abbrev pub is_white : ℕ → Bool
is_white b = (leb 0x09 b && leb b 0x0d) || eqb b 0x20

-- the place of the first byte that passes the test, from a place of the list on
abbrev pub place_from : (ℕ → Bool) → List ℕ → ℕ → Option ℕ
place_from p l i = find_from p i (drop i l)

-- a place that was found, or else the one given
unfoldable pub or_else : ℕ → Option ℕ → ℕ
or_else n (Some i) = i
or_else n None = n

-- ---- `find_jsx_pragma`: the next pragma of a comment c. What is left of it begins at `i`.

pub data Keyword : Type 0 where
  jsx frag import_source runtime unknown : Keyword

-- what follows `@jsx`: "Empty sets the pragma, Frag the fragment pragma, ImportSource the import source, Runtime the runtime"
unfoldable pub keyword_of : List ℕ → Keyword
keyword_of w =
    cond (same w []) jsx
    (cond (same w (ascii "Frag")) frag
    (cond (same w (ascii "ImportSource")) import_source
    (cond (same w (ascii "Runtime")) runtime unknown)))

-- a known keyword and the place behind the byte that ends it, or nothing
pub data Search : Type 0 where
  pragma : Keyword → ℕ → Search
  nothing : Search

-- "an @ counts at the start of what is left, or after space, tab, CR, LF or star. It must also begin `@jsx`."
unfoldable pub counts : List ℕ → ℕ → ℕ → Bool
counts c i sign = (eqb sign i || leads_in (get_or c (sign - 1) 0)) && same (take 4 (drop sign c)) (ascii "@jsx")

-- "Unknown keyword: go on after that byte."
unfoldable pub on_keyword : Keyword → ℕ → (ℕ → Search) → Search
on_keyword unknown next go = go next
on_keyword jsx next go = pragma jsx next
on_keyword frag next go = pragma frag next
on_keyword import_source next go = pragma import_source next
on_keyword runtime next go = pragma runtime next

-- "The keyword is what follows `@jsx`, up to the next space or tab; none there ends the search."
unfoldable pub on_word : List ℕ → ℕ → Option ℕ → (ℕ → Search) → Search
on_word c w (Some e) go = on_keyword (keyword_of (take (e - w) (drop w c))) (e + 1) go
on_word c w None go = nothing

-- "A rejected @ is dropped and the search goes on right after it, in the shortened rest."
unfoldable pub on_sign : List ℕ → ℕ → Option ℕ → (ℕ → Search) → Search
on_sign c i None go = nothing
on_sign c i (Some sign) go =
    cond (counts c i sign) (on_word c (sign + 4) (place_from is_blank c (sign + 4)) go) (go (sign + 1))

-- each turn goes on at a later place, so as many turns as the comment has bytes do
unfoldable pub seek : ℕ → List ℕ → ℕ → Search
seek zero c i = nothing
seek (suc n) c i = on_sign c i (place_from is_at c i) (λ j. seek n c j)

-- ---- the value of a pragma

-- "from the first byte after spaces and tabs"
abbrev pub value_start : List ℕ → ℕ → ℕ
value_start c i = or_else (length c) (place_from (λ b. not (is_blank b)) c i)

-- "up to ASCII white space"
abbrev pub value_of : List ℕ → List ℕ
value_of l = take (or_else (length l) (find_from is_white 0 l)) l

-- ---- what a pragma sets: "Later values override."

-- "the JSX pair only under jsx_plugin or development"
abbrev pub sets_pair : Flags → Bool
sets_pair f = f.jsx_plugin || f.development

abbrev pub with_runtime : Flags → List ℕ → Flags
with_runtime f v =
    record {
      jsx_plugin = f.jsx_plugin;
      self_plugin = f.self_plugin;
      source_plugin = f.source_plugin;
      classic = cond (same v (ascii "classic")) true (cond (same v (ascii "automatic")) false f.classic);
      development = f.development;
      throw_if_namespace = f.throw_if_namespace;
      pure = f.pure;
      «module» = f.«module»;
    }

-- the options after a pragma whose value is v, the span s of the text. "The TypeScript pragma pair is always set, the JSX pair only under
-- jsx_plugin or development"; "Runtime the runtime if the value is classic or automatic"
unfoldable pub applied : Options → Keyword → Span → List ℕ → Options
applied o jsx s v =
    record {
      flags = o.flags;
      pragma = cond (sets_pair o.flags) (Some s) o.pragma;
      pragma_frag = o.pragma_frag;
      import_source = o.import_source;
      ts_pragma = Some s;
      ts_pragma_frag = o.ts_pragma_frag;
    }
applied o frag s v =
    record {
      flags = o.flags;
      pragma = o.pragma;
      pragma_frag = cond (sets_pair o.flags) (Some s) o.pragma_frag;
      import_source = o.import_source;
      ts_pragma = o.ts_pragma;
      ts_pragma_frag = Some s;
    }
applied o import_source s v =
    record {
      flags = o.flags;
      pragma = o.pragma;
      pragma_frag = o.pragma_frag;
      import_source = Some s;
      ts_pragma = o.ts_pragma;
      ts_pragma_frag = o.ts_pragma_frag;
    }
applied o runtime s v =
    record {
      flags = with_runtime o.flags v;
      pragma = o.pragma;
      pragma_frag = o.pragma_frag;
      import_source = o.import_source;
      ts_pragma = o.ts_pragma;
      ts_pragma_frag = o.ts_pragma_frag;
    }
applied o unknown s v = o

-- ---- a comment, and all of them

-- "An empty value ends this comment"; after another "the search then goes on after that one white byte". base is the comment's place in the
-- text, start the value's in the comment
unfoldable pub on_value : Options → Keyword → ℕ → ℕ → List ℕ → (Options → ℕ → Options) → Options
on_value o k base start [] go = o
on_value o k base start (b ∷ v) go =
    go (applied o k (record { start = base + start; len = length (b ∷ v) }) (b ∷ v)) (start + length (b ∷ v) + 1)

unfoldable pub on_search : Options → ℕ → List ℕ → Search → (Options → ℕ → Options) → Options
on_search o base c nothing go = o
on_search o base c (pragma k i) go = on_value o k base (value_start c i) (value_of (drop (value_start c i) c)) go

-- the options after what is left of the comment c from i on; as many turns as it has bytes do
unfoldable pub comment_from : ℕ → Options → ℕ → List ℕ → ℕ → Options
comment_from zero o base c i = o
comment_from (suc n) o base c i = on_search o base c (seek (length c) c i) (λ p j. comment_from n p base c j)

-- `update_options_with_comment`
unfoldable pub with_comment : List ℕ → Options → Span → Options
with_comment text o s = comment_from (length (part_of text s)) o s.start (part_of text s) 0

-- `update_options_with_comments`: in order
unfoldable pub with_comments : List ℕ → Options → List Span → Options
with_comments text o [] = o
with_comments text o (s ∷ ss) = with_comments text (with_comment text o s) ss
