-- The pragmas of one comment, one after another.
--     value_taken, value_within
--                            what a value is, and that it lies in what is left
--     blank_rest, valued     the pragma of a keyword, by where its value begins
--     Comes                  the options after the comment are those after what is left of it, from the options so far; each event of the loop
--                            is a law from Comes to Comes (onward) or to the answer (no_more)
--     lies                   where a value lies in the comment
-- Assumes nothing.
use Rattle.std.specs.Prelude.{None, Option, Some}
use Rattle.std.specs.Option.{unwrap_or}
use mathlib.Core.Path.{◌≡◌, refl, ap, ◌∙◌}
use mathlib.Core.Bool.{not}
use mathlib.Core.List.{List, [], ◌∷◌}
use Prim.Native.Nat.{ℕ, zero, suc, ◌+◌, ◌-◌, ◌≤◌, ◌<◌}
use native.Mathlib.Omega.{arith}
use lib.ListN.{length, take, drop, length-drop, length-take}
use lib.Seq.{drop-length}
use Rattle.text.specs.declared.spans.Span.{Span}
use Rattle.text.specs.Bytes.{find_from}
use Rattle.text.specs.Spans.{part_of}
use Rattle.definitions.specs.declared.options.Options.{Options}
use Rattle.definitions.specs.Comments.{is_blank, is_white, place_from, or_else, Keyword, Search, pragma, nothing, seek, value_start, value_of, applied}
use Rattle.definitions.specs.Comments.{on_value, on_search, comment_from}
use Rattle.comments.specs.Searches.{PragmaValue, some, none, pragma_by, value_from, pragma_of, pragma_from}
use Rattle.comments.proofs.Signs.{place_range, Later, seek_after}

-- ---- where the value lies
value_range : (c : List ℕ) (a : ℕ) → a ≤ length c → (a ≤ value_start c a) × (value_start c a ≤ length c)
unfolding or_else
value_range c a h =
    go (place_from (λ b. not (is_blank b)) c a) refl
  where
    go : (f : Option ℕ) → place_from (λ b. not (is_blank b)) c a ≡ f → (a ≤ or_else (length c) f) × (or_else (length c) f ≤ length c)
    go (Some i) e = omega (arith, place_range (λ b. not (is_blank b)) c a i e)
    go None e = omega arith

-- `value_of`, by the library's `unwrap_or`
unwrapped : (n : ℕ) (o : Option ℕ) → unwrap_or o n ≡ or_else n o
unfolding or_else
unwrapped n (Some i) = refl
unwrapped n None = refl

pub value_taken : (l : List ℕ) → take (unwrap_or (place_from is_white l 0) (length l)) l ≡ value_of l
value_taken l = ap (λ (n : ℕ). take n l) (unwrapped (length l) (place_from is_white l 0))

pub value_within : (l : List ℕ) → unwrap_or (place_from is_white l 0) (length l) ≤ length l
value_within l = go (place_from is_white l 0) refl
  where
    go : (o : Option ℕ) → place_from is_white l 0 ≡ o → unwrap_or o (length l) ≤ length l
    go (Some i) e = omega (arith, place_range is_white l 0 i e)
    go None e = omega arith

pub value_length : (l : List ℕ) → length (value_of l) ≤ length l
value_length l = omega (arith, length-take (or_else (length l) (find_from is_white 0 l)) l)

-- ---- the pragma of a keyword that was found
module _ (c : List ℕ) (i : ℕ) (k : Keyword) (a : ℕ) (hit : seek (length c) c i ≡ pragma k a) where
  pub blank_rest : place_from (λ b. not (is_blank b)) c a ≡ None → pragma_from c i ≡ none
  unfolding pragma_of pragma_by or_else find_from
  blank_rest e = rw (hit, e, drop-length c)

  pub valued : (start : ℕ) → place_from (λ b. not (is_blank b)) c a ≡ Some start
      → pragma_from c i ≡ pragma_by k (value_of (drop start c)) (start + length (value_of (drop start c)))
  unfolding pragma_of or_else
  valued start e = rw (hit, e)

-- ---- what a pragma does, by what `find_jsx_pragma` hands back
unfoldable on_pragma : Options → ℕ → PragmaValue → (Options → ℕ → Options) → Options
on_pragma o base none go = o
on_pragma o base (some k v end) go = go (applied o k (record { start = base + end - length v; len = length v }) v) (end + 1)

module _ (o : Options) (base : ℕ) (c : List ℕ) (go : Options → ℕ → Options) where
  by_value : (k : Keyword) (start : ℕ) (v : List ℕ) → on_value o k base start v go ≡ on_pragma o base (pragma_by k v (start + length v)) go
  unfolding on_value on_pragma pragma_by
  by_value k start [] = refl
  by_value k start (b ∷ v) =
      let l = length (b ∷ v) in
      let same : base + start ≡ base + (start + l) - l = omega arith in
      ap (λ (s : ℕ). go (applied o k (record { start = s; len = l }) (b ∷ v)) (start + l + 1)) same

  by_search : (s : Search) → on_search o base c s go ≡ on_pragma o base (pragma_of c s) go
  unfolding on_search on_pragma pragma_of
  by_search nothing = refl
  by_search (pragma k a) = by_value k (value_start c a) (value_from c a)

-- ---- whether a value is empty
module _ (k : Keyword) (end : ℕ) where
  pub by_none : (v : List ℕ) → length v ≡ 0 → pragma_by k v end ≡ none
  unfolding pragma_by
  by_none [] z = refl
  by_none (b ∷ v) z = absurd (omega arith)

  pub by_some : (v : List ℕ) → (length v ≡ 0 → ⊥) → pragma_by k v end ≡ some k v end
  unfolding pragma_by
  by_some [] f = absurd (f refl)
  by_some (b ∷ v) f = refl

-- where a value lies, and that it lies behind where the search begins
module _ (c : List ℕ) (i : ℕ) (k : Keyword) (v : List ℕ) (end : ℕ) where
  abbrev pub Lies : Type 0
  Lies = (i + length v < end) × (end ≤ length c)

  search_lies : (s : Search) → seek (length c) c i ≡ s → pragma_of c s ≡ some k v end → Lies
  unfolding pragma_of pragma_by
  search_lies nothing h q = let z : ◌≡◌ {A = ℕ} 0 1 = cc in absurd (omega arith)
  search_lies (pragma j a) h q = go (value_from c a) refl q
    where
      go : (w : List ℕ) → value_from c a ≡ w → pragma_by j w (value_start c a + length w) ≡ some k v end → Lies
      go [] e q = let z : ◌≡◌ {A = ℕ} 0 1 = cc in absurd (omega arith)
      go (b ∷ w) e q =
          let l : Later c i a = seek_after (length c) c i j a h in
          let n : length (value_from c a) ≡ length v = ap length e ∙ cc in
          let z : value_start c a + length v ≡ end = cc in
          omega (arith, value_range c a l.1, value_length (drop (value_start c a) c), length-drop (value_start c a) c)

  pub lies : pragma_from c i ≡ some k v end → Lies
  lies = search_lies (seek (length c) c i) refl

-- ---- the options o before the comment c, p at place i of it, with enough turns left
pub record Comes (c : List ℕ) (base : ℕ) (o p : Options) (i : ℕ) : Type 0 where
  pub turns : ℕ
  pub enough : length c ≤ turns + i
  pub same : comment_from (length c) o base c 0 ≡ comment_from turns p base c i

pub enter : (c : List ℕ) (base : ℕ) (o : Options) → Comes c base o o 0
enter c base o = record { turns = length c; enough = omega arith; same = refl }

module _ (c : List ℕ) (base : ℕ) (o p : Options) (i : ℕ) (r : Comes c base o p i) where
  -- what a turn does
  turn : (x : PragmaValue) (n : ℕ) → pragma_from c i ≡ x → comment_from (suc n) p base c i ≡ on_pragma p base x (λ (q : Options) (j : ℕ). comment_from n q base c j)
  unfolding comment_from
  turn x n e =
      let go : Options → ℕ → Options = λ q j. comment_from n q base c j in
      by_search p base c go (seek (length c) c i) ∙ ap (λ (y : PragmaValue). on_pragma p base y go) e

  pub no_more : pragma_from c i ≡ none → comment_from (length c) o base c 0 ≡ p
  unfolding comment_from on_pragma
  no_more e = r.same ∙ go r.turns
    where
      go : (n : ℕ) → comment_from n p base c i ≡ p
      go zero = refl
      go (suc n) = turn none n e

  module _ (k : Keyword) (v : List ℕ) (end : ℕ) (hit : pragma_from c i ≡ some k v end) where
    pub onward : Comes c base o (applied p k (record { start = base + end - length v; len = length v }) v) (end + 1)
    unfolding on_pragma
    onward = go r.turns r.enough r.same
      where
        inside : Lies c i k v end
        inside = lies c i k v end hit

        go : (n : ℕ) → length c ≤ n + i → comment_from (length c) o base c 0 ≡ comment_from n p base c i
            → Comes c base o (applied p k (record { start = base + end - length v; len = length v }) v) (end + 1)
        go zero h e = absurd (omega (arith, inside))
        go (suc m) h e = record { turns = m; enough = omega (arith, inside); same = e ∙ turn (some k v end) m hit }

-- a place in a comment fits a span's field, as a place in the text
pub comment_fits : (text : List ℕ) (s : Span) → length text ≤ 65535 → s.start ≤ 65535 → s.start + length (part_of text s) ≤ 65535
unfolding part_of
comment_fits text s h g = omega (arith, length-take s.len (drop s.start text), length-drop s.start text)
