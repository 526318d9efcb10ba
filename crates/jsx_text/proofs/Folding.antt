-- The lines of a JSX text as a fold over its characters: all that is kept is how the present line stands.
--     Line, with_ink, ended, at_end, lines_from   the fold
--     view, fold_view                            what the fold gives from a state on, in the definition's terms
--     fold_text                                  from the start on it gives `jsx_text`
-- Assumes nothing.
use mathlib.Core.Path.{◌≡◌, refl, sym, ◌∙◌}
use mathlib.Core.Bool.{Bool, true, false, cond}
use mathlib.Core.List.{List, [], ◌∷◌, ◌++◌}
use Prim.Native.Nat.{ℕ, suc, ◌+◌, ◌-◌, ◌<◌}
use native.Mathlib.Omega.{arith}
use lib.ListN.{length}
use Rattle.text.specs.declared.spans.Span.{Span}
use Rattle.text.specs.Utf8.{width}
use Rattle.text.specs.Chars.{front_code, is_white_space, is_line_terminator}
use Rattle.text.specs.Spans.{part_of}
use Rattle.definitions.specs.Pragmas.{onto}
use Rattle.definitions.specs.JsxText.{Placed, chars_from, lines_of, trim_front, before_trimmed, trim_back, later_lines, end_of, spans_of, kept_lines, jsx_text}

-- ---- the fold

-- how a line stands: the first one or a later one, blank so far; one (is it the first?) that begins at a place, and the place behind
-- its last character that is no white space
pub data Line : Type 0 where
  opening blank : Line
  inked : Bool → ℕ → ℕ → Line

abbrev pub between : ℕ → ℕ → Span
between a z = record { start = a; len = z - a }

-- after characters from a to z, the first and the last of which are no white space
unfoldable pub with_ink : Span → Line → ℕ → ℕ → Line
with_ink s opening a z = inked true s.start z
with_ink s blank a z = inked false a z
with_ink s (inked f b y) a z = inked f b z

-- what a line gives that a terminator ends
unfoldable pub ended : Line → List Span
ended opening = []
ended blank = []
ended (inked f a z) = between a z ∷ []

-- what a line gives that ends with the text, at e
unfoldable pub at_end : Span → Line → ℕ → List Span
at_end s opening e = s ∷ []
at_end s blank e = []
at_end s (inked true a z) e = s ∷ []
at_end s (inked false a z) e = between a e ∷ []

-- the spans from a state on; e is the place behind the characters passed
unfoldable pub lines_from : Span → Line → ℕ → List Placed → List Span
lines_from s l e [] = at_end s l e
lines_from s l e (c ∷ cs) =
    cond (is_line_terminator c.code) (ended l ++ lines_from s blank c.next cs)
    (lines_from s (cond (is_white_space c.code) l (with_ink s l c.at c.next)) c.next cs)

-- ---- what it gives

-- the first line without its back
unfoldable pub from_start : ℕ → List Placed → List Span
from_start a [] = []
from_start a (c ∷ cs) = between a (end_of c.next cs) ∷ []

-- the spans from a state on, where these lines are left: what is left of the present one, and the later ones
unfoldable pub view : Span → Line → ℕ → List (List Placed) → List Span
view s opening e [] = s ∷ []
view s opening e (l ∷ []) = s ∷ []
view s opening e (l ∷ m ∷ ms) = from_start s.start (trim_back l) ++ spans_of (later_lines (m ∷ ms))
view s blank e ls = spans_of (later_lines ls)
view s (inked f a z) e [] = at_end s (inked f a z) e
view s (inked f a z) e (l ∷ []) = at_end s (inked f a z) (end_of e l)
view s (inked f a z) e (l ∷ m ∷ ms) = between a (end_of z (trim_back l)) ∷ spans_of (later_lines (m ∷ ms))

lines_some : (cs : List Placed) → 0 < length (lines_of cs)
unfolding lines_of onto
lines_some [] = omega arith
lines_some (c ∷ cs) = go (is_line_terminator c.code) (lines_of cs)
  where
    go : (t : Bool) (ls : List (List Placed)) → 0 < length (cond t ([] ∷ ls) (onto c ls))
    go true ls = omega arith
    go false [] = omega arith
    go false (l ∷ ls) = omega arith

view_blank : (s : Span) (e : ℕ) (ls : List (List Placed)) → view s blank e ls ≡ spans_of (later_lines ls)
unfolding view
view_blank s e ls = refl

-- ---- a line ends

view_end : (s : Span) (l : Line) (e : ℕ) (ls : List (List Placed)) → 0 < length ls
    → view s l e ([] ∷ ls) ≡ ended l ++ spans_of (later_lines ls)
unfolding view ended from_start later_lines trim_front trim_back spans_of end_of
view_end s l e [] h = absurd (omega arith)
view_end s opening e (m ∷ ms) h = refl
view_end s blank e (m ∷ ms) h = refl
view_end s (inked f a z) e (m ∷ ms) h = refl

-- ---- a character of white space

module _ (c : Placed) (w : is_white_space c.code ≡ true) where
  start_white : (a : ℕ) (t : List Placed) → from_start a (before_trimmed c t) ≡ from_start a t
  unfolding from_start before_trimmed end_of
  start_white a [] = rw w
  start_white a (d ∷ ds) = refl

  end_white : (z : ℕ) (t : List Placed) → end_of z (before_trimmed c t) ≡ end_of z t
  unfolding before_trimmed end_of
  end_white z [] = rw w
  end_white z (d ∷ ds) = refl

  view_white : (s : Span) (l : Line) (e : ℕ) (ls : List (List Placed)) → view s l e (onto c ls) ≡ view s l c.next ls
  unfolding view onto later_lines trim_front trim_back spans_of end_of
  view_white s opening e [] = refl
  view_white s opening e (l ∷ []) = refl
  view_white s opening e (l ∷ m ∷ ms) = rw (start_white s.start (trim_back l))
  view_white s blank e [] = rw w
  view_white s blank e (l ∷ []) = rw w
  view_white s blank e (l ∷ m ∷ ms) = rw w
  view_white s (inked f a z) e [] = refl
  view_white s (inked f a z) e (l ∷ []) = refl
  view_white s (inked f a z) e (l ∷ m ∷ ms) = rw (end_white z (trim_back l))

-- ---- any other character

module _ (c : Placed) (w : is_white_space c.code ≡ false) where
  ink_trimmed : (t : List Placed) → before_trimmed c t ≡ c ∷ t
  unfolding before_trimmed
  ink_trimmed [] = rw w
  ink_trimmed (d ∷ ds) = refl

  at_end_ink : (s : Span) (f : Bool) (a y z e : ℕ) → at_end s (inked f a y) e ≡ at_end s (inked f a z) e
  unfolding at_end
  at_end_ink s true a y z e = refl
  at_end_ink s false a y z e = refl

  view_ink : (s : Span) (l : Line) (e : ℕ) (ls : List (List Placed))
      → view s l e (onto c ls) ≡ view s (with_ink s l c.at c.next) c.next ls
  unfolding view onto with_ink at_end from_start later_lines trim_front trim_back spans_of end_of
  view_ink s opening e [] = refl
  view_ink s opening e (l ∷ []) = refl
  view_ink s opening e (l ∷ m ∷ ms) = rw (ink_trimmed (trim_back l))
  view_ink s blank e [] = rw w
  view_ink s blank e (l ∷ []) = rw w
  view_ink s blank e (l ∷ m ∷ ms) = rw (w, ink_trimmed (trim_back l))
  view_ink s (inked f a z) e [] = at_end_ink s f a z c.next c.next
  view_ink s (inked f a z) e (l ∷ []) = at_end_ink s f a z c.next (end_of c.next l)
  view_ink s (inked f a z) e (l ∷ m ∷ ms) = rw (ink_trimmed (trim_back l))

-- ---- the whole

view_last : (s : Span) (l : Line) (e : ℕ) → at_end s l e ≡ view s l e ([] ∷ [])
unfolding at_end view later_lines trim_front spans_of end_of
view_last s opening e = refl
view_last s blank e = refl
view_last s (inked f a z) e = refl

pub fold_view : (s : Span) (l : Line) (e : ℕ) (cs : List Placed) → lines_from s l e cs ≡ view s l e (lines_of cs)
unfolding lines_from lines_of
fold_view s l e [] = view_last s l e
fold_view s l e (c ∷ cs) =
    go (is_line_terminator c.code) refl (is_white_space c.code) refl (λ k. fold_view s k c.next cs)
  where
    go : (t : Bool) → is_line_terminator c.code ≡ t → (w : Bool) → is_white_space c.code ≡ w
        → ((k : Line) → lines_from s k c.next cs ≡ view s k c.next (lines_of cs))
        → lines_from s l e (c ∷ cs) ≡ view s l e (lines_of (c ∷ cs))
    go true p w q ih = rw (p, ih blank, view_blank s c.next (lines_of cs)) (sym (view_end s l e (lines_of cs) (lines_some cs)))
    go false p true q ih = rw (p, q) (ih l ∙ sym (view_white c q s l e (lines_of cs)))
    go false p false q ih =
        rw (p, q) (ih (with_ink s l c.at c.next) ∙ sym (view_ink c q s l e (lines_of cs)))

-- the first line begins where the text does
module _ (s : Span) (c : Placed) (h : c.at ≡ s.start) where
  start_kept : (t : List Placed) (ls : List (List Placed)) → from_start s.start (before_trimmed c t) ++ spans_of ls ≡ spans_of (before_trimmed c t ∷ ls)
  unfolding from_start before_trimmed spans_of
  start_kept [] ls = go (is_white_space c.code)
    where
      go : (w : Bool) → from_start s.start (cond w [] (c ∷ [])) ++ spans_of ls ≡ spans_of (cond w [] (c ∷ []) ∷ ls)
      go true = refl
      go false = rw h
  start_kept (d ∷ ds) ls = rw h

  view_kept : (e : ℕ) (ls : List (List Placed)) → view s opening e (onto c ls) ≡ kept_lines s (onto c ls)
  unfolding view onto kept_lines trim_back
  view_kept e [] = refl
  view_kept e (l ∷ []) = refl
  view_kept e (l ∷ m ∷ ms) = start_kept (trim_back l) (later_lines (m ∷ ms))

end_kept : (s : Span) (e : ℕ) (ls : List (List Placed)) → 0 < length ls → view s opening e ([] ∷ ls) ≡ kept_lines s ([] ∷ ls)
unfolding view from_start kept_lines trim_back spans_of
end_kept s e [] h = absurd (omega arith)
end_kept s e (l ∷ ls) h = refl

kept_from : (s : Span) (c : Placed) (cs : List Placed) → c.at ≡ s.start
    → lines_from s opening s.start (c ∷ cs) ≡ kept_lines s (lines_of (c ∷ cs))
unfolding lines_of
kept_from s c cs h =
    fold_view s opening s.start (c ∷ cs) ∙ go (is_line_terminator c.code)
  where
    go : (t : Bool) → view s opening s.start (cond t ([] ∷ lines_of cs) (onto c (lines_of cs)))
        ≡ kept_lines s (cond t ([] ∷ lines_of cs) (onto c (lines_of cs)))
    go true = end_kept s s.start (lines_of cs) (lines_some cs)
    go false = view_kept s c h s.start (lines_of cs)

kept_bytes : (s : Span) (l : List ℕ)
    → lines_from s opening s.start (chars_from 0 s.start l) ≡ kept_lines s (lines_of (chars_from 0 s.start l))
unfolding chars_from lines_from lines_of at_end kept_lines
kept_bytes s [] = refl
kept_bytes s (b ∷ l) =
    kept_from s (record { at = s.start; code = front_code (b ∷ l); next = s.start + width (b ∷ l) })
    (chars_from (width (b ∷ l) - 1) (suc s.start) l) refl

pub fold_text : (text : List ℕ) (s : Span) → lines_from s opening s.start (chars_from 0 s.start (part_of text s)) ≡ jsx_text text s
unfolding jsx_text
fold_text text s = kept_bytes s (part_of text s)
