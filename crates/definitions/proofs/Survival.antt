-- Which children survive: a text keeps a line exactly if it is one line or has a character that is no white space, so lowering counts the children that
-- demand 3 counts.
--     front_inked, back_inked     a trimmed line is empty exactly if it was white
--     Lines, lines_of_each             the lines of a text, with what they say of it
--     text_survives_line               a text's lines
--     survivors_surviving         both counts agree
-- Assumes nothing.
use mathlib.Core.Path.{◌≡◌, refl, ap}
use mathlib.Core.Bool.{Bool, true, false, cond, not, ◌||◌}
use mathlib.Core.List.{List, [], ◌∷◌}
use Prim.Native.Nat.{ℕ, suc, ◌+◌}
use native.Mathlib.Omega.{arith}
use Rattle.text.specs.declared.spans.Span.{Span}
use Rattle.text.specs.Chars.{is_white_space, is_line_terminator}
use Rattle.text.specs.Spans.{part_of}
use Rattle.definitions.specs.Tree.{Children, no_children, text_child, expression_child, empty_child, spread_child, node_child}
use Rattle.definitions.specs.Pragmas.{onto}
use Rattle.definitions.specs.JsxText.{Placed, chars_from, lines_of, trim_front, before_trimmed, trim_back, later_lines, spans_of, kept_lines, jsx_text}
use Rattle.definitions.specs.Lowering.{Context, some_line, survivors}
use Rattle.definitions.specs.Callees.{one_line, any_ink, text_survives, surviving}

-- ---- lines

-- a line has a character that is no white space
inked : List Placed → Bool
inked [] = false
inked (c ∷ cs) = not (is_white_space c.code) || inked cs

any_inked : List (List Placed) → Bool
any_inked [] = false
any_inked (l ∷ ls) = inked l || any_inked ls

filled : List Placed → Bool
filled [] = false
filled (c ∷ cs) = true

front_inked : (l : List Placed) → filled (trim_front l) ≡ inked l
unfolding inked filled trim_front
front_inked [] = refl
front_inked (c ∷ cs) = go (is_white_space c.code) (front_inked cs)
  where
    go : (b : Bool) → filled (trim_front cs) ≡ inked cs → filled (cond b (trim_front cs) (c ∷ cs)) ≡ (not b || inked cs)
    go true ih = ih
    go false ih = refl

front_same : (l : List Placed) → inked (trim_front l) ≡ inked l
unfolding inked trim_front
front_same [] = refl
front_same (c ∷ cs) = go (is_white_space c.code) refl (front_same cs)
  where
    go : (b : Bool) → is_white_space c.code ≡ b → inked (trim_front cs) ≡ inked cs → inked (cond b (trim_front cs) (c ∷ cs)) ≡ (not b || inked cs)
    go true e ih = ih
    go false e ih = rw e

back_inked : (l : List Placed) → filled (trim_back l) ≡ inked l
unfolding inked filled trim_back before_trimmed
back_inked [] = refl
back_inked (c ∷ cs) = go (trim_back cs) (is_white_space c.code) refl (back_inked cs)
  where
    go : (t : List Placed) (b : Bool) → is_white_space c.code ≡ b → filled t ≡ inked cs → filled (before_trimmed c t) ≡ (not b || inked cs)
    go [] true e ih = rw e ih
    go [] false e ih = rw e
    go (d ∷ ds) true e ih = ih
    go (d ∷ ds) false e ih = refl

-- a line of which something is left makes a span
spans_inked : (l : List Placed) (ls : List (List Placed)) (b : Bool) → some_line (spans_of ls) ≡ cond b 1 0
    → some_line (spans_of (l ∷ ls)) ≡ cond (filled l || b) 1 0
unfolding spans_of some_line filled
spans_inked [] ls b h = h
spans_inked (c ∷ cs) ls b h = refl

later_inked : (ls : List (List Placed)) → some_line (spans_of (later_lines ls)) ≡ cond (any_inked ls) 1 0
unfolding later_lines any_inked spans_of some_line
later_inked [] = refl
later_inked (l ∷ []) = rw (← front_inked l) (spans_inked (trim_front l) [] false refl)
later_inked (l ∷ m ∷ ms) =
    rw (← front_same l, ← back_inked (trim_front l))
    (spans_inked (trim_back (trim_front l)) (later_lines (m ∷ ms)) (any_inked (m ∷ ms)) (later_inked (m ∷ ms)))

-- ---- a text and its lines

is_nil : List (List Placed) → Bool
is_nil [] = true
is_nil (l ∷ ls) = false

record Lines (cs : List Placed) : Type 0 where
  first : List Placed
  others : List (List Placed)
  are : lines_of cs ≡ first ∷ others
  one : one_line cs ≡ is_nil others
  ink : any_ink cs ≡ (inked first || any_inked others)

lines_of_each : (cs : List Placed) → Lines cs
unfolding lines_of one_line any_ink inked any_inked is_nil onto
lines_of_each [] = record { first = []; others = []; are = refl; one = refl; ink = refl }
lines_of_each (c ∷ cs) = go (is_line_terminator c.code) refl (lines_of_each cs)
  where
    or_assoc : (a b d : Bool) → (a || (b || d)) ≡ (a || b || d)
    or_assoc true b d = refl
    or_assoc false b d = refl

    go : (b : Bool) → is_line_terminator c.code ≡ b → Lines cs → Lines (c ∷ cs)
    go true e r = record { first = []; others = r.first ∷ r.others; are = rw (e, r.are); one = rw e; ink = rw e r.ink }
    go false e r =
        record {
          first = c ∷ r.first;
          others = r.others;
          are = rw (e, r.are);
          one = rw e r.one;
          ink = rw (e, r.ink) (or_assoc (not (is_white_space c.code)) (inked r.first) (any_inked r.others));
        }

kept_survive : (s : Span) (cs : List Placed) → some_line (kept_lines s (lines_of cs)) ≡ cond (one_line cs || any_ink cs) 1 0
unfolding kept_lines some_line is_nil
kept_survive s cs = let r = lines_of_each cs in rw (r.are, r.one, r.ink) (go r.first r.others)
  where
    go : (l : List Placed) (ls : List (List Placed)) → some_line (kept_lines s (l ∷ ls)) ≡ cond (is_nil ls || (inked l || any_inked ls)) 1 0
    go l [] = refl
    go l (m ∷ ms) = rw (← back_inked l) (spans_inked (trim_back l) (later_lines (m ∷ ms)) (any_inked (m ∷ ms)) (later_inked (m ∷ ms)))

pub text_survives_line : (text : List ℕ) (s : Span) → some_line (jsx_text text s) ≡ cond (text_survives text s) 1 0
unfolding jsx_text
text_survives_line text s = kept_survive s (chars_from 0 s.start (part_of text s))

-- ---- children

pub survivors_surviving : (c : Context) (k : Children) → survivors c k ≡ surviving c.text k
unfolding survivors surviving
survivors_surviving c no_children = refl
survivors_surviving c (text_child s k) = rw (text_survives_line c.text s, survivors_surviving c k) (go (text_survives c.text s))
  where
    go : (b : Bool) → cond b 1 0 + surviving c.text k ≡ cond b (suc (surviving c.text k)) (surviving c.text k)
    go true = omega arith
    go false = omega arith
survivors_surviving c (expression_child e k) = ap suc (survivors_surviving c k)
survivors_surviving c (empty_child k) = survivors_surviving c k
survivors_surviving c (spread_child e k) = ap suc (survivors_surviving c k)
survivors_surviving c (node_child n k) = ap suc (survivors_surviving c k)
