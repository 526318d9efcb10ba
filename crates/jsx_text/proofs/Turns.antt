-- The loop over a text's characters: how the code's places stand for the fold's line, and what is still to be written.
--     Stands         the places of a line
--     Left           what is still to be written, and whether there is a line
--     Turn           both, at the loop's test
--     turn_..        one turn; end_.. behind the last one
-- Assumes nothing.
use Rattle.std.specs.Prelude.{None}
use mathlib.Core.Path.{◌≡◌, refl, ap, subst, ◌∙◌}
use mathlib.Core.Bool.{Bool, true, false, cond}
use mathlib.Core.List.{List, [], ◌∷◌, ◌++◌}
use Prim.Native.Nat.{ℕ, ◌+◌, ◌-◌, ◌≤◌, ◌<◌, ◌^◌, min}
use native.Mathlib.Nat.{add-zero}
use native.Mathlib.Omega.{arith}
use lib.ListN.{length, drop, length-take, length-drop, drop_of_length-le}
use Rattle.text.specs.declared.spans.Span.{Span}
use Rattle.text.specs.Utf8.{first_ill}
use Rattle.text.specs.Spans.{part_of}
use Rattle.text.proofs.Walking.{Come, come_start}
use Rattle.tape.specs.Targets.{Wrote}
use Rattle.tape.proofs.Targets.{wrote_then, wrote_length, wrote_small}
use Rattle.definitions.specs.JsxText.{chars_from, jsx_text}
use Rattle.definitions.specs.Lowering.{some_line}
use Rattle.jsx_text.specs.declared.Mark.{Mark}
use Rattle.jsx_text.specs.declared.Mark.TheVariants.{Ink, White, Terminator}
use Rattle.jsx_text.specs.declared.Texted.{Texted}
use Rattle.jsx_text.specs.Marks.{Marks}
use Rattle.jsx_text.specs.TextBytes.{text_bytes, line_bytes, end_bytes}
use Rattle.jsx_text.proofs.Unbound.{rest_bytes, rest_line, rest_end}
use Rattle.jsx_text.proofs.Folding.{Line, opening, blank, inked, with_ink, ended, at_end, lines_from, fold_text}
use Rattle.jsx_text.proofs.Characters.{rest_from, on_mark, size_of, Passed, passed}

-- ---- what is still to be written

-- all the lines are written from at₀ on into a target that held o₀, where these are written from here on
pub record Left (all : List Span) (o₀ : List ℕ) (at₀ : ℕ) (o : List ℕ) (t : Texted) (rest : List Span) : Type 0 where
  pub long : length o ≡ length o₀
  pub small : t.at ≤ 2 ^ 63
  pub onward : (o' : List ℕ) (r : ℕ) → Wrote o o' t.at r (rest_bytes t.survives rest) → Wrote o₀ o' at₀ r (text_bytes all)
  pub some : some_line all ≡ cond t.survives 1 (some_line rest)

-- a place past the last stops there
left_start : (all : List Span) (o : List ℕ) (at : ℕ) → length o ≤ 2 ^ 63 → Left all o at o (record { at = min at (2 ^ 63); survives = false }) all
unfolding rest_bytes
left_start all o at short =
    let w₀ : Wrote o o at (min at (2 ^ 63)) [] = record { next = omega arith; holds = refl } in
    record { long = refl; small = omega arith; onward = λ o' r w. wrote_then short w₀ w; some = refl }

module _ (all : List Span) (o₀ : List ℕ) (at₀ : ℕ) (o : List ℕ) (t : Texted) where
  pub left_line : (x : Span) (rest : List Span) → Left all o₀ at₀ o t (x ∷ rest) → (o₁ : List ℕ) (u : Texted) → length o₀ ≤ 2 ^ 63
      → Wrote o o₁ t.at u.at (line_bytes t.survives x) → u.survives ≡ true → Left all o₀ at₀ o₁ u rest
  unfolding some_line
  left_line x rest l o₁ u short w e = record {
    long = wrote_length w ∙ l.long;
    small = wrote_small w;
    onward = λ o' r v. l.onward o' r (rw (rest_line t.survives x rest) (wrote_then (omega (arith, l.long)) w (rw e at v)));
    some = l.some ∙ go t.survives ∙ rw e;
  }
    where
      go : (b : Bool) → ◌≡◌ {A = ℕ} (cond b 1 1) 1
      go true = refl
      go false = refl

  pub left_end : Left all o₀ at₀ o t [] → (o₁ : List ℕ) (u : Texted) → Wrote o o₁ t.at u.at (end_bytes t.survives)
      → u.survives ≡ t.survives → Wrote o₀ o₁ at₀ u.at (text_bytes all) × (some_line all ≡ cond u.survives 1 0)
  unfolding some_line
  left_end l o₁ u w e = (l.onward o₁ u.at (rw (rest_end t.survives) w), rw e l.some)

-- ---- how the line stands

-- the present line by the code's places, in a text of n bytes whose first i are passed
unfoldable pub Stands : Span → ℕ → ℕ → ℕ → ℕ → Line → Type 0
Stands s n i first last opening = (first ≡ 0) × (last ≡ 0)
Stands s n i first last blank = (first ≡ n) × (last ≤ i) × (0 < i)
Stands s n i first last (inked true a z) = (first ≡ 0) × (0 < last) × (last ≤ i) × (a ≡ s.start) × (z ≡ s.start + last)
Stands s n i first last (inked false a z) = (0 < first) × (first < last) × (last ≤ i) × (a ≡ s.start + first) × (z ≡ s.start + last)

span_path : {a b x y : ℕ} → a ≡ b → x ≡ y → ◌≡◌ {A = Span} (record { start = a; len = x }) (record { start = b; len = y })
span_path p q = λ ι. record { start = p ι; len = q ι }

module _ (s : Span) (n i first last : ℕ) where
  stands_ink : (w : ℕ) (l : Line) → Stands s n i first last l → i < n → 0 < w
      → Stands s n (i + w) (min first i) (i + w) (with_ink s l (s.start + i) (s.start + (i + w)))
  unfolding Stands with_ink
  stands_ink w opening h k p = omega arith
  stands_ink w blank h k p = omega arith
  stands_ink w (inked true a z) h k p = omega arith
  stands_ink w (inked false a z) h k p = omega arith

  stands_white : (w : ℕ) (l : Line) → Stands s n i first last l → Stands s n (i + w) first last l
  unfolding Stands
  stands_white w opening h = h
  stands_white w blank h = omega arith
  stands_white w (inked true a z) h = omega arith
  stands_white w (inked false a z) h = omega arith

  last_passed : (l : Line) → Stands s n i first last l → last ≤ i
  unfolding Stands
  last_passed opening h = omega arith
  last_passed blank h = omega arith
  last_passed (inked true a z) h = omega arith
  last_passed (inked false a z) h = omega arith

  ended_line : (l : Line) → Stands s n i first last l → i ≤ n → first < last
      → ended l ≡ record { start = s.start + first; len = last - first } ∷ []
  unfolding Stands ended
  ended_line opening h k p = absurd (omega arith)
  ended_line blank h k p = absurd (omega arith)
  ended_line (inked true a z) h k p = ap (λ (r : Span). r ∷ []) (span_path (omega arith) (omega arith))
  ended_line (inked false a z) h k p = ap (λ (r : Span). r ∷ []) (span_path (omega arith) (omega arith))

  ended_blank : (l : Line) → Stands s n i first last l → last ≤ first → ended l ≡ []
  unfolding Stands ended
  ended_blank opening h p = refl
  ended_blank blank h p = refl
  ended_blank (inked true a z) h p = absurd (omega arith)
  ended_blank (inked false a z) h p = absurd (omega arith)

  -- behind the last character
  end_first : (l : Line) → Stands s n i first last l → i ≡ n → first ≡ 0 → at_end s l (s.start + i) ≡ s ∷ []
  unfolding Stands at_end
  end_first opening h e p = refl
  end_first blank h e p = absurd (omega arith)
  end_first (inked true a z) h e p = refl
  end_first (inked false a z) h e p = absurd (omega arith)

  end_later : (l : Line) → Stands s n i first last l → i ≡ n → (first ≡ 0 → ⊥) → first < n
      → at_end s l (s.start + i) ≡ record { start = s.start + first; len = n - first } ∷ []
  unfolding Stands at_end
  end_later opening h e p q = absurd (omega arith)
  end_later blank h e p q = absurd (omega arith)
  end_later (inked true a z) h e p q = absurd (omega arith)
  end_later (inked false a z) h e p q = ap (λ (r : Span). r ∷ []) (span_path (omega arith) (omega arith))

  end_blank : (l : Line) → Stands s n i first last l → i ≡ n → (first ≡ 0 → ⊥) → n ≤ first → at_end s l (s.start + i) ≡ []
  unfolding Stands at_end
  end_blank opening h e p q = absurd (omega arith)
  end_blank blank h e p q = refl
  end_blank (inked true a z) h e p q = absurd (omega arith)
  end_blank (inked false a z) h e p q = absurd (omega arith)

-- ---- a turn of the loop

pub record Turn (s : Span) (chars : List ℕ) (all : List Span) (o₀ : List ℕ) (at₀ : ℕ) (o : List ℕ) (t : Texted) (first last i : ℕ) : Type 0 where
  pub line : Line
  pub stands : Stands s (length chars) i first last line
  pub come : Come chars i
  pub left : Left all o₀ at₀ o t (rest_from s chars line i)

rest_start : (text : List ℕ) (s : Span) → rest_from s (part_of text s) opening 0 ≡ jsx_text text s
unfolding rest_from
rest_start text s = rw (add-zero s.start) (fold_text text s)

pub turn_start : (text : List ℕ) (s : Span) (o : List ℕ) (at : ℕ) → length o ≤ 2 ^ 63
    → Turn s (part_of text s) (jsx_text text s) o at o (record { at = min at (2 ^ 63); survives = false }) 0 0 0
unfolding Stands
turn_start text s o at short = record {
  line = opening;
  stands = (refl, refl);
  come = come_start (part_of text s);
  left = rw (rest_start text s) (left_start (jsx_text text s) o at short);
}

module _ (s : Span) (chars : List ℕ) (all : List Span) (o₀ : List ℕ) (at₀ : ℕ) (o : List ℕ) (t : Texted) (first last i : ℕ)
    (turn : Turn s chars all o₀ at₀ o t first last i) where
  module _ (good : first_ill chars ≡ None) (h : i < length chars) (m : Mark) (marks : Marks chars i m) (w : ℕ) where
    pass : (k : Mark) → m ≡ k → Passed s chars turn.line i k
    pass k e = subst (Passed s chars turn.line i) e (passed s chars turn.line i good turn.come h m marks)

    pub turn_moves : (k : Mark) → m ≡ k → size_of k ≡ w → (0 < w) × (i + w ≤ length chars)
    turn_moves k e f = rw (← f) ((pass k e).some, (pass k e).come.inside)

    pub turn_ink : m ≡ Ink w → Turn s chars all o₀ at₀ o t (min first i) (i + w) (i + w)
    unfolding on_mark size_of
    turn_ink e = let p = pass (Ink w) e in record {
      line = with_ink s turn.line (s.start + i) (s.start + (i + w));
      stands = stands_ink s (length chars) i first last w turn.line turn.stands h p.some;
      come = p.come;
      left = rw p.same at turn.left;
    }

    pub turn_white : m ≡ White w → Turn s chars all o₀ at₀ o t first last (i + w)
    unfolding on_mark size_of
    turn_white e = let p = pass (White w) e in record {
      line = turn.line;
      stands = stands_white s (length chars) i first last w turn.line turn.stands;
      come = p.come;
      left = rw p.same at turn.left;
    }

    module _ (e : m ≡ Terminator w) where
      -- the line ends, and what is left begins with it
      end_line : Left all o₀ at₀ o t (ended turn.line ++ rest_from s chars blank (i + w))
      unfolding on_mark
      end_line = rw (pass (Terminator w) e).same at turn.left

      next_line : Stands s (length chars) (i + w) (length chars) last blank
      unfolding Stands size_of
      next_line =
          (refl, omega (arith, last_passed s (length chars) i first last turn.line turn.stands), omega (arith, (pass (Terminator w) e).some))

      pub turn_blank : last ≤ first → Turn s chars all o₀ at₀ o t (length chars) last (i + w)
      unfolding size_of
      turn_blank k = record {
        line = blank;
        stands = next_line;
        come = (pass (Terminator w) e).come;
        left = rw (ended_blank s (length chars) i first last turn.line turn.stands k) at end_line;
      }

      pub turn_line : first < last → (x : Span) → x ≡ record { start = s.start + first; len = last - first } → (o₁ : List ℕ) (u : Texted)
          → length o₀ ≤ 2 ^ 63 → Wrote o o₁ t.at u.at (line_bytes t.survives x) → u.survives ≡ true
          → Turn s chars all o₀ at₀ o₁ u (length chars) last (i + w)
      unfolding size_of
      turn_line k x f o₁ u short wrote g = record {
        line = blank;
        stands = next_line;
        come = (pass (Terminator w) e).come;
        left = left_line all o₀ at₀ o t x (rest_from s chars blank (i + w)) (rw (line, ← f) at end_line) o₁ u short wrote g;
      }
        where
          line : ended turn.line ≡ record { start = s.start + first; len = last - first } ∷ []
          line = ended_line s (length chars) i first last turn.line turn.stands turn.come.inside k

  pub last_inside : last ≤ length chars
  last_inside = omega (arith, last_passed s (length chars) i first last turn.line turn.stands, turn.come.inside)

  -- ---- behind the last character
  module _ (h : length chars ≤ i) where
    all_passed : i ≡ length chars
    all_passed = omega (arith, turn.come.inside)

    at_the_end : Left all o₀ at₀ o t (at_end s turn.line (s.start + i))
    unfolding rest_from chars_from lines_from
    at_the_end = rw (drop_of_length-le chars h) at turn.left

    pub end_whole : first ≡ 0 → Left all o₀ at₀ o t (s ∷ [])
    end_whole k = rw (end_first s (length chars) i first last turn.line turn.stands all_passed k) at at_the_end

    pub end_with_line : (first ≡ 0 → ⊥) → first < length chars → (x : Span) → x ≡ record { start = s.start + first; len = length chars - first }
        → Left all o₀ at₀ o t (x ∷ [])
    end_with_line k q x f = rw (end_later s (length chars) i first last turn.line turn.stands all_passed k q, ← f) at at_the_end

    pub end_with_none : (first ≡ 0 → ⊥) → length chars ≤ first → Left all o₀ at₀ o t []
    end_with_none k q = rw (end_blank s (length chars) i first last turn.line turn.stands all_passed k q) at at_the_end

-- a part that is not empty is within the text
pub part_inside : (text : List ℕ) (s : Span) → 0 < length (part_of text s) → s.start + length (part_of text s) ≤ length text
unfolding part_of
part_inside text s h = omega (arith, length-take s.len (drop s.start text), length-drop s.start text)
