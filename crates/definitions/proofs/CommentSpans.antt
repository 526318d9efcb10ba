-- The spans that comments set are borne out by a well-formed text: a value begins behind a blank and ends at white space or at its comment's end.
--     InOrder, in_order_bounds, order_of           a span inside the text that cuts no character
--     ascii_uncut, after_ascii              no character is cut before or behind a byte below 80
--     place_at                              what a search from a place on found
--     pragma_behind, value_begins, value_ends     where a pragma's value stands in its comment
--     Borne, comments_borne                 comments keep the options' spans borne out
-- Assumes nothing.
use Rattle.std.specs.Prelude.{None, Option, Some}
use mathlib.Core.Path.{◌≡◌, refl, sym, ap, ◌∙◌}
use mathlib.Core.Bool.{Bool, true, false, cond, not, ◌&&◌, ◌||◌}
use mathlib.Core.List.{List, [], ◌∷◌}
use Prim.Native.Nat.{ℕ, zero, suc, ◌+◌, ◌-◌, ◌≤◌, ◌<◌}
use native.Mathlib.Omega.{arith}
use lib.ListN.{length, take, drop, get_or, length-take, length-drop}
use lib.Seq.{get_or-take, get_or-drop, take-length, length-take-le, drop-cons}
use lib.Dec.{eqb, leb, ltb}
use borrow.Author.Tests.{eqb-true, eqb-false, ltb-false, le-ltb, leb-true, lt-leb, not-false}
use Rattle.text.specs.declared.spans.Span.{Span}
use Rattle.text.specs.declared.spans.Bounds.TheVariants as bounds
use Rattle.text.specs.Bytes.{find_from}
use Rattle.text.specs.Utf8.{first_ill, width}
use Rattle.text.specs.Spans.{part_of, cuts_at, bounds_of, is_boundary}
use Rattle.text.proofs.Searching.{Hit, find_at, find_found}
use Rattle.text.proofs.Rows.{by_row}
use Rattle.text.proofs.Boundaries.{cuts_boundary, boundary_next}
use Rattle.definitions.specs.declared.options.Options.{Options}
use Rattle.definitions.specs.Comments.{is_blank, is_white, is_at, place_from, or_else, Keyword, jsx, frag, import_source, runtime, unknown, keyword_of}
use Rattle.definitions.specs.Comments.{Search, pragma, nothing, counts, on_keyword, on_word, on_sign, seek, value_start, value_of, sets_pair, applied}
use Rattle.definitions.specs.Comments.{on_value, on_search, comment_from, with_comment, with_comments}
use Rattle.definitions.specs.States.{in_order, borne_out, spans_borne_out}
use Rattle.definitions.proofs.Counting.{never, both}

-- ---- spans in order

pub record InOrder (text : List ℕ) (s : Span) : Type 0 where
  pub inside : s.start + s.len ≤ length text
  pub begins : cuts_at text s.start ≡ false
  pub ends : cuts_at text (s.start + s.len) ≡ false

pub in_order_bounds : (text : List ℕ) (s : Span) → in_order (bounds_of text s) ≡ true → InOrder text s
unfolding bounds_of in_order
in_order_bounds text s h =
    go (ltb (length text) (s.start + s.len)) refl (cuts_at text s.start) refl (cuts_at text (s.start + s.len)) refl h
  where
    go : (o : Bool) → ltb (length text) (s.start + s.len) ≡ o → (a : Bool) → cuts_at text s.start ≡ a → (b : Bool) → cuts_at text (s.start + s.len) ≡ b
        → in_order (cond o bounds.Outside (cond (a || b) bounds.Cuts (cond (eqb s.len 0) bounds.Empty bounds.Good))) ≡ true
        → InOrder text s
    go true p a q b r h = never h
    go false p true q b r h = never h
    go false p false q true r h = never h
    go false p false q false r h = record { inside = ltb-false (length text) (s.start + s.len) p; begins = q; ends = r }

pub order_of : (text : List ℕ) (s : Span) → InOrder text s → in_order (bounds_of text s) ≡ true
unfolding bounds_of in_order
order_of text s h = rw (le-ltb (length text) (s.start + s.len) h.inside, h.begins, h.ends) (go (eqb s.len 0))
  where
    go : (b : Bool) → in_order (cond b bounds.Empty bounds.Good) ≡ true
    go true = refl
    go false = refl

-- ---- bytes below 80

blank_ascii : (b : ℕ) → is_blank b ≡ true → b < 0x80
blank_ascii b h = go (eqb b 0x20) refl h
  where
    go : (t : Bool) → eqb b 0x20 ≡ t → (t || eqb b 0x09) ≡ true → b < 0x80
    go true e h = omega (arith, eqb-true b 0x20 e)
    go false e h = omega (arith, eqb-true b 0x09 h)

white_ascii : (b : ℕ) → is_white b ≡ true → b < 0x80
white_ascii b h = go (leb 0x09 b && leb b 0x0d) refl h
  where
    go : (t : Bool) → (leb 0x09 b && leb b 0x0d) ≡ t → (t || eqb b 0x20) ≡ true → b < 0x80
    go true e h = omega (arith, leb-true b 0x0d (both (leb 0x09 b) (leb b 0x0d) e).1)
    go false e h = omega (arith, eqb-true b 0x20 h)

-- where a byte below 80 stands, no character is cut
pub ascii_uncut : (text : List ℕ) (p : ℕ) → get_or text p 0 < 0x80 → cuts_at text p ≡ false
unfolding cuts_at
ascii_uncut text p h = rw (lt-leb 0x80 (get_or text p 0) h) (go (ltb p (length text)))
  where
    go : (b : Bool) → (b && false) ≡ false
    go true = refl
    go false = refl

-- nor behind it, in a well-formed text
pub after_ascii : (text : List ℕ) (p : ℕ) → first_ill text ≡ None → p < length text → get_or text p 0 < 0x80 → cuts_at text (p + 1) ≡ false
after_ascii text p good h k = cuts_boundary text (p + 1) good (omega arith) ∙ rw (rw one at next)
  where
    here : is_boundary text p ≡ true
    here = not-false (is_boundary text p) (sym (cuts_boundary text p good (omega arith)) ∙ ascii_uncut text p k)

    one : width (drop p text) ≡ 1
    one = rw (drop-cons text p 0 h) (sym (by_row (get_or text p 0 ∷ drop (suc p) text) 0 (omega arith, tt, omega arith, omega arith)))

    next : is_boundary text (p + width (drop p text)) ≡ true
    next = boundary_next text p here

-- ---- what a search from a place on found

module _ (p : ℕ → Bool) (c : List ℕ) (i j : ℕ) where
  pub record PlaceAt : Type 0 where
    pub from : i ≤ j
    pub inside : j < length c
    pub passes : p (get_or c j 0) ≡ true
    pub before : (k : ℕ) → i ≤ k → k < j → p (get_or c k 0) ≡ false

  pub place_at : place_from p c i ≡ Some j → PlaceAt
  place_at e =
      record {
        from = t.0;
        inside = omega (arith, t.1.inside, length-drop i c);
        passes = rw (there (j - i) j (omega (arith, t.0))) at t.1.passes;
        before = λ k l h. rw (there (k - i) k (omega arith)) at (t.1.before (k - i) (omega arith));
      }
    where
      t : (i ≤ j) × Hit p (drop i c) (j - i)
      t = find_at p (drop i c) i j e

      there : (n k : ℕ) → i + n ≡ k → get_or (drop i c) n 0 ≡ get_or c k 0
      there n k q = get_or-drop i c n 0 ∙ ap (λ (m : ℕ). get_or c m 0) q

-- ---- where a value stands in its comment

-- the place behind a blank
pub record Behind (c : List ℕ) (j : ℕ) : Type 0 where
  pub place : ℕ
  pub next : place + 1 ≡ j
  pub inside : place < length c
  pub blank : is_blank (get_or c place 0) ≡ true

no_pragma : {A : Type 0} (k : Keyword) (j : ℕ) → nothing ≡ pragma k j → A
no_pragma k j e = let z : ◌≡◌ {A = ℕ} 0 1 = cc in absurd (omega arith)

-- a pragma's keyword ends with a blank
pub pragma_behind : (n : ℕ) (c : List ℕ) (i : ℕ) (k : Keyword) (j : ℕ) → seek n c i ≡ pragma k j → Behind c j
unfolding seek on_sign on_word on_keyword
pragma_behind zero c i k j e = no_pragma k j e
pragma_behind (suc n) c i k j e = by_sign (place_from is_at c i) e (λ m h. pragma_behind n c m k j h)
  where
    known : (w end : ℕ) (x : Keyword) → place_from is_blank c w ≡ Some end → pragma x (end + 1) ≡ pragma k j → Behind c j
    known w end x f e =
        let t = place_at is_blank c w end f in
        let q : end + 1 ≡ j = cc in
        record { place = end; next = q; inside = t.inside; blank = t.passes }

    by_keyword : (w end : ℕ) (x : Keyword) → place_from is_blank c w ≡ Some end → on_keyword x (end + 1) (λ m. seek n c m) ≡ pragma k j
        → ((m : ℕ) → seek n c m ≡ pragma k j → Behind c j) → Behind c j
    by_keyword w end unknown f e ih = ih (end + 1) e
    by_keyword w end jsx f e ih = known w end jsx f e
    by_keyword w end frag f e ih = known w end frag f e
    by_keyword w end import_source f e ih = known w end import_source f e
    by_keyword w end runtime f e ih = known w end runtime f e

    by_word : (w : ℕ) (f : Option ℕ) → place_from is_blank c w ≡ f → on_word c w f (λ m. seek n c m) ≡ pragma k j
        → ((m : ℕ) → seek n c m ≡ pragma k j → Behind c j) → Behind c j
    by_word w (Some end) f e ih = by_keyword w end (keyword_of (take (end - w) (drop w c))) f e ih
    by_word w None f e ih = no_pragma k j e

    on_counted : (sign : ℕ) (b : Bool)
        → cond b (on_word c (sign + 4) (place_from is_blank c (sign + 4)) (λ m. seek n c m)) (seek n c (sign + 1)) ≡ pragma k j
        → ((m : ℕ) → seek n c m ≡ pragma k j → Behind c j) → Behind c j
    on_counted sign true e ih = by_word (sign + 4) (place_from is_blank c (sign + 4)) refl e ih
    on_counted sign false e ih = ih (sign + 1) e

    by_sign : (f : Option ℕ) → on_sign c i f (λ m. seek n c m) ≡ pragma k j → ((m : ℕ) → seek n c m ≡ pragma k j → Behind c j) → Behind c j
    by_sign None e ih = no_pragma k j e
    by_sign (Some sign) e ih = on_counted sign (counts c i sign) e ih

-- the first byte behind blanks stands behind a blank
pub value_begins : (c : List ℕ) (j : ℕ) → Behind c j → value_start c j < length c → Behind c (value_start c j)
unfolding or_else
value_begins c j b h =
    go (place_from (λ x. not (is_blank x)) c j) refl h
  where
    go : (f : Option ℕ) → place_from (λ x. not (is_blank x)) c j ≡ f → or_else (length c) f < length c → Behind c (or_else (length c) f)
    go None e h = absurd (omega arith)
    go (Some i) e h = at_first (eqb i j) refl
      where
        t : PlaceAt (λ x. not (is_blank x)) c j i
        t = place_at (λ x. not (is_blank x)) c j i e

        at_first : (q : Bool) → eqb i j ≡ q → Behind c i
        at_first true q =
            record { place = b.place; next = b.next ∙ sym (eqb-true i j q); inside = b.inside; blank = b.blank }
        at_first false q =
            let l : j < i = omega (arith, t.from, eqb-false i j q) in
            record {
              place = i - 1;
              next = omega arith;
              inside = omega arith;
              blank = not-false (is_blank (get_or c (i - 1) 0)) (t.before (i - 1) (omega arith) (omega arith));
            }

-- behind a value the comment ends, or white space stands there
pub value_ends : (c : List ℕ) (i : ℕ) → i ≤ length c
    → {A : Type 0}
    → (i + length (value_of (drop i c)) ≡ length c → A)
    → (i + length (value_of (drop i c)) < length c → is_white (get_or c (i + length (value_of (drop i c))) 0) ≡ true → A)
    → A
unfolding or_else
value_ends c i h f g =
    go (find_from is_white 0 (drop i c)) refl f g
  where
    go : (w : Option ℕ) → find_from is_white 0 (drop i c) ≡ w → {A : Type 0}
        → (i + length (take (or_else (length (drop i c)) w) (drop i c)) ≡ length c → A)
        → (i + length (take (or_else (length (drop i c)) w) (drop i c)) < length c
        → is_white (get_or c (i + length (take (or_else (length (drop i c)) w) (drop i c))) 0) ≡ true → A)
        → A
    go None e f g = f (omega (arith, ap length (take-length (drop i c)), length-drop i c))
    go (Some n) e f g =
        let t = find_found is_white (drop i c) n e in
        let l : length (take n (drop i c)) ≡ n = length-take-le n (drop i c) (omega (arith, t.inside)) in
        g (omega (arith, t.inside, length-drop i c)) (rw (l, ← get_or-drop i c n 0) t.passes)

-- ---- the options' spans

pub record Borne (text : List ℕ) (o : Options) : Type 0 where
  pub pair_pragma : borne_out text o.pragma ≡ true
  pub pair_frag : borne_out text o.pragma_frag ≡ true
  pub source : borne_out text o.import_source ≡ true
  pub ts_pragma : borne_out text o.ts_pragma ≡ true
  pub ts_frag : borne_out text o.ts_pragma_frag ≡ true

pub borne_whole : (text : List ℕ) (o : Options) → Borne text o → spans_borne_out text o ≡ true
borne_whole text o h = rw (h.pair_pragma, h.pair_frag, h.source, h.ts_pragma, h.ts_frag)

module _ (text : List ℕ) where
  either_borne : (b : Bool) (x y : Option Span) → borne_out text x ≡ true → borne_out text y ≡ true → borne_out text (cond b x y) ≡ true
  either_borne true x y h k = h
  either_borne false x y h k = k

  applied_borne : (o : Options) (k : Keyword) (s : Span) (v : List ℕ) → Borne text o → borne_out text (Some s) ≡ true → Borne text (applied o k s v)
  unfolding applied
  applied_borne o jsx s v h e =
      record {
        pair_pragma = either_borne (sets_pair o.flags) (Some s) o.pragma e h.pair_pragma;
        pair_frag = h.pair_frag;
        source = h.source;
        ts_pragma = e;
        ts_frag = h.ts_frag;
      }
  applied_borne o frag s v h e =
      record {
        pair_pragma = h.pair_pragma;
        pair_frag = either_borne (sets_pair o.flags) (Some s) o.pragma_frag e h.pair_frag;
        source = h.source;
        ts_pragma = h.ts_pragma;
        ts_frag = e;
      }
  applied_borne o import_source s v h e =
      record { pair_pragma = h.pair_pragma; pair_frag = h.pair_frag; source = e; ts_pragma = h.ts_pragma; ts_frag = h.ts_frag }
  applied_borne o runtime s v h e =
      record { pair_pragma = h.pair_pragma; pair_frag = h.pair_frag; source = h.source; ts_pragma = h.ts_pragma; ts_frag = h.ts_frag }
  applied_borne o unknown s v h e = h

-- ---- a comment

module _ (text : List ℕ) (good : first_ill text ≡ None) (s : Span) (in_text : InOrder text s) where
  c : List ℕ
  c = part_of text s

  c_length : length c ≡ s.len
  unfolding c part_of
  c_length = length-take-le s.len (drop s.start text) (omega (arith, in_text.inside, length-drop s.start text))

  c_byte : (i : ℕ) → i < length c → get_or c i 0 ≡ get_or text (s.start + i) 0
  unfolding c part_of
  c_byte i h = get_or-take s.len (drop s.start text) i 0 (omega (arith, c_length)) ∙ get_or-drop s.start text i 0

  -- the span of a value
  value_in_order : (i : ℕ) → Behind c i → i < length c
      → InOrder text (record { start = s.start + i; len = length (value_of (drop i c)) })
  value_in_order i b h = value_ends c i (omega arith) at_the_end at_white
    where
      n : ℕ
      n = length (value_of (drop i c))

      begun : cuts_at text (s.start + i) ≡ false
      begun =
          let k : get_or text (s.start + b.place) 0 < 0x80 = rw (c_byte b.place b.inside) at (blank_ascii (get_or c b.place 0) b.blank) in
          let e : s.start + b.place + 1 ≡ s.start + i = omega (arith, b.next) in
          rw e at (after_ascii text (s.start + b.place) good (omega (arith, b.inside, c_length, in_text.inside)) k)

      at_the_end : i + n ≡ length c → InOrder text (record { start = s.start + i; len = n })
      at_the_end e =
          let q : s.start + i + n ≡ s.start + s.len = omega (arith, c_length) in
          record { inside = omega (arith, in_text.inside); begins = begun; ends = rw q in_text.ends }

      at_white : i + n < length c → is_white (get_or c (i + n) 0) ≡ true → InOrder text (record { start = s.start + i; len = n })
      at_white l e =
          let k : get_or text (s.start + (i + n)) 0 < 0x80 = rw (c_byte (i + n) l) at (white_ascii (get_or c (i + n) 0) e) in
          let q : s.start + (i + n) ≡ s.start + i + n = omega arith in
          record {
            inside = omega (arith, c_length, in_text.inside);
            begins = begun;
            ends = rw q at (ascii_uncut text (s.start + (i + n)) k);
          }

  -- what is left of a comment keeps the options borne out
  from_borne : (n : ℕ) (o : Options) (i : ℕ) → Borne text o → Borne text (comment_from n o s.start c i)
  unfolding comment_from on_search on_value borne_out
  from_borne zero o i h = h
  from_borne (suc n) o i h = by_search (seek (length c) c i) refl (λ p j k. from_borne n p j k)
    where
      by_value : (k : Keyword) (j : ℕ) (v : List ℕ) → value_of (drop j c) ≡ v → (j < length c → Behind c j)
          → ((p : Options) (m : ℕ) → Borne text p → Borne text (comment_from n p s.start c m))
          → Borne text (on_value o k s.start j v (λ p m. comment_from n p s.start c m))
      by_value k j [] e b ih = h
      by_value k j (x ∷ v) e b ih =
          let l : j < length c =
          omega (arith, ap length e, length-take (or_else (length (drop j c)) (find_from is_white 0 (drop j c))) (drop j c), length-drop j c) in
          let t = rw e at (value_in_order j (b l) l) in
          ih (applied o k (record { start = s.start + j; len = length (x ∷ v) }) (x ∷ v)) (j + length (x ∷ v) + 1)
          (applied_borne text o k (record { start = s.start + j; len = length (x ∷ v) }) (x ∷ v) h
          (order_of text (record { start = s.start + j; len = length (x ∷ v) }) t))

      by_search : (f : Search) → seek (length c) c i ≡ f
          → ((p : Options) (m : ℕ) → Borne text p → Borne text (comment_from n p s.start c m))
          → Borne text (on_search o s.start c f (λ p m. comment_from n p s.start c m))
      by_search nothing e ih = h
      by_search (pragma k j) e ih =
          by_value k (value_start c j) (value_of (drop (value_start c j) c)) refl (value_begins c j (pragma_behind (length c) c i k j e)) ih

  pub comment_borne : (o : Options) → Borne text o → Borne text (with_comment text o s)
  unfolding with_comment c
  comment_borne o h = from_borne (length (part_of text s)) o 0 h

-- ---- all comments

abbrev pub AllInOrder : List ℕ → List Span → Type 0
AllInOrder text [] = Unit {0}
AllInOrder text (s ∷ ss) = InOrder text s × AllInOrder text ss

pub comments_borne : (text : List ℕ) → first_ill text ≡ None → (o : Options) (ss : List Span) → AllInOrder text ss → Borne text o
    → Borne text (with_comments text o ss)
unfolding with_comments
comments_borne text good o [] a h = h
comments_borne text good o (s ∷ ss) a h =
    comments_borne text good (with_comment text o s) ss a.1 (comment_borne text good s a.0 o h)
