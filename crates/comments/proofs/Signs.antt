-- The pragma search, from at sign to at sign.
--     jsx_here, jsx_absent   four bytes as a number tell whether they are `@jsx`
--     seek_short             fewer than four bytes hold no pragma
--     Scanned                the keyword isn't ended before a place; each byte of it is a law from Scanned to Scanned (scan_on) or to where it ends
--                            (scan_hit, scan_none)
--     Reach                  the search from a place is the one that goes on at a later place; each event of the loop is a law from Reach to
--                            Reach (reject, unknown) or to the answer (none, cut, no_word, known)
--     seek_after             a pragma is found behind the place where the search begins, and within the comment
-- Assumes nothing.
use Rattle.std.specs.Prelude.{None, Option, Some}
use mathlib.Core.Path.{◌≡◌, refl, sym, ap, ◌∙◌}
use mathlib.Core.Bool.{Bool, true, false, cond, and-false}
use mathlib.Core.List.{List, [], ◌∷◌}
use Prim.Native.Nat.{ℕ, zero, suc, ◌+◌, ◌-◌, ◌≤◌, ◌<◌}
use native.Mathlib.Omega.{arith}
use lib.ListN.{length, take, drop, get_or, length-take, length-drop}
use lib.Dec.{ltb}
use borrow.Author.Tests.{ltb-true, ltb-false}
use Rattle.definitions.specs.Comments.{is_at, is_blank, place_from, Keyword, jsx, frag, import_source, runtime, unknown, keyword_of, Search, pragma}
use Rattle.definitions.specs.Comments.{nothing, counts, on_keyword, on_word, on_sign, seek}
use Rattle.text.specs.Bytes.{ascii, same}
use Rattle.tape.specs.Numbers.{u32_at}
use Rattle.text.proofs.Lists.{drop_one}
use Rattle.text.proofs.Comparing.{same_lengths, same_eq}
use Rattle.text.proofs.Searching.{find_at, find_hit, find_step, find_end}
use Rattle.comments.specs.declared.PragmaType.{PragmaType}
use Rattle.comments.specs.declared.PragmaType.TheVariants.{Jsx, JsxRuntime, JsxImportSource, JsxFrag}
use Rattle.comments.specs.Searches.{stands, begins, four_at, known_for}

-- ---- places
pub place_range : (p : ℕ → Bool) (c : List ℕ) (i j : ℕ) → place_from p c i ≡ Some j → (i ≤ j) × (j < length c)
place_range p c i j e =
    let r = find_at p (drop i c) i j e in
    (r.0, omega (arith, r.0, r.1.inside, length-drop i c))

-- ---- the four bytes ahead: whether they are there, and which
module _ (c : List ℕ) (i : ℕ) where
  pub four_here : (n : ℕ) → four_at c i ≡ Some n → (4 ≤ length c - i) × (u32_at c i ≡ n)
  unfolding four_at
  four_here n e = go (ltb (length c - i) 4) refl e
    where
      go : (t : Bool) → ltb (length c - i) 4 ≡ t → cond t None (Some (u32_at c i)) ≡ Some n → (4 ≤ length c - i) × (u32_at c i ≡ n)
      go true h q = let z : ◌≡◌ {A = ℕ} 0 1 = cc in absurd (omega arith)
      go false h q = (ltb-false (length c - i) 4 h, cc)

  pub four_none : four_at c i ≡ None → length c - i < 4
  unfolding four_at
  four_none e = go (ltb (length c - i) 4) refl e
    where
      go : (t : Bool) → ltb (length c - i) 4 ≡ t → cond t None (Some (u32_at c i)) ≡ None → length c - i < 4
      go true h q = ltb-true (length c - i) 4 h
      go false h q = let z : ◌≡◌ {A = ℕ} 0 1 = cc in absurd (omega arith)

  no_room : length c - i < 4 → begins c i ≡ false
  unfolding begins
  no_room h = same_lengths (take 4 (drop i c)) (ascii "@jsx") (λ (e : length (take 4 (drop i c)) ≡ 4). omega (arith, length-take 4 (drop i c), length-drop i c))

  module _ (room : 4 ≤ length c - i) where
    four_bytes : take 4 (drop i c) ≡ get_or c i 0 ∷ get_or c (i + 1) 0 ∷ get_or c (i + 2) 0 ∷ get_or c (i + 3) 0 ∷ []
    four_bytes =
        let two : i + 1 + 1 ≡ i + 2 = omega arith in
        let three : i + 2 + 1 ≡ i + 3 = omega arith in
        rw (drop_one c i (omega arith), drop_one c (i + 1) (omega arith), two, drop_one c (i + 2) (omega arith), three, drop_one c (i + 3) (omega arith))

    pub jsx_here : ((k : ℕ) → get_or c k 0 < 256) → u32_at c i ≡ 0x78736a40 → begins c i ≡ true
    unfolding begins
    jsx_here f e =
        let x : get_or c (i + 3) 0 ≡ 0x78 = omega (arith, f i, f (i + 1), f (i + 2)) in
        let s : get_or c (i + 2) 0 ≡ 0x73 = omega (arith, f i, f (i + 1)) in
        let j : get_or c (i + 1) 0 ≡ 0x6a = omega (arith, f i) in
        let at : get_or c i 0 ≡ 0x40 = omega arith in
        rw (four_bytes, at, j, s, x) refl

    pub jsx_absent : (u32_at c i ≡ 0x78736a40 → ⊥) → begins c i ≡ false
    unfolding begins
    jsx_absent f = go (same (take 4 (drop i c)) (ascii "@jsx")) refl
      where
        go : (t : Bool) → same (take 4 (drop i c)) (ascii "@jsx") ≡ t → t ≡ false
        go true e =
            let l : get_or c i 0 ∷ get_or c (i + 1) 0 ∷ get_or c (i + 2) 0 ∷ get_or c (i + 3) 0 ∷ [] ≡ ascii "@jsx" =
            sym four_bytes ∙ same_eq (take 4 (drop i c)) (ascii "@jsx") e in
            absurd (f (ap (λ (k : List ℕ). u32_at k 0) l))
        go false e = refl

-- ---- whether an at sign counts
module _ (c : List ℕ) (i sign : ℕ) where
  pub ill_placed : stands c i sign ≡ false → counts c i sign ≡ false
  unfolding stands counts
  ill_placed e = rw e

  pub other_word : begins c sign ≡ false → counts c i sign ≡ false
  unfolding stands begins counts
  other_word e = rw e (and-false (stands c i sign))

  pub counted : stands c i sign ≡ true → begins c sign ≡ true → counts c i sign ≡ true
  unfolding stands begins counts
  counted e f = rw (e, f)

-- ---- the keyword that begins at `first` isn't ended before `end`
pub record Scanned (c : List ℕ) (first end : ℕ) : Type 0 where
  pub behind : first ≤ end
  pub same : place_from is_blank c first ≡ place_from is_blank c end

pub scan : (c : List ℕ) (first : ℕ) → Scanned c first first
scan c first = record { behind = omega arith; same = refl }

module _ (c : List ℕ) (first end : ℕ) (s : Scanned c first end) where
  pub scan_on : end < length c → is_blank (get_or c end 0) ≡ false → Scanned c first (end + 1)
  scan_on h e = record { behind = omega (arith, s.behind); same = s.same ∙ find_step is_blank c end h e }

  pub scan_hit : end < length c → is_blank (get_or c end 0) ≡ true → place_from is_blank c first ≡ Some end
  scan_hit h e = s.same ∙ find_hit is_blank c end h e

  pub scan_none : length c ≤ end → place_from is_blank c first ≡ None
  scan_none h = s.same ∙ find_end is_blank c end h

-- ---- the search that begins at `start` goes on at i, with enough turns left
pub record Reach (c : List ℕ) (start i : ℕ) : Type 0 where
  pub turns : ℕ
  pub enough : length c ≤ turns + i
  pub same : seek (length c) c start ≡ seek turns c i

pub begin : (c : List ℕ) (start : ℕ) → Reach c start start
begin c start = record { turns = length c; enough = omega arith; same = refl }

pub seek_none : (n : ℕ) (c : List ℕ) (i : ℕ) → place_from is_at c i ≡ None → seek n c i ≡ nothing
unfolding seek on_sign
seek_none zero c i e = refl
seek_none (suc n) c i e = rw e

-- "A rejected @ is dropped and the search goes on right after it", where still fewer bytes are left
pub seek_short : (n : ℕ) (c : List ℕ) (i : ℕ) → length c - i < 4 → seek n c i ≡ nothing
unfolding seek on_sign
seek_short zero c i h = refl
seek_short (suc n) c i h = go (place_from is_at c i) refl (seek_short n c)
  where
    go : (f : Option ℕ) → place_from is_at c i ≡ f → ((j : ℕ) → length c - j < 4 → seek n c j ≡ nothing) → on_sign c i f (λ (j : ℕ). seek n c j) ≡ nothing
    go None e ih = refl
    go (Some sign) e ih =
        let later : i ≤ sign = (place_range is_at c i sign e).0 in
        rw (other_word c i sign (no_room c sign (omega arith))) (ih (sign + 1) (omega arith))

pub none : (c : List ℕ) (start i : ℕ) → Reach c start i → place_from is_at c i ≡ None → seek (length c) c start ≡ nothing
none c start i r e = r.same ∙ seek_none r.turns c i e

on_known : (k : PragmaType) (next : ℕ) (go : ℕ → Search) → on_keyword (known_for k) next go ≡ pragma (known_for k) next
unfolding on_keyword known_for
on_known Jsx next go = refl
on_known JsxRuntime next go = refl
on_known JsxImportSource next go = refl
on_known JsxFrag next go = refl

module _ (c : List ℕ) (start i sign : ℕ) (r : Reach c start i) (hit : place_from is_at c i ≡ Some sign) where
  after_sign : (m : ℕ) × (length c ≤ m + (sign + 1))
      × (seek (length c) c start ≡ on_sign c i (Some sign) (λ (j : ℕ). seek m c j))
  unfolding seek
  after_sign = go r.turns r.enough r.same
    where
      go : (n : ℕ) → length c ≤ n + i → seek (length c) c start ≡ seek n c i → (m : ℕ) × (length c ≤ m + (sign + 1))
          × (seek (length c) c start ≡ on_sign c i (Some sign) (λ (j : ℕ). seek m c j))
      go zero h e = absurd (omega (arith, place_range is_at c i sign hit))
      go (suc m) h e = (m, omega (arith, place_range is_at c i sign hit), e ∙ rw hit)

  pub reject : counts c i sign ≡ false → Reach c start (sign + 1)
  unfolding on_sign
  reject e = record { turns = after_sign.0; enough = after_sign.1; same = after_sign.2 ∙ rw e }

  pub cut : four_at c sign ≡ None → seek (length c) c start ≡ nothing
  cut e =
      let h : length c - sign < 4 = four_none c sign e in
      let past = reject (other_word c i sign (no_room c sign h)) in
      past.same ∙ seek_short past.turns c (sign + 1) (omega arith)

  module _ (counts_here : counts c i sign ≡ true) where
    pub no_word : place_from is_blank c (sign + 4) ≡ None → seek (length c) c start ≡ nothing
    unfolding on_sign on_word
    no_word e = after_sign.2 ∙ rw (counts_here, e)

    module _ (end : ℕ) (w : place_from is_blank c (sign + 4) ≡ Some end) where
      by_keyword : seek (length c) c start
          ≡ on_keyword (keyword_of (take (end - (sign + 4)) (drop (sign + 4) c))) (end + 1) (λ (j : ℕ). seek after_sign.0 c j)
      unfolding on_sign on_word
      by_keyword = after_sign.2 ∙ rw (counts_here, w)

      pub known : (k : PragmaType) → keyword_of (take (end - (sign + 4)) (drop (sign + 4) c)) ≡ known_for k
          → seek (length c) c start ≡ pragma (known_for k) (end + 1)
      known k e = by_keyword ∙ rw e (on_known k (end + 1) (λ (j : ℕ). seek after_sign.0 c j))

      pub not_known : keyword_of (take (end - (sign + 4)) (drop (sign + 4) c)) ≡ unknown → Reach c start (end + 1)
      unfolding on_keyword
      not_known e =
          record {
            turns = after_sign.0;
            enough = omega (arith, after_sign.1, place_range is_blank c (sign + 4) end w);
            same = by_keyword ∙ rw e;
          }

-- ---- where a pragma is found
abbrev pub Later : List ℕ → ℕ → ℕ → Type 0
Later c i a = (i < a) × (a ≤ length c)

module _ (c : List ℕ) (k : Keyword) (a : ℕ) (go : ℕ → Search) (ih : (j : ℕ) → go j ≡ pragma k a → Later c j a) where
  keyword_after : (w : Keyword) (next : ℕ) → next ≤ length c → on_keyword w next go ≡ pragma k a → (next ≤ a) × (a ≤ length c)
  unfolding on_keyword
  keyword_after jsx next h e = let z : next ≡ a = cc in omega arith
  keyword_after frag next h e = let z : next ≡ a = cc in omega arith
  keyword_after import_source next h e = let z : next ≡ a = cc in omega arith
  keyword_after runtime next h e = let z : next ≡ a = cc in omega arith
  keyword_after unknown next h e = omega (arith, ih next e)

  word_after : (w : ℕ) (f : Option ℕ) → place_from is_blank c w ≡ f → on_word c w f go ≡ pragma k a → Later c w a
  unfolding on_word
  word_after w (Some e) h q =
      let r : (w ≤ e) × (e < length c) = place_range is_blank c w e h in
      omega (arith, keyword_after (keyword_of (take (e - w) (drop w c))) (e + 1) (omega arith) q)
  word_after w None h q = let z : ◌≡◌ {A = ℕ} 0 1 = cc in omega arith

  tried_after : (sign : ℕ) (b : Bool) → cond b (on_word c (sign + 4) (place_from is_blank c (sign + 4)) go) (go (sign + 1)) ≡ pragma k a
      → Later c sign a
  tried_after sign true q = omega (arith, word_after (sign + 4) (place_from is_blank c (sign + 4)) refl q)
  tried_after sign false q = omega (arith, ih (sign + 1) q)

  sign_after : (i : ℕ) (f : Option ℕ) → place_from is_at c i ≡ f → on_sign c i f go ≡ pragma k a → Later c i a
  unfolding on_sign
  sign_after i (Some sign) h q = omega (arith, place_range is_at c i sign h, tried_after sign (counts c i sign) q)
  sign_after i None h q = let z : ◌≡◌ {A = ℕ} 0 1 = cc in omega arith

pub seek_after : (n : ℕ) (c : List ℕ) (i : ℕ) (k : Keyword) (a : ℕ) → seek n c i ≡ pragma k a → Later c i a
unfolding seek
seek_after zero c i k a e = let z : ◌≡◌ {A = ℕ} 0 1 = cc in omega arith
seek_after (suc n) c i k a e = sign_after c k a (λ (j : ℕ). seek n c j) (λ j q. seek_after n c j k a q) i (place_from is_at c i) refl e
