-- The notices of an opening: where the parts stand that they tell of, and how many bytes they take.
--     notice_append              the bytes of notices one behind the other
--     notice_few, opening_few    a pragma's notice takes five bytes at the most, an opening's notices ten
--     split_length               the parts of a pragma, each with a dot behind it, have one byte more than the pragma
--     tail_within, meta_within, parts_within, part_within     a part that fails lies within its pragma
--     under_within               and so within a text that bears the pragma out
-- Assumes nothing.
use Rattle.std.specs.Prelude.{None, Option, Some, Ok, Err, Result}
use mathlib.Core.Path.{◌≡◌, refl, sym}
use mathlib.Core.Bool.{Bool, true, false, cond, not, ◌&&◌}
use mathlib.Core.List.{List, [], ◌∷◌, ◌++◌, append_assoc}
use Prim.Native.Nat.{ℕ, suc, ◌+◌, ◌-◌, ◌≤◌}
use native.Mathlib.Omega.{arith}
use lib.ListN.{length, drop, length-append, length-take}
use lib.Dec.{eqb}
use Rattle.text.specs.declared.spans.Span.{Span}
use Rattle.text.specs.Bytes.{ascii, same}
use Rattle.text.specs.Spans.{part_of}
use Rattle.definitions.specs.declared.options.Mode.{Mode}
use Rattle.definitions.specs.declared.options.Mode.TheVariants.{Module, Script, Classic}
use Rattle.definitions.specs.declared.options.PragmaRoot.{PragmaRoot}
use Rattle.definitions.specs.declared.options.PragmaRoot.TheVariants as root
use Rattle.definitions.specs.declared.options.Form.{Form}
use Rattle.definitions.specs.declared.options.InvalidPart.{InvalidPart}
use Rattle.definitions.specs.declared.options.Settings.{Settings}
use Rattle.definitions.specs.Calls.{Notice, notice_bytes_of, notice_bytes}
use Rattle.definitions.specs.Pragmas.{onto, split, is_identifier_name, is_reserved_word, tail_from, meta_behind, parts_read, pragma_of, behind_place, pragma_in, failing}
use Rattle.definitions.specs.Opening.{pragma_under, pragma_notice, opening_notices, opening_bytes}
use Rattle.definitions.specs.States.{borne_out}
use Rattle.definitions.proofs.CommentSpans.{in_order_bounds}

-- ---- their bytes

pub notice_append : (ns ms : List Notice) → notice_bytes (ns ++ ms) ≡ notice_bytes ns ++ notice_bytes ms
unfolding notice_bytes
notice_append [] ms = refl
notice_append (n ∷ ns) ms = rw (notice_append ns ms) (sym (append_assoc (notice_bytes_of n) (notice_bytes ns) (notice_bytes ms)))

pub notice_few : (r : Result (Option Form) InvalidPart) → length (notice_bytes (pragma_notice r)) ≤ 5
unfolding pragma_notice notice_bytes notice_bytes_of
notice_few (Ok f) = omega arith
notice_few (Err p) = omega arith

pub opening_few : (text : List ℕ) (s : Settings) → length (opening_bytes text s) ≤ 10
unfolding opening_notices
opening_few text s =
    let p = pragma_under s.mode text s.options.pragma in
    let f = pragma_under s.mode text s.options.pragma_frag in
    rw (notice_append (pragma_notice p) (pragma_notice f), length-append (notice_bytes (pragma_notice p)) (notice_bytes (pragma_notice f)))
    (omega (arith, notice_few p, notice_few f))

-- ---- the parts of a pragma

-- each with a dot behind it
unfoldable pub parts_length : List (List ℕ) → ℕ
parts_length [] = 0
parts_length (w ∷ ws) = length w + 1 + parts_length ws

pub split_length : (l : List ℕ) → parts_length (split l) ≡ length l + 1
unfolding split onto parts_length
split_length [] = refl
split_length (b ∷ l) = go (eqb b 0x2e) (split l) (split_length l)
  where
    go : (t : Bool) (ws : List (List ℕ)) → parts_length ws ≡ length l + 1 → parts_length (cond t ([] ∷ ws) (onto b ws)) ≡ suc (length l) + 1
    go true ws h = omega (arith, h)
    go false [] h = absurd (omega (arith, h))
    go false (w ∷ ws) h = omega (arith, h)

tail_within : (r : PragmaRoot) (n i : ℕ) (ws : List (List ℕ)) (p : InvalidPart) → tail_from r n i ws ≡ Err p → p.place + p.len + 1 ≤ i + parts_length ws
unfolding tail_from parts_length
tail_within r n i [] p e = let z : ◌≡◌ {A = ℕ} 0 1 = cc in absurd (omega arith)
tail_within r n i (w ∷ ws) p e = go (is_identifier_name w) e (tail_within r (n + 1) (i + length w + 1) ws p)
  where
    go : (t : Bool) → cond t (tail_from r (n + 1) (i + length w + 1) ws) (failing i (length w)) ≡ Err p
        → (tail_from r (n + 1) (i + length w + 1) ws ≡ Err p → p.place + p.len + 1 ≤ i + length w + 1 + parts_length ws)
        → p.place + p.len + 1 ≤ i + (length w + 1 + parts_length ws)
    go true e ih = omega (arith, ih e)
    go false e ih = let at : i ≡ p.place = cc in let long : length w ≡ p.len = cc in omega arith

meta_within : (k : ℕ) (ws : List (List ℕ)) (p : InvalidPart) → meta_behind k ws ≡ Err p → p.place + p.len ≤ k + parts_length ws
unfolding meta_behind parts_length
meta_within k [] p e = let at : 0 ≡ p.place = cc in let long : k ≡ p.len = cc in omega arith
meta_within k (w ∷ ws) p e = go (same w (ascii "meta")) e
  where
    go : (t : Bool) → cond t (tail_from root.ImportMeta 0 (k + 1 + length w + 1) ws) (failing 0 k) ≡ Err p
        → p.place + p.len ≤ k + (length w + 1 + parts_length ws)
    go true e = omega (arith, tail_within root.ImportMeta 0 (k + 1 + length w + 1) ws p e)
    go false e = let at : 0 ≡ p.place = cc in let long : k ≡ p.len = cc in omega arith

parts_within : (ws : List (List ℕ)) (p : InvalidPart) → parts_read ws ≡ Err p → p.place + p.len ≤ parts_length ws - 1
unfolding parts_read parts_length
parts_within [] p e = let at : 0 ≡ p.place = cc in let long : 0 ≡ p.len = cc in omega arith
parts_within (w ∷ ws) p e = go (same w (ascii "this")) (same w (ascii "import")) (is_identifier_name w && not (is_reserved_word w)) e
  where
    go : (a b c : Bool)
        → cond a (tail_from root.This 0 (length w + 1) ws)
        (cond b (meta_behind (length w) ws) (cond c (tail_from root.Identifier 0 (length w + 1) ws) (failing 0 (length w))))
        ≡ Err p
        → p.place + p.len ≤ length w + 1 + parts_length ws - 1
    go true b c e = omega (arith, tail_within root.This 0 (length w + 1) ws p e)
    go false true c e = omega (arith, meta_within (length w) ws p e)
    go false false true e = omega (arith, tail_within root.Identifier 0 (length w + 1) ws p e)
    go false false false e = let at : 0 ≡ p.place = cc in let long : length w ≡ p.len = cc in omega arith

pub part_within : (l : List ℕ) (p : InvalidPart) → pragma_of l ≡ Err p → p.place + p.len ≤ length l
unfolding pragma_of
part_within l p e = omega (arith, parts_within (split l) p e, split_length l)

-- ---- in a text

in_within : (text : List ℕ) (s : Span) → borne_out text (Some s) ≡ true → (p : InvalidPart) → pragma_in text (Some s) ≡ Err p → p.place + p.len ≤ length text
unfolding borne_out pragma_in part_of behind_place
in_within text s h p e = go (pragma_of (part_of text s)) refl e
  where
    go : (r : Result Form InvalidPart) → pragma_of (part_of text s) ≡ r → behind_place s.start r ≡ Err p → p.place + p.len ≤ length text
    go (Ok f) q e = let z : ◌≡◌ {A = ℕ} 0 1 = cc in absurd (omega arith)
    go (Err r) q e =
        let at : s.start + r.place ≡ p.place = cc in
        let long : r.len ≡ p.len = cc in
        omega (arith, part_within (part_of text s) r q, length-take s.len (drop s.start text), (in_order_bounds text s h).inside)

pub under_within : (mode : Mode) (text : List ℕ) (o : Option Span) → borne_out text o ≡ true → (p : InvalidPart) → pragma_under mode text o ≡ Err p
    → p.place + p.len ≤ length text
unfolding pragma_under pragma_in
under_within Module text o h p e = let z : ◌≡◌ {A = ℕ} 0 1 = cc in absurd (omega arith)
under_within Script text o h p e = let z : ◌≡◌ {A = ℕ} 0 1 = cc in absurd (omega arith)
under_within Classic text None h p e = let z : ◌≡◌ {A = ℕ} 0 1 = cc in absurd (omega arith)
under_within Classic text (Some s) h p e = in_within text s h p e
