-- The bytes of a text child, line by line: they are the same whatever is bound, and a text binds nothing and notifies nothing.
--     Unbound                                outputs that bind nothing and notify nothing, and their bytes
--     text_unbound                           a text child is such, whatever is bound: its three parts are
--     text_anywhere, text_binds_nothing, text_silent
--     rest_bytes, rest_line, rest_end        what is written from a place among the lines on, line by line
-- Assumes nothing.
use mathlib.Core.Path.{◌≡◌, refl, ap}
use mathlib.Core.Bool.{Bool, true, false, cond}
use mathlib.Core.List.{List, [], ◌∷◌, ◌++◌, append_assoc}
use Prim.Native.Nat.{ℕ}
use lib.Dec.{eqb}
use Rattle.text.specs.declared.spans.Span.{Span}
use Rattle.tape.specs.Numbers.{span_bytes}
use Rattle.definitions.specs.declared.records.Import.{Import}
use Rattle.definitions.specs.Calls.{bare, bare_code, span_code, bytes_of, call_bytes}
use Rattle.definitions.specs.declared.call_tape.Bare.{Bare}
use Rattle.definitions.specs.declared.call_tape.Bare.TheVariants.{StringBegin, Space, StringEnd}
use Rattle.definitions.specs.declared.call_tape.WithSpan.TheVariants.{Piece}
use Rattle.definitions.specs.Store.{bound_by, bound_after, numbered, numbered_all}
use Rattle.definitions.specs.Lowering.{Output, emit, put, put_span, piece, joined, lower_text, commands_of, notices_of}
use Rattle.jsx_text.specs.TextBytes.{text_bytes, piece_bytes, line_bytes, end_bytes}

-- ---- outputs that bind nothing and notify nothing, and their bytes
pub record Unbound (js : List Import) (os : List Output) (bs : List ℕ) : Type 0 where
  pub bytes : call_bytes (numbered_all js (commands_of os)) ≡ bs
  pub binds : bound_after js (commands_of os) ≡ js
  pub silent : notices_of os ≡ []

module _ (js : List Import) (os : List Output) (bs : List ℕ) (u : Unbound js os bs) where
  with_bare : (c : Bare) → Unbound js (emit (bare c) ∷ os) (bare_code c ∷ bs)
  unfolding call_bytes numbered_all numbered commands_of bytes_of bound_after bound_by notices_of
  with_bare c = record { bytes = ap (λ (l : List ℕ). bare_code c ∷ l) u.bytes; binds = u.binds; silent = u.silent }

  with_piece : (s : Span) → Unbound js (piece s ++ os) (piece_bytes s ++ bs)
  unfolding call_bytes numbered_all numbered commands_of bytes_of span_code bound_after bound_by notices_of
  with_piece s = go (eqb s.len 0)
    where
      go : (b : Bool) → Unbound js (cond b [] (put_span Piece s) ++ os) (cond b [] (0x8b ∷ span_bytes s) ++ bs)
      go true = u
      go false =
          record { bytes = ap (λ (l : List ℕ). (0x8b ∷ span_bytes s) ++ l) u.bytes; binds = u.binds; silent = u.silent }

-- ---- the lines of a text

-- what is written behind a line
unfoldable pub more_bytes : List Span → List ℕ
more_bytes [] = 0x8d ∷ []
more_bytes (s ∷ ss) = line_bytes true s ++ more_bytes ss

unbound_end : (js : List Import) → Unbound js (put StringEnd) (0x8d ∷ [])
unfolding call_bytes numbered_all numbered commands_of bytes_of bare_code bound_after bound_by notices_of
unbound_end js = record { bytes = refl; binds = refl; silent = refl }

unbound_joined : (js : List Import) (s : Span) (ss : List Span)
    → Unbound js (joined (s ∷ ss) ++ put StringEnd) (piece_bytes s ++ more_bytes ss)
unfolding joined more_bytes line_bytes bare_code
unbound_joined js s [] = with_piece js _ _ (unbound_end js) s
unbound_joined js s (r ∷ rs) =
    simp append_assoc
    (with_piece js _ _ (with_bare js _ _ (unbound_joined js r rs) Space) s)

unbound_text : (js : List Import) (s : Span) (ss : List Span) → Unbound js (lower_text (s ∷ ss)) (line_bytes false s ++ more_bytes ss)
unfolding lower_text line_bytes bare_code
unbound_text js s ss = with_bare js _ _ (unbound_joined js s ss) StringBegin

unbound_none : (js : List Import) → Unbound js (lower_text []) []
unfolding lower_text call_bytes numbered_all commands_of bound_after notices_of
unbound_none js = record { bytes = refl; binds = refl; silent = refl }

text_some : (s : Span) (ss : List Span) → text_bytes (s ∷ ss) ≡ line_bytes false s ++ more_bytes ss
unfolding text_bytes
text_some s ss = (unbound_text [] s ss).bytes

text_none : text_bytes [] ≡ []
unfolding text_bytes
text_none = (unbound_none []).bytes

-- ---- what a text child does to calls, bindings and notices
pub text_unbound : (js : List Import) (ls : List Span) → Unbound js (lower_text ls) (text_bytes ls)
text_unbound js [] = rw text_none (unbound_none js)
text_unbound js (s ∷ ss) = rw text_some (unbound_text js s ss)

pub text_anywhere : (js : List Import) (ls : List Span) → call_bytes (numbered_all js (commands_of (lower_text ls))) ≡ text_bytes ls
text_anywhere js ls = (text_unbound js ls).bytes

pub text_binds_nothing : (js : List Import) (ls : List Span) → bound_after js (commands_of (lower_text ls)) ≡ js
text_binds_nothing js ls = (text_unbound js ls).binds

pub text_silent : (ls : List Span) → notices_of (lower_text ls) ≡ []
text_silent ls = (text_unbound [] ls).silent

-- ---- from a place among the lines on
-- what is written of these lines, after others or as the first
unfoldable pub rest_bytes : Bool → List Span → List ℕ
rest_bytes true ls = more_bytes ls
rest_bytes false ls = text_bytes ls

pub rest_line : (later : Bool) (s : Span) (ss : List Span) → rest_bytes later (s ∷ ss) ≡ line_bytes later s ++ rest_bytes true ss
unfolding rest_bytes more_bytes
rest_line true s ss = refl
rest_line false s ss = text_some s ss

pub rest_end : (later : Bool) → rest_bytes later [] ≡ end_bytes later
unfolding rest_bytes more_bytes end_bytes
rest_end true = refl
rest_end false = text_none
