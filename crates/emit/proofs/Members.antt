-- The properties of a name, one by one (`members_at` of definitions, Reading; `members` of Lowering).
--     MembersLeft                                              how far the writing of them has come
--     members_begin, members_more, members_end, members_error  from the first on
-- Assumes nothing.
use Rattle.std.specs.Prelude.{Option, None, Some, Result, Ok, Err}
use mathlib.Core.Path.{◌≡◌, refl, sym, ap, ◌∙◌}
use mathlib.Core.List.{List, [], ◌∷◌, ◌++◌, append-nil, append_assoc}
use Prim.Native.Nat.{ℕ, zero, suc, ◌<◌}
use native.Mathlib.Omega.{arith}
use lib.ListN.{length, drop, length-drop}
use Rattle.text.specs.declared.spans.Span.{Span}
use Rattle.text.specs.Spans.{bounds_of}
use Rattle.commands.specs.declared.error.CommandError.{CommandError}
use Rattle.commands.specs.Root.{member_command}
use Rattle.commands.proofs.Lengths.{member_fits}
use Rattle.definitions.specs.declared.call_tape.WithSpan.TheVariants as with_span
use Rattle.definitions.specs.Judging.{Parsed, done, map, from}
use Rattle.definitions.specs.Reading.{members_by, members_at}
use Rattle.definitions.specs.Lowering.{Output, put_span, members}
use Rattle.pen.specs.declared.pen.Pen.{Pen}
use Rattle.pen.specs.Emitting.{Short, Produced}
use Rattle.emit.proofs.Readings.{stopped, named_done, map_done, from_done}
use Rattle.pen.proofs.Emitting.{produced_none, produced_then, produced_as}

-- ---- reading

-- by the command at the front, with one turn less for what is behind it
record Turn (f : ℕ) (text t : List ℕ) (c : Result (Option Span) CommandError) (ms : List Span) (u : ℕ) : Type 0 where
  turns : ℕ
  fewer : f ≡ suc turns
  reads : members_by text t c (λ k. from k (members_at turns text (drop k t))) ≡ done ms u

turn : (f : ℕ) (text t : List ℕ) (ms : List Span) (u : ℕ) {c : Result (Option Span) CommandError} → member_command t ≡ c → members_at f text t ≡ done ms u
    → Turn f text t c ms u
unfolding members_at
turn zero text t ms u q e = stopped e
turn (suc f) text t ms u q e = record { turns = f; fewer = refl; reads = rw q at e }

-- ---- writing

-- what stands before t is done: what was read of it is written
pub record MembersLeft (text : List ℕ) (ms : List Span) (t : List ℕ) (p p' : Pen) : Type 0 where
  pub turns : ℕ
  pub left : List Span
  pub size : ℕ
  pub before : List Output
  pub enough : length t < turns
  pub reads : members_at turns text t ≡ done left size
  pub whole : before ++ members left ≡ members ms
  pub wrote : Produced before p p'

pub members_begin : {text t : List ℕ} {ms : List Span} {f u : ℕ} {p : Pen} → Short p → length t < f → members_at f text t ≡ done ms u
    → MembersLeft text ms t p p
members_begin {f = f} {u} short h e =
    record { turns = f; left = _; size = u; before = []; enough = h; reads = e; whole = refl; wrote = produced_none short }

module _ {text t : List ℕ} {ms : List Span} {p p₁ : Pen} (l : MembersLeft text ms t p p₁) where
  at : {c : Result (Option Span) CommandError} → member_command t ≡ c → Turn l.turns text t c l.left l.size
  at q = turn l.turns text t l.left l.size q l.reads

  pub members_more : {s : Span} {t' : List ℕ} {p₂ : Pen} → member_command t ≡ Ok (Some s) → t' ≡ drop 5 t
      → Produced (put_span with_span.MemberName s) p₁ p₂ → MembersLeft text ms t' p p₂
  unfolding members members_by
  members_more {s} q here w =
      let b = at q in
      let behind : Parsed (List Span) = from 5 (members_at b.turns text (drop 5 t)) in
      let m = map_done (s ∷◌) behind (named_done (bounds_of text s) (map (s ∷◌) behind) b.reads) in
      let r = from_done 5 (members_at b.turns text (drop 5 t)) m.1 in
      record {
        turns = b.turns;
        left = m.0;
        size = r.0;
        before = l.before ++ put_span with_span.MemberName s;
        enough = omega (arith, l.enough, b.fewer, ap length here, length-drop 5 t, member_fits t q);
        reads = ap (members_at b.turns text) here ∙ r.1;
        whole = append_assoc l.before (put_span with_span.MemberName s) (members m.0) ∙ ap (λ (o : List Span). l.before ++ members o) m.2 ∙ l.whole;
        wrote = produced_then l.wrote w;
      }

  pub members_end : member_command t ≡ Ok None → Produced (members ms) p p₁
  unfolding members members_by
  members_end q =
      let e : done [] 0 ≡ done l.left l.size = (at q).reads in
      let n : l.left ≡ [] = cc in
      produced_as (sym (append-nil l.before) ∙ ap (λ (r : List Span). l.before ++ members r) (sym n) ∙ l.whole) l.wrote

  pub members_error : {A : Type 0} {x : CommandError} → member_command t ≡ Err x → A
  unfolding members_by
  members_error q = stopped (at q).reads
