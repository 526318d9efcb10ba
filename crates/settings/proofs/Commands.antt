-- The opening tape, command by command.
--     Reads                  the whole tape gives what its rest gives, from what has been read; each event of the loop is a law from Reads to
--                            Reads (onward) or to the answer (at_the_end, at_fault)
-- Assumes nothing.
use Rattle.std.specs.Prelude.{Option, None, Some, Result, Ok, Err}
use mathlib.Core.Path.{◌≡◌, refl, sym, ap, subst, ◌∙◌}
use mathlib.Core.Bool.{Bool, true, false, cond, ◌&&◌}
use mathlib.Core.List.{List, [], ◌∷◌, ◌++◌, append-nil, append_assoc}
use Prim.Native.Nat.{ℕ, zero, suc, ◌+◌, ◌≤◌, ◌<◌}
use native.Mathlib.Omega.{arith}
use lib.ListN.{length, drop, length-drop}
use lib.Seq.{drop-drop}
use lib.Dec.{eqb, ltb}
use borrow.Author.Tests.{ltb-false}
use Rattle.text.specs.declared.spans.Span.{Span}
use Rattle.text.specs.declared.spans.Bounds.{Bounds}
use Rattle.text.specs.declared.spans.Bounds.TheVariants as bounds
use Rattle.text.specs.Spans.{bounds_of}
use Rattle.text.specs.Utf8.{first_ill}
use Rattle.commands.specs.declared.error.CommandError.{CommandError}
use Rattle.commands.specs.declared.error.CommandError.TheVariants.{Wrong, Cut, Bad}
use Rattle.commands.specs.declared.opening.OptionCommand.{OptionCommand}
use Rattle.commands.specs.declared.opening.OptionCommand.TheVariants as option
use Rattle.tape.specs.declared.refusal.Refusal.TheVariants as refusal
use Rattle.tape.specs.Numbers.{span_at}
use Rattle.commands.specs.Opening.{option_with, option_command}
use Rattle.definitions.specs.declared.options.Options.{Options}
use Rattle.definitions.specs.Judging.{Parsed, done, stop, from, error_place, spanned, Judged, accepted, refused, read}
use Rattle.definitions.specs.Comments.{with_comments}
use Rattle.definitions.specs.Opening.{Opening, bare, with_pragma, with_pragma_frag, with_import_source, and_comment, option_by, options_from, read_opening}
use Rattle.definitions.specs.Opening.{options_of, judge_options}
use Rattle.definitions.proofs.Verdicts.{past_read, accepted_same}
use Rattle.definitions.proofs.Openings.{opening_told, options_borne}
use Rattle.comments.specs.Tapes.{comments_of}
use Rattle.comments.proofs.Tapes.{comments_front}
use Rattle.tape.specs.declared.refusal.TapeError.{TapeError}
use Rattle.settings.specs.Tapes.{options_before, checked, span_of, with_option, spanned_by, next_by, judged_options, judged_by, behind_flags, opened_tape, Borne}

-- ---- what stands at the front of a tape where a command was read
unfoldable pub Front : List ℕ → Result (Option OptionCommand) CommandError → Type 0
Front t (Ok None) = t ≡ []
Front t (Err e) = 0 ≤ length t
Front t (Ok (Some (option.Pragma s))) = (5 ≤ length t) × (comments_of t ≡ comments_of (drop 5 t))
Front t (Ok (Some (option.PragmaFrag s))) = (5 ≤ length t) × (comments_of t ≡ comments_of (drop 5 t))
Front t (Ok (Some (option.ImportSource s))) = (5 ≤ length t) × (comments_of t ≡ comments_of (drop 5 t))
Front t (Ok (Some (option.Comment s))) = (5 ≤ length t) × (comments_of t ≡ s ∷ comments_of (drop 5 t))

-- with operands: cut off, or whole
front_with : (b : ℕ) (t : List ℕ) (c : Span → OptionCommand) → (4 ≤ length t → Front (b ∷ t) (Ok (Some (c (span_at t 0)))))
    → Front (b ∷ t) (option_with c t)
unfolding Front
front_with b t c f =
    go (ltb (length t) 4) refl
  where
    go : (u : Bool) → ltb (length t) 4 ≡ u → Front (b ∷ t) (cond u (Err Cut) (Ok (Some (c (span_at t 0)))))
    go true e = omega arith
    go false e = f (ltb-false (length t) 4 e)

pub front : (last : ℕ) (t : List ℕ) → Front t (option_command last t)
unfolding Front option_command
front last [] = refl
front last (b ∷ t) = go (eqb b 0x60) refl (ltb last b && eqb b 0x62) (ltb last b && eqb b 0x63) (ltb last b && eqb b 0x64)
  where
    skipped : eqb b 0x60 ≡ false → 4 ≤ length t → (5 ≤ length (b ∷ t)) × (comments_of (b ∷ t) ≡ comments_of (drop 5 (b ∷ t)))
    skipped e h = (omega arith, comments_front (b ∷ t) (omega arith) ∙ rw e)

    go : (x : Bool) → eqb b 0x60 ≡ x → (y z u : Bool)
        → Front (b ∷ t)
        (cond x (option_with option.Comment t)
        (cond y (option_with option.Pragma t) (cond z (option_with option.PragmaFrag t) (cond u (option_with option.ImportSource t) (Err Wrong)))))
    go true e y z u = front_with b t option.Comment (λ h. (omega arith, comments_front (b ∷ t) (omega arith) ∙ rw e))
    go false e true z u = front_with b t option.Pragma (skipped e)
    go false e false true u = front_with b t option.PragmaFrag (skipped e)
    go false e false false true = front_with b t option.ImportSource (skipped e)
    go false e false false false = omega arith

-- ---- a command with a span
spanned_more : (b : Bounds) (x y : ℕ × Options) → spanned_by (checked b) x ≡ Ok (Some y) → (x ≡ y) × ((r : Parsed Opening) → spanned b r ≡ r)
unfolding spanned_by checked spanned
spanned_more bounds.Outside x y e = let z : ◌≡◌ {A = ℕ} 0 1 = cc in absurd (omega arith)
spanned_more bounds.Cuts x y e = let z : ◌≡◌ {A = ℕ} 0 1 = cc in absurd (omega arith)
spanned_more bounds.Empty x y e = (cc, λ r. refl)
spanned_more bounds.Good x y e = (cc, λ r. refl)

spanned_stop : (b : Bounds) (x : ℕ × Options) (f : TapeError) → spanned_by (checked b) x ≡ Err f
    → (f.place ≡ 0) × ((r : Parsed Opening) → spanned b r ≡ stop f.fault f.place)
unfolding spanned_by checked spanned
spanned_stop bounds.Outside x f e = (let z : 0 ≡ f.place = cc in sym z, λ r. (cc))
spanned_stop bounds.Cuts x f e = (let z : 0 ≡ f.place = cc in sym z, λ r. (cc))
spanned_stop bounds.Empty x f e = let z : ◌≡◌ {A = ℕ} 0 1 = cc in absurd (omega arith)
spanned_stop bounds.Good x f e = let z : ◌≡◌ {A = ℕ} 0 1 = cc in absurd (omega arith)

spanned_end : (b : Bounds) (x : ℕ × Options) → spanned_by (checked b) x ≡ Ok None → ⊥
unfolding spanned_by checked
spanned_end bounds.Outside x e = let z : ◌≡◌ {A = ℕ} 0 1 = cc in omega arith
spanned_end bounds.Cuts x e = let z : ◌≡◌ {A = ℕ} 0 1 = cc in omega arith
spanned_end bounds.Empty x e = let z : ◌≡◌ {A = ℕ} 0 1 = cc in omega arith
spanned_end bounds.Good x e = let z : ◌≡◌ {A = ℕ} 0 1 = cc in omega arith

place_inside : (t : List ℕ) (x : CommandError) → error_place t x ≤ length t
place_inside t Wrong = omega arith
place_inside t Cut = omega arith
place_inside t Bad = omega arith

-- ---- a command whose options before it are those of the opening o
module _ (text t : List ℕ) (o : Opening) where
  stop_inside : (c : Result (Option OptionCommand) CommandError) (f : TapeError) → next_by text t (options_before o) c ≡ Err f → f.place ≤ length t
  unfolding next_by
  stop_inside (Ok None) f e = let z : ◌≡◌ {A = ℕ} 0 1 = cc in absurd (omega arith)
  stop_inside (Ok (Some c)) f e = omega (arith, (spanned_stop (bounds_of text (span_of c)) _ f e).0)
  stop_inside (Err x) f e = let z : error_place t x ≡ f.place = cc in omega (arith, place_inside t x)

  stops : (last : ℕ) (k : ℕ → Opening → Parsed Opening) (c : Result (Option OptionCommand) CommandError) (f : TapeError)
      → next_by text t (options_before o) c ≡ Err f → option_by text t last o c k ≡ stop f.fault f.place
  unfolding next_by option_by span_of
  stops last k (Ok None) f e = let z : ◌≡◌ {A = ℕ} 0 1 = cc in absurd (omega arith)
  stops last k (Err x) f e = cc
  stops last k (Ok (Some (option.Pragma s))) f e = (spanned_stop (bounds_of text s) _ f e).1 _
  stops last k (Ok (Some (option.PragmaFrag s))) f e = (spanned_stop (bounds_of text s) _ f e).1 _
  stops last k (Ok (Some (option.ImportSource s))) f e = (spanned_stop (bounds_of text s) _ f e).1 _
  stops last k (Ok (Some (option.Comment s))) f e = (spanned_stop (bounds_of text s) _ f e).1 _

  ends : (c : Result (Option OptionCommand) CommandError) → next_by text t (options_before o) c ≡ Ok None → c ≡ Ok None
  unfolding next_by
  ends (Ok None) e = refl
  ends (Ok (Some c)) e = absurd (spanned_end (bounds_of text (span_of c)) _ e)
  ends (Err x) e = let z : ◌≡◌ {A = ℕ} 0 1 = cc in absurd (omega arith)

  -- the opening behind the command c, and that the definition reads on with it
  record Behind (c : Result (Option OptionCommand) CommandError) (next : ℕ × Options) : Type 0 where
    opening : Opening
    inside : 5 ≤ length t
    reads : (last : ℕ) (k : ℕ → Opening → Parsed Opening) → option_by text t last o c k ≡ k next.0 opening
    before : next.1 ≡ options_before opening
    comments : o.comments ++ comments_of t ≡ opening.comments ++ comments_of (drop 5 t)

  -- c makes o into p
  module _ (c : OptionCommand) (s : Span) (m : ℕ) (p : Opening) (h : 5 ≤ length t)
      (by : (last : ℕ) (k : ℕ → Opening → Parsed Opening) → option_by text t last o (Ok (Some c)) k ≡ spanned (bounds_of text s) (k m p))
      (more : o.comments ++ comments_of t ≡ p.comments ++ comments_of (drop 5 t)) where
    behind_span : (next : ℕ × Options) → spanned_by (checked (bounds_of text s)) (m, options_before p) ≡ Ok (Some next) → Behind (Ok (Some c)) next
    behind_span next e =
        let r = spanned_more (bounds_of text s) (m, options_before p) next e in
        record {
          opening = p;
          inside = h;
          reads = λ last k. by last k ∙ (r.1 (k m p) ∙ ap (λ (x : ℕ × Options). k x.0 p) r.0);
          before = sym (ap (λ (x : ℕ × Options). x.1) r.0);
          comments = more;
        }

  behind : (c : Result (Option OptionCommand) CommandError) → Front t c → (next : ℕ × Options) → next_by text t (options_before o) c ≡ Ok (Some next)
      → Behind c next
  unfolding Front next_by span_of with_option option_by options_before
  behind (Ok None) g next e = let z : ◌≡◌ {A = ℕ} 0 1 = cc in absurd (omega arith)
  behind (Err x) g next e = let z : ◌≡◌ {A = ℕ} 0 1 = cc in absurd (omega arith)
  behind (Ok (Some (option.Pragma s))) g next e =
      behind_span (option.Pragma s) s 0x62 (with_pragma o s) g.0 (λ last k. refl) (ap (◌++◌ o.comments) g.1) next e
  behind (Ok (Some (option.PragmaFrag s))) g next e =
      behind_span (option.PragmaFrag s) s 0x63 (with_pragma_frag o s) g.0 (λ last k. refl) (ap (◌++◌ o.comments) g.1) next e
  behind (Ok (Some (option.ImportSource s))) g next e =
      behind_span (option.ImportSource s) s 0x64 (with_import_source o s) g.0 (λ last k. refl) (ap (◌++◌ o.comments) g.1) next e
  behind (Ok (Some (option.Comment s))) g next e =
      behind_span (option.Comment s) s 0x64 (and_comment o s) g.0 (λ last k. refl)
      (ap (◌++◌ o.comments) g.1 ∙ sym (append_assoc o.comments (s ∷ []) (comments_of (drop 5 t)))) next e

-- ---- the tape behind the flags n has been read up to place i: p are the options so far, `last` the last option's byte
pub record Reads (text tape : List ℕ) (n i last : ℕ) (p : Options) : Type 0 where
  pub turns : ℕ
  pub opening : Opening
  pub enough : length tape < turns + i
  pub same : judged_options text (behind_flags text tape n) ≡ judged_options text (from i (options_from turns text last opening (drop i tape)))
  pub before : p ≡ options_before opening
  pub comments : comments_of (drop 3 tape) ≡ opening.comments ++ comments_of (drop i tape)

pub begin : (text tape : List ℕ) (n : ℕ) (p : Options) → p ≡ options_before (bare n) → Reads text tape n 3 0x61 p
begin text tape n p e =
    record { turns = suc (length tape); opening = bare n; enough = omega arith; same = refl; before = e; comments = refl }

from_from : (a b : ℕ) (p : Parsed Opening) → from a (from b p) ≡ from (a + b) p
unfolding from
from_from a b (done o u) = let e : a + (b + u) ≡ a + b + u = omega arith in rw e
from_from a b (stop f j) = let e : a + (b + j) ≡ a + b + j = omega arith in rw e

module _ (text tape : List ℕ) (n i last : ℕ) (p : Options) (h : i ≤ length tape) (r : Reads text tape n i last p) where
  -- the next turn
  turn : (m : ℕ) × (length tape < suc m + i)
      × (judged_options text (behind_flags text tape n)
      ≡ judged_options text
      (from i
      (option_by text (drop i tape) last r.opening (option_command last (drop i tape))
      (λ (l : ℕ) (o : Opening). from 5 (options_from m text l o (drop 5 (drop i tape)))))))
  unfolding options_from
  turn = go r.turns r.enough r.same
    where
      go : (k : ℕ) → length tape < k + i
          → judged_options text (behind_flags text tape n) ≡ judged_options text (from i (options_from k text last r.opening (drop i tape)))
          → (m : ℕ) × (length tape < suc m + i)
          × (judged_options text (behind_flags text tape n)
          ≡ judged_options text
          (from i
          (option_by text (drop i tape) last r.opening (option_command last (drop i tape))
          (λ (l : ℕ) (o : Opening). from 5 (options_from m text l o (drop 5 (drop i tape)))))))
      go zero g e = absurd (omega arith)
      go (suc m) g e = (m, g, e)

  by_opening : {x : Result (Option (ℕ × Options)) TapeError} → next_by text (drop i tape) p (option_command last (drop i tape)) ≡ x
      → next_by text (drop i tape) (options_before r.opening) (option_command last (drop i tape)) ≡ x
  by_opening e = rw r.before at e

  pub at_the_end : next_by text (drop i tape) p (option_command last (drop i tape)) ≡ Ok None
      → judged_options text (behind_flags text tape n) ≡ accepted (with_comments text p (comments_of (drop 3 tape)))
  unfolding judged_options from option_by read options_of Front comments_of options_before
  at_the_end e =
      let c : option_command last (drop i tape) ≡ Ok None = ends text (drop i tape) r.opening (option_command last (drop i tape)) (by_opening e) in
      let empty : drop i tape ≡ [] = subst (Front (drop i tape)) c (front last (drop i tape)) in
      turn.2 ∙ rw (c, r.before, r.comments, empty, append-nil)

  module _ (f : TapeError) (e : next_by text (drop i tape) p (option_command last (drop i tape)) ≡ Err f) where
    pub fault_inside : i + f.place ≤ length tape
    fault_inside =
        omega (arith, stop_inside text (drop i tape) r.opening (option_command last (drop i tape)) f (by_opening e), length-drop i tape)

    pub at_fault : judged_options text (behind_flags text tape n) ≡ refused (refusal.Tape f.fault (i + f.place))
    unfolding judged_options from read
    at_fault = turn.2 ∙ rw (stops text (drop i tape) r.opening last _ (option_command last (drop i tape)) f (by_opening e))

  module _ (next : ℕ × Options) (e : next_by text (drop i tape) p (option_command last (drop i tape)) ≡ Ok (Some next)) where
    next_behind : Behind text (drop i tape) r.opening (option_command last (drop i tape)) next
    next_behind = behind text (drop i tape) r.opening (option_command last (drop i tape)) (front last (drop i tape)) next (by_opening e)

    pub command_inside : i + 5 ≤ length tape
    command_inside = omega (arith, next_behind.inside, length-drop i tape)

    pub onward : Reads text tape n (i + 5) next.0 next.1
    onward =
        record {
          turns = turn.0;
          opening = next_behind.opening;
          enough = omega (arith, turn.1);
          same = turn.2
              ∙ ap (judged_options text)
              (ap (from i) (next_behind.reads last _) ∙ from_from i 5 _
              ∙ ap (λ (t : List ℕ). from (i + 5) (options_from turn.0 text next.0 next_behind.opening t)) (drop-drop 5 i tape));
          before = next_behind.before;
          comments = r.comments ∙ next_behind.comments ∙ ap (λ (t : List ℕ). next_behind.opening.comments ++ comments_of t) (drop-drop 5 i tape);
        }

-- ---- what the tape comes to
unfoldable on_judged : {A B : Type 0} → Judged A → (A → Judged B) → Judged B
on_judged (accepted a) k = k a
on_judged (refused r) k = refused r

read_on : {A B C : Type 0} (p : Parsed A) (f : A → B) (k : B → Judged C) (j : Judged B) → read p (λ a. accepted (f a)) ≡ j
    → read p (λ a. k (f a)) ≡ on_judged j k
unfolding read on_judged
read_on (done a u) f k j e = ap (λ (x : Judged _). on_judged x k) e
read_on (stop g i) f k j e = ap (λ (x : Judged _). on_judged x k) e

module _ (text tape : List ℕ) (room : ℕ) where
  by_reading : (j : Judged Options) → judged_options text (read_opening text tape) ≡ j
      → opened_tape text tape room ≡ on_judged j (λ (p : Options). judge_options text room p)
  unfolding judged_options opened_tape
  by_reading j e = read_on (read_opening text tape) (options_of text) (λ (p : Options). judge_options text room p) j e

  pub tape_refused : (f : TapeError) → judged_options text (read_opening text tape) ≡ judged_by text tape (Err f)
      → opened_tape text tape room ≡ refused (refusal.Tape f.fault f.place)
  unfolding judged_by on_judged
  tape_refused f e = by_reading (judged_by text tape (Err f)) e

  pub tape_read : (p : Options) → judged_options text (read_opening text tape) ≡ judged_by text tape (Ok p)
      → opened_tape text tape room ≡ judge_options text room (with_comments text p (comments_of (drop 3 tape)))
  unfolding judged_by on_judged
  tape_read p e = by_reading (judged_by text tape (Ok p)) e

-- the pragmas of options that were read are borne out
pub tape_borne : (text tape : List ℕ) → first_ill text ≡ None → (p : Options) → judged_options text (read_opening text tape) ≡ judged_by text tape (Ok p)
    → Borne text (with_comments text p (comments_of (drop 3 tape)))
unfolding judged_options judged_by
tape_borne text tape good p e =
    let d = past_read (read_opening text tape) (λ (o : Opening). accepted (options_of text o)) _ e in
    let b = options_borne text good d.0 (opening_told text d.0 tape d.1 d.2) in
    subst (Borne text) (accepted_same _ _ d.3) (record { pragma = b.pair_pragma; frag = b.pair_frag })
