-- What a scan reports of readings that are put together, from what it reports of their parts.
--     report_..             `from`, `map` and `then` of a reading
--     named_then, ..        what follows a command of n bytes whose spans or place are judged
-- Assumes nothing.
use mathlib.Core.Path.{◌≡◌, refl}
use mathlib.Core.Bool.{Bool, true, false, cond, ◌||◌}
use mathlib.Core.List.{List}
use Prim.Native.Nat.{ℕ, ◌+◌, ◌<◌}
use native.Mathlib.Nat.{zero-add, add_assoc}
use native.Mathlib.Omega.{arith}
use lib.Dec.{eqb, leb}
use borrow.Author.Tests.{leb-false}
use Rattle.std.specs.Prelude.{Ok, Err}
use Rattle.text.specs.declared.spans.Span.{Span}
use Rattle.text.specs.declared.spans.Bounds.{Bounds}
use Rattle.text.specs.declared.spans.Bounds.TheVariants.{Outside, Cuts, Empty, Good}
use Rattle.text.specs.Spans.{part_of, bounds_of}
use Rattle.references.specs.References.{has_reference}
use Rattle.tape.specs.declared.refusal.Fault.TheVariants as fault
use Rattle.commands.specs.declared.root.Place.{Place}
use Rattle.definitions.specs.Judging.{Parsed, done, stop, ◌then◌, map, from, spanned, named}
use Rattle.definitions.specs.Reading.{lettered, opened}
use Rattle.root_check.specs.Checking.{Scan, report, taken, shifted, sequel, going, stepped}

-- ---- scans

pub shifted_zero : (s : Scan) → shifted 0 s ≡ s
unfolding shifted
shifted_zero (Ok u) = simp zero-add
shifted_zero (Err e) = simp zero-add

pub shifted_shifted : (u v : ℕ) (s : Scan) → shifted u (shifted v s) ≡ shifted (u + v) s
unfolding shifted
shifted_shifted u v (Ok w) = simp add_assoc
shifted_shifted u v (Err e) = simp add_assoc

pub stepped_going : (s : Scan) (k : ℕ → Scan) → stepped (going s) k ≡ sequel s k
unfolding stepped going sequel
stepped_going (Ok u) k = refl
stepped_going (Err e) k = refl

-- ---- readings

pub report_from : {A : Type 0} (u : ℕ) (p : Parsed A) → report (from u p) ≡ shifted u (report p)
unfolding report from shifted
report_from u (done a v) = refl
report_from u (stop f q) = refl

pub report_map : {A B : Type 0} (g : A → B) (p : Parsed A) → report (map g p) ≡ report p
unfolding report map ◌then◌
report_map g (done a u) = refl
report_map g (stop f q) = refl

pub report_then : {A B : Type 0} (p : Parsed A) (K : A → ℕ → Parsed B) (k : ℕ → Scan) → ((a : A) (u : ℕ) → report (K a u) ≡ k u)
    → report (p then K) ≡ sequel (report p) k
unfolding report ◌then◌ sequel
report_then (done a u) K k h = h a u
report_then (stop f q) K k h = refl

-- ---- behind a command that is judged

module _ {A : Type 0} (n : ℕ) (p : Parsed A) (k : ℕ → Scan) (h : report p ≡ k n) where
  pub spanned_then : (b : Bounds) → report (spanned b p) ≡ sequel (report (spanned b (taken n))) k
  unfolding report spanned sequel
  spanned_then Outside = refl
  spanned_then Cuts = refl
  spanned_then Empty = h
  spanned_then Good = h

  pub named_then : (b : Bounds) → report (named b p) ≡ sequel (report (named b (taken n))) k
  unfolding report named sequel
  named_then Outside = refl
  named_then Cuts = refl
  named_then Empty = refl
  named_then Good = h

  pub lettered_then : (text : List ℕ) (s : Span) → report (lettered text s p) ≡ sequel (report (lettered text s (taken n))) k
  unfolding report lettered spanned sequel
  lettered_then text s = go (bounds_of text s) (has_reference (part_of text s))
    where
      go : (b : Bounds) (a : Bool)
          → report (spanned b (cond a (stop fault.Reference 0) p)) ≡ sequel (report (spanned b (cond a (stop fault.Reference 0) (taken n)))) k
      go Outside a = refl
      go Cuts a = refl
      go Empty true = refl
      go Empty false = h
      go Good true = refl
      go Good false = h

-- nothing but the command itself
module _ {A : Type 0} (a : A) (n : ℕ) where
  pub named_done : (b : Bounds) → report (named b (done a n)) ≡ report (named b (taken n))
  unfolding report named
  named_done Outside = refl
  named_done Cuts = refl
  named_done Empty = refl
  named_done Good = refl

  pub lettered_done : (text : List ℕ) (s : Span) → report (lettered text s (done a n)) ≡ report (lettered text s (taken n))
  unfolding report lettered spanned
  lettered_done text s = go (bounds_of text s) (has_reference (part_of text s))
    where
      go : (b : Bounds) (x : Bool)
          → report (spanned b (cond x (stop fault.Reference 0) (done a n))) ≡ report (spanned b (cond x (stop fault.Reference 0) (taken n)))
      go Outside x = refl
      go Cuts x = refl
      go Empty true = refl
      go Empty false = refl
      go Good true = refl
      go Good false = refl

-- an element or a fragment is opened, and its rest stands behind nine bytes
pub opened_then : {A : Type 0} (d : ℕ) (at : Place) (p : Parsed A) → report (opened d at p) ≡ sequel (report (opened d at (taken 0))) (λ u. shifted 9 (report p))
unfolding report opened sequel from
opened_then d at p = go (leb 64 d) (eqb at.line 4294967295 || eqb at.column 4294967295)
  where
    go : (b x : Bool)
        → report (cond b (stop fault.Depth 0) (cond x (stop fault.Position 0) (from 9 p)))
        ≡ sequel (report (cond b (stop fault.Depth 0) (cond x (stop fault.Position 0) (from 9 (taken 0))))) (λ u. shifted 9 (report p))
    go true x = refl
    go false true = refl
    go false false = report_from 9 p

-- it is opened only below the 65th level
pub opened_shallow : (d : ℕ) (at : Place) (u : ℕ) → report (opened d at (taken 0)) ≡ Ok u → d < 64
unfolding report opened
opened_shallow d at u e = go (leb 64 d) refl e
  where
    go : (b : Bool) → leb 64 d ≡ b
        → report (cond b (stop fault.Depth 0) (cond (eqb at.line 4294967295 || eqb at.column 4294967295) (stop fault.Position 0) (from 9 (taken 0)))) ≡ Ok u
        → d < 64
    go true h e = let z : ◌≡◌ {A = ℕ} 0 1 = cc in absurd (omega arith)
    go false h e = omega (arith, leb-false)
