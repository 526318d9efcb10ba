-- Scans of a part by two tests in turn.
--     sequel_sequel         what follows a scan, and what follows that
--     lettered_refused      a text's span that is refused: its fault is the text's
--     lettered_searched     a span without fault: the text's fault is a reference, where one is found
--     opened_judged         an element's level is judged before its place
-- Assumes nothing.
use mathlib.Core.Path.{◌≡◌, refl}
use mathlib.Core.Bool.{Bool, true, false, cond, ◌||◌}
use mathlib.Core.List.{List}
use Prim.Native.Nat.{ℕ}
use native.Mathlib.Omega.{arith}
use lib.Dec.{eqb, leb}
use Rattle.std.specs.Prelude.{Ok, Err}
use Rattle.text.specs.declared.spans.Span.{Span}
use Rattle.text.specs.declared.spans.Bounds.{Bounds}
use Rattle.text.specs.declared.spans.Bounds.TheVariants.{Outside, Cuts, Empty, Good}
use Rattle.text.specs.Spans.{part_of, bounds_of}
use Rattle.references.specs.References.{has_reference}
use Rattle.tape.specs.declared.refusal.Fault.TheVariants as fault
use Rattle.commands.specs.declared.root.Place.{Place}
use Rattle.definitions.specs.Judging.{stop, spanned, from}
use Rattle.definitions.specs.Reading.{lettered, opened}
use Rattle.tape.specs.declared.refusal.TapeError.{TapeError}
use Rattle.tape.specs.Refusals.{fault_at}
use Rattle.root_check.specs.Checking.{Scan, report, taken, sequel, level, position}

pub sequel_sequel : (s : Scan) (j k : ℕ → Scan) → sequel s (λ u. sequel (j u) k) ≡ sequel (sequel s j) k
unfolding sequel
sequel_sequel (Ok u) j k = refl
sequel_sequel (Err e) j k = refl

module _ (text : List ℕ) (s : Span) (n : ℕ) (r : Scan) (e : r ≡ report (spanned (bounds_of text s) (taken n))) where
  pub lettered_refused : (f : TapeError) → r ≡ Err f → r ≡ report (lettered text s (taken n))
  unfolding report lettered spanned
  lettered_refused f h = go (bounds_of text s) e
    where
      go : (b : Bounds) → r ≡ report (spanned b (taken n))
          → r ≡ report (spanned b (cond (has_reference (part_of text s)) (stop fault.Reference 0) (taken n)))
      go Outside e = e
      go Cuts e = e
      go Empty e = let z : ◌≡◌ {A = ℕ} 0 1 = cc in absurd (omega arith)
      go Good e = let z : ◌≡◌ {A = ℕ} 0 1 = cc in absurd (omega arith)

  pub lettered_searched : (u : ℕ) (x : Bool) → r ≡ Ok u → has_reference (part_of text s) ≡ x
      → report (cond x (stop fault.Reference 0) (taken n)) ≡ report (lettered text s (taken n))
  unfolding report lettered spanned
  lettered_searched u x h q = rw q (go (bounds_of text s) e)
    where
      go : (b : Bounds) → r ≡ report (spanned b (taken n))
          → report (cond x (stop fault.Reference 0) (taken n)) ≡ report (spanned b (cond x (stop fault.Reference 0) (taken n)))
      go Outside e = let z : ◌≡◌ {A = ℕ} 0 1 = cc in absurd (omega arith)
      go Cuts e = let z : ◌≡◌ {A = ℕ} 0 1 = cc in absurd (omega arith)
      go Empty e = refl
      go Good e = refl

pub opened_judged : (d : ℕ) (at : Place) → sequel (level d) (λ u. position at) ≡ report (opened d at (taken 0))
unfolding report opened sequel from level position
opened_judged d at = go (leb 64 d) (eqb at.line 4294967295 || eqb at.column 4294967295)
  where
    go : (b x : Bool)
        → sequel (cond b (Err (fault_at fault.Depth 0)) (Ok 9)) (λ u. cond x (Err (fault_at fault.Position 0)) (Ok 9))
        ≡ report (cond b (stop fault.Depth 0) (cond x (stop fault.Position 0) (from 9 (taken 0))))
    go true x = refl
    go false true = refl
    go false false = refl
