-- What stands n bytes behind the front of a tape, where what is in front was scanned. `part n t` is what the code writes `&tape[n..]`.
--     part_length, part_reach    how long the part is, how far a scan of it reaches
--     shifted_within, opens_..   a scan of the part, told from where the whole begins
-- Assumes nothing.
use mathlib.Core.Path.{◌≡◌, sym, ap, subst, ◌∙◌}
use mathlib.Core.List.{List}
use Prim.Native.Nat.{ℕ, suc, ◌+◌, ◌-◌, ◌≤◌}
use native.Mathlib.Omega.{arith}
use lib.ListN.{length, take, drop, length-drop}
use Rattle.std.specs.Prelude.{Ok, Err}
use Rattle.text.proofs.Lists.{tail_part}
use Rattle.definitions.specs.Judging.{Parsed, from}
use Rattle.tape.specs.declared.refusal.TapeError.{TapeError}
use Rattle.root_check.specs.Checking.{Scan, report, shifted, reach, Within, Reports, Opens}
use Rattle.root_check.proofs.Scans.{report_from}
use Rattle.root_check.proofs.Readings.{Reads, reads_within, behind}

abbrev pub part : ℕ → List ℕ → List ℕ
part n t = take (length t - n) (drop n t)

pub part_length : (n : ℕ) (t : List ℕ) → length (part n t) ≡ length t - n
part_length n t = ap length (tail_part t n) ∙ length-drop n t

pub within_reach : (m len : ℕ) (q : Scan) → Within m len q → reach q ≤ len
within_reach m len (Ok u) h = h.1
within_reach m len (Err e) h = h

pub within_less : (m n len : ℕ) (q : Scan) → m ≤ n → Within n len q → Within m len q
within_less m n len (Ok u) h k = (omega arith, k.1)
within_less m n len (Err e) h k = k

-- a scan that is known to be good
pub within_good : {m len u : ℕ} {q : Scan} → q ≡ Ok u → Within m len q → (m ≤ u) × (u ≤ len)
within_good {m} {len} e h = subst (Within m len) e h

-- .. or bad
pub within_bad : (m len : ℕ) {q : Scan} {e : TapeError} → q ≡ Err e → Within m len q → e.place ≤ len
within_bad m len e h = subst (Within m len) e h

pub reports_part : {read : ℕ → List ℕ → Scan} (n : ℕ) (t : List ℕ) {q : Scan} → Reports read (part n t) q → Reports read (drop n t) q
reports_part n t h = rw (tail_part t n) at h

module _ {A : Type 0} {Q : A → Type 0} {m : ℕ} {read : ℕ → List ℕ → Parsed A} (R : (f : ℕ) (t : List ℕ) → Reads Q m (length t) (read f t)) where
  pub reports_within : {t : List ℕ} {q : Scan} → Reports (λ f l. report (read f l)) t q → Within m (length t) q
  reports_within {t} h = reads_within (R (suc (length t)) t) (h.tells (suc (length t)) (omega arith))

  pub part_reach : (n : ℕ) (t : List ℕ) {q : Scan} → n ≤ length t → Reports (λ f l. report (read f l)) (part n t) q → n + reach q ≤ length t
  part_reach n t {q} h k = omega (arith, within_reach m (length (part n t)) q (reports_within k), part_length n t)

  -- a scan of the part, told from where the whole begins
  pub shifted_within : (n : ℕ) (t : List ℕ) {q r : Scan} → 1 ≤ n → n ≤ length t → Reports (λ f l. report (read f l)) (part n t) q → r ≡ shifted n q → Within 1 (length t) r
  shifted_within n t {q} {r} o h k e =
      let x : report (from n (read (suc (length t)) (drop n t))) ≡ r =
      report_from n _ ∙ ap (shifted n) ((reports_part n t k).tells (suc (length t)) (omega (arith, length-drop n t))) ∙ sym e
      in
      within_less 1 _ _ r (omega arith) (reads_within (behind t n h (R (suc (length t)) (drop n t))) x)

  -- the same, by what it is said to come to
  pub behind_within : (n : ℕ) (t : List ℕ) {r : Scan} → 1 ≤ n → n ≤ length t → Opens (λ f l. shifted n (report (read f (drop n l)))) t r → Within 1 (length t) r
  behind_within n t {r} o h O =
      let x : report (from n (read (length t) (drop n t))) ≡ r = report_from n _ ∙ O.tells (length t) (omega arith) in
      within_less 1 _ _ r (omega arith) (reads_within (behind t n h (R (length t) (drop n t))) x)

-- the part is read behind n bytes
pub opens_behind : {read : ℕ → List ℕ → Scan} (n : ℕ) (t : List ℕ) {q r : Scan} → 1 ≤ n → n ≤ length t → Reports read (part n t) q → r ≡ shifted n q
    → Opens (λ f l. shifted n (read f (drop n l))) t r
opens_behind n t o g k h =
    record { tells = λ f i. ap (shifted n) ((reports_part n t k).tells f (omega (arith, length-drop n t))) ∙ sym h }
