-- The root: its scopes, one after the other, the element or fragment that stands in them, and that nothing more follows.
-- Assumes nothing.
use mathlib.Core.Path.{◌≡◌, refl, sym, ap, ◌∙◌}
use mathlib.Core.Bool.{Bool, true, false, cond, ◌||◌}
use mathlib.Core.List.{List}
use Prim.Native.Nat.{ℕ, suc, ◌+◌, ◌≤◌, ◌<◌}
use native.Mathlib.Omega.{arith}
use lib.ListN.{length, drop, length-drop}
use lib.Dec.{ltb}
use borrow.Author.Tests.{lt-ltb, le-ltb}
use Rattle.std.specs.Prelude.{Result, Ok, Err}
use Rattle.text.proofs.Lists.{tail_part}
use Rattle.tape.specs.declared.refusal.Fault.TheVariants as fault
use Rattle.commands.specs.declared.error.CommandError.{CommandError}
use Rattle.commands.specs.declared.root.Place.{Place}
use Rattle.commands.specs.declared.root.Heritage.{Heritage}
use Rattle.commands.specs.declared.root.ScopeKind.{ScopeKind}
use Rattle.commands.specs.declared.root.ScopeCommand.{ScopeCommand}
use Rattle.commands.specs.declared.root.ScopeCommand.TheVariants as scopes
use Rattle.commands.specs.Root.{heritage_command, scope_command}
use Rattle.commands.specs.Sizes.{scope_size}
use Rattle.commands.proofs.Lengths.{scope_fits}
use Rattle.definitions.specs.Judging.{Parsed, done, stop, ◌then◌, from, error_place}
use Rattle.definitions.specs.Reading.{opened, element_at, fragment_at, is_function, in_scope, unscoped, scopes_by, scopes_at, root_by, whole, read_root}
use Rattle.tape.specs.declared.refusal.TapeError.{TapeError}
use Rattle.tape.specs.Refusals.{fault_at}
use Rattle.root_check.specs.Checking.{Scan, checked, closed, report, shifted, reach, Reports, Opens}
use Rattle.root_check.proofs.Scans.{report_from, report_map}
use Rattle.root_check.proofs.Behind.{part, part_length, within_reach, reports_part}
use Rattle.root_check.proofs.Commands.{element_opens_within, fragment_opens_within}
use Rattle.root_check.proofs.Loops.{Passed, passed_by, passed_on}

-- ---- the scopes

module _ {all : ℕ → Scan} (text tape : List ℕ) (found : Bool) {i : ℕ} (P : Passed all (λ f l. report (scopes_at f text found l)) tape i) where
  seen : {c : Result ScopeCommand CommandError} → scope_command found (part i tape) ≡ c → scope_command found (drop i tape) ≡ c
  seen e = rw (tail_part tape i) at e

  -- how much of the tape is left for what stands there
  pub scope_room : {c : Result ScopeCommand CommandError} → scope_command found (part i tape) ≡ c → i + scope_size c ≤ length tape
  scope_room e = omega (arith, scope_fits found (drop i tape) (seen e), length-drop i tape, P.inside)

  pub scopes_on : (k : ScopeKind) {next : Bool} → scope_command found (part i tape) ≡ Ok (scopes.Scope k) → next ≡ (found || is_function k)
      → Passed all (λ f l. report (scopes_at f text next l)) tape (i + 2)
  unfolding scopes_at scopes_by
  scopes_on k {next} e h =
      passed_on P (λ f l. report (scopes_at f text next l)) 2 (omega arith) (scope_room e)
      (λ g j. rw (seen e, h) (report_map (in_scope k) _ ∙ report_from 2 _))

  -- the list ends there with what the command says
  ends : (c : Result ScopeCommand CommandError) (x : Scan) → scope_command found (part i tape) ≡ c
      → ((g : ℕ) → length (drop i tape) ≤ g
      → report (scopes_by text (drop i tape) c
      (λ p. element_at g text 0 p (drop 9 (drop i tape)))
      (λ p. fragment_at g text 0 p (drop 9 (drop i tape)))
      (λ k. from 2 (scopes_at g text (found || is_function k) (drop 2 (drop i tape))))) ≡ x)
      → (f : ℕ) → length tape < f → all f ≡ shifted i x
  unfolding scopes_at
  ends c x e k f h = (passed_by P (λ g. x) (λ g j. rw (seen e) (k g (omega arith))) f h).2

  pub scopes_unread : {x : CommandError} → scope_command found (part i tape) ≡ Err x
      → (f : ℕ) → length tape < f → all f ≡ Err (fault_at fault.Grammar (i + error_place (part i tape) x))
  unfolding scopes_by report shifted
  scopes_unread {x} e f h =
      ends _ (Err (fault_at fault.Grammar (error_place (drop i tape) x))) e (λ g j. refl) f h
      ∙ ap (λ (l : List ℕ). Err (fault_at fault.Grammar (i + error_place l x))) (sym (tail_part tape i))

  element_room : (p : Place) (c : Result ScopeCommand CommandError) → scope_size c ≡ 9 → scope_command found (part i tape) ≡ c → 9 ≤ length (part i tape)
  element_room p c n e = omega (arith, scope_room e, part_length i tape)

  pub scopes_element_reach : (p : Place) {q : Scan} → scope_command found (part i tape) ≡ Ok (scopes.Element p)
      → Opens (λ f l. report (opened 0 p (element_at f text 0 p (drop 9 l)))) (part i tape) q → i + reach q ≤ length tape
  scopes_element_reach p {q} e O =
      omega (
        arith,
        within_reach 1 (length (part i tape)) q (element_opens_within text (part i tape) 0 p (element_room p _ refl e) O),
        part_length i tape,
        P.inside,
      )

  pub scopes_fragment_reach : (p : Place) {q : Scan} → scope_command found (part i tape) ≡ Ok (scopes.Fragment p)
      → Opens (λ f l. report (opened 0 p (fragment_at f text 0 p (drop 9 l)))) (part i tape) q → i + reach q ≤ length tape
  scopes_fragment_reach p {q} e O =
      omega (
        arith,
        within_reach 1 (length (part i tape)) q (fragment_opens_within text (part i tape) 0 p (element_room p _ refl e) O),
        part_length i tape,
        P.inside,
      )

  pub scopes_element : (p : Place) {q r : Scan} → scope_command found (part i tape) ≡ Ok (scopes.Element p)
      → Opens (λ f l. report (opened 0 p (element_at f text 0 p (drop 9 l)))) (part i tape) q → r ≡ shifted i q
      → (f : ℕ) → length tape < f → all f ≡ r
  unfolding scopes_by
  scopes_element p {q} e O k f h =
      let Q : Opens (λ f l. report (opened 0 p (element_at f text 0 p (drop 9 l)))) (drop i tape) q = rw (tail_part tape i) at O in
      ends _ q e (λ g j. report_map unscoped _ ∙ Q.tells g j) f h ∙ sym k

  pub scopes_fragment : (p : Place) {q r : Scan} → scope_command found (part i tape) ≡ Ok (scopes.Fragment p)
      → Opens (λ f l. report (opened 0 p (fragment_at f text 0 p (drop 9 l)))) (part i tape) q → r ≡ shifted i q
      → (f : ℕ) → length tape < f → all f ≡ r
  unfolding scopes_by
  scopes_fragment p {q} e O k f h =
      let Q : Opens (λ f l. report (opened 0 p (fragment_at f text 0 p (drop 9 l)))) (drop i tape) q = rw (tail_part tape i) at O in
      ends _ q e (λ g j. report_map unscoped _ ∙ Q.tells g j) f h ∙ sym k

-- ---- the whole tape

closed_whole : {A : Type 0} (t : List ℕ) (p : Parsed A) → checked (whole t p) ≡ closed (length t) (report p)
unfolding whole ◌then◌ report checked closed
closed_whole t (done a u) = go (ltb u (length t))
  where
    go : (b : Bool) → checked (cond b (stop fault.Grammar u) (done a u)) ≡ cond b (Err (fault_at fault.Grammar u)) (Ok tt)
    go true = refl
    go false = refl
closed_whole t (stop f q) = refl

module _ (text t : List ℕ) where
  -- by the command at its front
  root_told : (c : Result Heritage CommandError) → heritage_command t ≡ c
      → checked (read_root text t) ≡ closed (length t) (report (root_by t c (from 2 (scopes_at (suc (length t)) text false (drop 2 t)))))
  unfolding read_root
  root_told c e = rw e (closed_whole t _)

  -- a heritage stands there, and the scopes behind it were scanned as s
  module _ {h : Heritage} {q s : Scan} (e : heritage_command t ≡ Ok h) (R : Reports (λ f l. report (scopes_at f text false l)) (part 2 t) q) (i : s ≡ shifted 2 q) where
    pub root_heritage : closed (length t) s ≡ checked (read_root text t)
    unfolding root_by
    root_heritage =
        sym (root_told _ e
        ∙ ap (closed (length t)) (report_map _ _ ∙ report_from 2 _ ∙ ap (shifted 2) ((reports_part 2 t R).tells _ (omega (arith, length-drop 2 t))) ∙ sym i))

    pub root_refused : {x : TapeError} → s ≡ Err x → Err x ≡ checked (read_root text t)
    unfolding closed
    root_refused k = rw k at root_heritage

    pub root_more : {u : ℕ} → s ≡ Ok u → u < length t → Err (fault_at fault.Grammar u) ≡ checked (read_root text t)
    unfolding closed
    root_more {u} k l = rw (k, lt-ltb u (length t) l) at root_heritage

    pub root_all : {u : ℕ} → s ≡ Ok u → length t ≤ u → Ok tt ≡ checked (read_root text t)
    unfolding closed
    root_all {u} k l = rw (k, le-ltb u (length t) l) at root_heritage

  pub root_unread : {x : CommandError} → heritage_command t ≡ Err x → Err (fault_at fault.Grammar (error_place t x)) ≡ checked (read_root text t)
  unfolding root_by report closed
  root_unread e = sym (root_told _ e)
