-- What stands at the front of a tape and is no list, by its command: a name, a value, an element or a fragment. What its check reports, from what the checks of its parts told.
-- Assumes nothing.
use mathlib.Core.Path.{◌≡◌, refl, sym, ap, ◌∙◌}
use mathlib.Core.List.{List}
use Prim.Native.Nat.{ℕ, zero, suc, ◌+◌, ◌≤◌, ◌<◌}
use native.Mathlib.Numerals.{add-one}
use native.Mathlib.Omega.{arith}
use lib.ListN.{length, drop, length-drop}
use Rattle.std.specs.Prelude.{Result, Ok, Err}
use Rattle.text.specs.declared.spans.Span.{Span}
use Rattle.text.specs.Spans.{bounds_of}
use Rattle.tape.specs.declared.refusal.Fault.TheVariants as fault
use Rattle.commands.specs.declared.error.CommandError.{CommandError}
use Rattle.commands.specs.declared.root.Place.{Place}
use Rattle.commands.specs.declared.root.NameCommand.TheVariants as names
use Rattle.commands.specs.declared.root.ValueCommand.{ValueCommand}
use Rattle.commands.specs.declared.root.ValueCommand.TheVariants as values
use Rattle.commands.specs.Root.{name_command, value_command}
use Rattle.definitions.specs.Judging.{Parsed, error_place, named, worse}
use Rattle.definitions.specs.Tree.{plain, identifier, this, namespaced, Node, element, fragment, string, node_value}
use Rattle.definitions.specs.Reading.{lettered, opened, name_by, value_by, members_at, name_at, element_at, fragment_at, attributes_at, value_at, children_at}
use Rattle.tape.specs.declared.refusal.TapeError.{TapeError}
use Rattle.tape.specs.Refusals.{fault_at}
use Rattle.root_check.specs.Checking.{Scan, report, taken, shifted, sequel, reach, Within, Reports, Opens}
use Rattle.root_check.specs.InOrder.{Placed, InOrder}
use Rattle.root_check.proofs.Scans.{report_from, report_map, report_then, named_then, named_done, lettered_done, opened_then}
use Rattle.root_check.proofs.Readings.{Reads, less, reads_within, opened_reads, element_reads, fragment_reads}
use Rattle.root_check.proofs.Behind.{part, part_reach, reports_part}

-- ---- a name

module _ (text t : List ℕ) where
  abbrev pub Names : Scan → Type 0
  Names r = Reports (λ f l. report (name_at f text l)) t r

  pub name_plain : (s : Span) {r : Scan} → name_command t ≡ Ok (names.Plain s) → r ≡ report (named (bounds_of text s) (taken 5)) → Names r
  unfolding name_at name_by
  name_plain s e h = record { tells = λ f i. rw (e, h) (named_done (plain s) 5 (bounds_of text s)) }

  pub name_namespaced : (s n : Span) {r : Scan} → name_command t ≡ Ok (names.Namespaced s n)
      → r ≡ report (named (worse (bounds_of text s) (bounds_of text n)) (taken 9)) → Names r
  unfolding name_at name_by
  name_namespaced s n e h = record { tells = λ f i. rw (e, h) (named_done (namespaced s n) 9 (worse (bounds_of text s) (bounds_of text n))) }

  module _ {s : Span} {q : Scan} (e : name_command t ≡ Ok (names.Identifier s)) (h : q ≡ report (named (bounds_of text s) (taken 5))) where
    identified : (f : ℕ) → report (name_at f text t) ≡ sequel q (λ u. shifted u (report (members_at f text (drop u t))))
    unfolding name_at name_by
    identified f = rw (e, h) (named_then 5 _ (λ u. shifted u (report (members_at f text (drop u t)))) (report_map (identifier s) _ ∙ report_from 5 _) (bounds_of text s))

    pub identifier_refused : {x : TapeError} → q ≡ Err x → Names (Err x)
    unfolding sequel
    identifier_refused k = record { tells = λ f i. identified f ∙ rw k }

    pub identifier_behind : {n : ℕ} {r : Scan} → q ≡ Ok n → Opens (λ f l. shifted n (report (members_at f text (drop n l)))) t r → Names r
    unfolding sequel
    identifier_behind k O = record { tells = λ f i. identified f ∙ rw k (O.tells f (omega arith)) }

  pub name_this : {r : Scan} → name_command t ≡ Ok names.This → Opens (λ f l. shifted 1 (report (members_at f text (drop 1 l)))) t r → Names r
  unfolding name_at name_by
  name_this e O = record { tells = λ f i. rw e (report_map this _ ∙ report_from 1 _ ∙ O.tells f (omega arith)) }

  pub name_unread : {x : CommandError} → name_command t ≡ Err x → Names (Err (fault_at fault.Grammar (error_place t x)))
  unfolding name_at name_by report
  name_unread e = record { tells = λ f i. rw e }

-- ---- a value

module _ (text t : List ℕ) (d : ℕ) where
  abbrev pub Valued : Scan → Type 0
  Valued r = Reports (λ f l. report (value_at f text d l)) t r

  -- by its command, whatever the bound
  value_told : {r : Scan} (c : Result ValueCommand CommandError) → value_command t ≡ c
      → ((f : ℕ) → length t ≤ f → report (value_by text d t c (λ p. element_at f text d p (drop 9 t)) (λ p. fragment_at f text d p (drop 9 t))) ≡ r)
      → Valued r
  unfolding value_at
  value_told {r} c e k = record { tells = go }
    where
      go : (f : ℕ) → length t < f → report (value_at f text d t) ≡ r
      go zero h = absurd (omega arith)
      go (suc f) h = rw e (k f (omega arith))

  pub value_absent : value_command t ≡ Ok values.Absent → Valued (Ok 1)
  unfolding value_by report
  value_absent e = value_told _ e (λ f h. refl)

  pub value_text : (s : Span) {r : Scan} → value_command t ≡ Ok (values.Text s) → r ≡ report (lettered text s (taken 5)) → Valued r
  unfolding value_by
  value_text s e h = value_told _ e (λ f i. lettered_done (string s) 5 text s ∙ sym h)

  pub value_expression : (x : ℕ) → value_command t ≡ Ok (values.Expression x) → Valued (Ok 3)
  unfolding value_by report
  value_expression x e = value_told _ e (λ f h. refl)

  pub value_empty : value_command t ≡ Ok values.Empty → Valued (Ok 1)
  unfolding value_by report
  value_empty e = value_told _ e (λ f h. refl)

  pub value_element : (p : Place) {r : Scan} → value_command t ≡ Ok (values.Element p)
      → Opens (λ f l. report (opened d p (element_at f text d p (drop 9 l)))) t r → Valued r
  unfolding value_by
  value_element p e O = value_told _ e (λ f h. report_map node_value _ ∙ O.tells f h)

  pub value_fragment : (p : Place) {r : Scan} → value_command t ≡ Ok (values.Fragment p)
      → Opens (λ f l. report (opened d p (fragment_at f text d p (drop 9 l)))) t r → Valued r
  unfolding value_by
  value_fragment p e O = value_told _ e (λ f h. report_map node_value _ ∙ O.tells f h)

  pub value_unread : {x : CommandError} → value_command t ≡ Err x → Valued (Err (fault_at fault.Grammar (error_place t x)))
  unfolding value_by report
  value_unread e = value_told _ e (λ f h. refl)

-- ---- an element or a fragment that is opened: `front` is what the scan of its level and place told

module _ (t : List ℕ) (d : ℕ) (p : Place) {front : Scan} (h : front ≡ report (opened d p (taken 0))) where
  pub opens_bad : {A : Type 0} (node : ℕ → List ℕ → Parsed A) {x : TapeError} → front ≡ Err x → Opens (λ f l. report (opened d p (node f l))) t (Err x)
  unfolding sequel
  opens_bad node e = record { tells = λ f i. opened_then d p (node f t) ∙ rw (← h, e) }

  opens_good : {A : Type 0} (node : ℕ → List ℕ → Parsed A) (u : ℕ) {q r : Scan} → front ≡ Ok u → r ≡ shifted 9 q
      → ((f : ℕ) → length t ≤ f → report (node f t) ≡ q) → Opens (λ f l. report (opened d p (node f l))) t r
  unfolding sequel
  opens_good node u e k N = record { tells = λ f i. opened_then d p (node f t) ∙ rw (← h, e, k) (ap (shifted 9) (N f i)) }

  module _ (text : List ℕ) (u : ℕ) (good : front ≡ Ok u) (room : 9 ≤ length t) where
    pub opens_element : {q r : Scan} → ((p : Place) → Reports (λ f l. report (element_at (suc f) text d p l)) (part 9 t) q) → r ≡ shifted 9 q
        → Opens (λ f l. report (opened d p (element_at f text d p (drop 9 l)))) t r
    opens_element {q} R k = opens_good (λ f l. element_at f text d p (drop 9 l)) u good k go
      where
        go : (f : ℕ) → length t ≤ f → report (element_at f text d p (drop 9 t)) ≡ q
        go zero i = absurd (omega arith)
        go (suc f) i = (reports_part 9 t (R p)).tells f (omega (arith, length-drop 9 t))

    pub opens_fragment : {q r : Scan} → Reports (λ f l. report (children_at f text (d + 1) l)) (part 9 t) q → r ≡ shifted 9 q
        → Opens (λ f l. report (opened d p (fragment_at f text d p (drop 9 l)))) t r
    unfolding fragment_at
    opens_fragment {q} R k = opens_good (λ f l. fragment_at f text d p (drop 9 l)) u good k go
      where
        go : (f : ℕ) → length t ≤ f → report (fragment_at f text d p (drop 9 t)) ≡ q
        go zero i = absurd (omega arith)
        go (suc f) i = report_map (fragment p) _ ∙ (rw (add-one d) at ((reports_part {read = λ f l. report (children_at f text (d + 1) l)} 9 t R).tells f (omega (arith, length-drop 9 t))))

-- what such a scan says stays within the tape
module _ (text t : List ℕ) (d : ℕ) (p : Place) {q : Scan} (room : 9 ≤ length t) where
  opens_within : (node : ℕ → List ℕ → Parsed Node) → ((f : ℕ) (l : List ℕ) → Placed p → Reads (InOrder text) 0 (length l) (node f l))
      → Opens (λ f l. report (opened d p (node f (drop 9 l)))) t q → Within 1 (length t) q
  opens_within node R O = reads_within (less 1 (omega arith) (opened_reads d p t room (R (length t) (drop 9 t)))) (O.tells (length t) (omega arith))

  pub element_opens_within : Opens (λ f l. report (opened d p (element_at f text d p (drop 9 l)))) t q → Within 1 (length t) q
  element_opens_within O = opens_within (λ f l. element_at f text d p l) (λ f l o. element_reads f text d p l o) O

  pub fragment_opens_within : Opens (λ f l. report (opened d p (fragment_at f text d p (drop 9 l)))) t q → Within 1 (length t) q
  fragment_opens_within O = opens_within (λ f l. fragment_at f text d p l) (λ f l o. fragment_reads f text d p l o) O

-- ---- an element behind its place: a name, attributes, children

module _ (text t : List ℕ) (d : ℕ) where
  abbrev pub Elements : Scan → Type 0
  Elements r = (p : Place) → Reports (λ f l. report (element_at (suc f) text d p l)) t r

  -- from what its parts report
  element_report : (p : Place) (f : ℕ)
      → report (element_at (suc f) text d p t)
      ≡ sequel (report (name_at f text t))
      (λ u. sequel (shifted u (report (attributes_at f text (d + 1) (drop u t)))) (λ v. shifted v (report (children_at f text (d + 1) (drop v t)))))
  unfolding element_at
  element_report p f =
      rw (add-one d)
      (report_then _ _ _ (λ n u.
      report_then _ _ _ (λ a v. report_map (element p n a) _ ∙ report_from v _)
      ∙ ap (λ (x : Scan). sequel x (λ v. shifted v (report (children_at f text (suc d) (drop v t))))) (report_from u _)))

  -- how far a scan of it reaches
  pub element_reach : (n : ℕ) {q : Scan} → n ≤ length t → ((p : Place) → Reports (λ f l. report (element_at (suc f) text d p l)) (part n t) q) → n + reach q ≤ length t
  element_reach n h R =
      let origin : Place = record { line = 0; column = 0 } in
      let placed : Placed origin = record { line = λ q. omega arith; column = λ q. omega arith } in
      part_reach (λ f l. element_reads (suc f) text d origin l placed) n t h (R origin)

  module _ {name : Scan} (N : Reports (λ f l. report (name_at f text l)) t name) where
    pub element_no_name : {x : TapeError} → name ≡ Err x → Elements (Err x)
    unfolding sequel
    element_no_name e p = record { tells = λ f h. element_report p f ∙ rw (N.tells f h, e) }

    module _ {u : ℕ} {a attributes : Scan} (good : name ≡ Ok u) (room : u ≤ length t)
        (A : Reports (λ f l. report (attributes_at f text (d + 1) l)) (part u t) a) (shift : attributes ≡ shifted u a) where
      element_named : (p : Place) (f : ℕ) → length t < f
          → report (element_at (suc f) text d p t) ≡ sequel attributes (λ v. shifted v (report (children_at f text (d + 1) (drop v t))))
      unfolding sequel
      element_named p f h =
          let x : report (attributes_at f text (d + 1) (drop u t)) ≡ a = (reports_part u t A).tells f (omega (arith, length-drop u t)) in
          element_report p f ∙ rw (N.tells f h, good, x, shift)

      pub element_no_attributes : {x : TapeError} → attributes ≡ Err x → Elements (Err x)
      unfolding sequel
      element_no_attributes e p = record { tells = λ f h. element_named p f h ∙ rw e }

      pub element_whole : {v : ℕ} {k r : Scan} → attributes ≡ Ok v → v ≤ length t
          → Reports (λ f l. report (children_at f text (d + 1) l)) (part v t) k → r ≡ shifted v k → Elements r
      unfolding sequel
      element_whole {v} {k} e fits K s p =
          record {
            tells = λ f h.
                let x : report (children_at f text (d + 1) (drop v t)) ≡ k = (reports_part v t K).tells f (omega (arith, length-drop v t)) in
                element_named p f h ∙ rw (e, x, s);
          }
