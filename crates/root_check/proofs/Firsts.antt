-- What stands first in a list on a tape, by its command: a step of the list's check. `r` is what the code made of the scan `q`.
-- Assumes nothing.
use mathlib.Core.Path.{◌≡◌, sym, ap, subst, ◌∙◌}
use mathlib.Core.List.{List, ◌∷◌}
use Prim.Native.Nat.{ℕ, suc, ◌≤◌, ◌<◌}
use native.Mathlib.Omega.{arith}
use lib.ListN.{length, drop, length-drop}
use Rattle.std.specs.Prelude.{Some, None, Result, Ok, Err}
use Rattle.text.specs.declared.spans.Span.{Span}
use Rattle.text.specs.declared.spans.Bounds.{Bounds}
use Rattle.text.specs.Spans.{bounds_of}
use Rattle.tape.specs.declared.refusal.Fault.TheVariants as fault
use Rattle.commands.specs.declared.error.CommandError.{CommandError}
use Rattle.commands.specs.declared.root.Place.{Place}
use Rattle.commands.specs.declared.root.AttributeCommand.TheVariants as attributes
use Rattle.commands.specs.declared.root.PropertyCommand.TheVariants as properties
use Rattle.commands.specs.declared.root.ChildCommand.TheVariants as children
use Rattle.commands.specs.Root.{member_command, attribute_command, property_command, child_command}
use Rattle.commands.proofs.Lengths.{member_fits, attribute_fits, property_fits, child_fits}
use Rattle.definitions.specs.Judging.{◌then◌, map, from, error_place, spanned, named, worse}
use Rattle.definitions.specs.Tree.{unnamed, prop_name, Attributes, attribute, namespaced_attribute, spread, literal, Value, text_child, expression_child}
use Rattle.definitions.specs.Tree.{empty_child, spread_child, node_child}
use Rattle.definitions.specs.Reading.{lettered, opened, members_by, properties_by, attributes_by, children_by, members_at, properties_at, element_at}
use Rattle.definitions.specs.Reading.{fragment_at, attributes_at, value_at, children_at}
use Rattle.tape.specs.declared.refusal.TapeError.{TapeError}
use Rattle.root_check.specs.declared.check.Step.{Step}
use Rattle.root_check.specs.declared.check.Step.TheVariants as step
use Rattle.tape.specs.Refusals.{fault_at}
use Rattle.root_check.specs.Checking.{Scan, report, taken, shifted, sequel, Within, Reports, Opens, going, stepped, Moves, Steps}
use Rattle.root_check.proofs.Scans.{stepped_going, report_from, report_map, report_then, spanned_then, named_then, lettered_then}
use Rattle.root_check.proofs.Readings.{reads, reads_within, named_reads, spanned_reads, lettered_reads, unread_within, properties_reads, value_reads}
use Rattle.root_check.proofs.Behind.{part, reports_part, within_good, within_bad, shifted_within, behind_within}
use Rattle.root_check.proofs.Commands.{element_opens_within, fragment_opens_within}

-- ---- steps

module _ {read : ℕ → List ℕ → Scan} {t : List ℕ} where
  -- the list goes on behind what was scanned as q
  pub going_steps : (q : Scan) {r : Result Step TapeError} → r ≡ going q → Within 1 (length t) q
      → ((f : ℕ) → length t < suc f → read (suc f) t ≡ sequel q (λ u. shifted u (read f (drop u t))))
      → Steps read t r
  unfolding going
  going_steps q e w k =
      subst (Steps read t) (sym e) (record { tells = λ f h. k f h ∙ sym (stepped_going q _); moves = moves q w })
    where
      moves : (q : Scan) → Within 1 (length t) q → Moves (length t) (going q)
      moves (Ok u) w = w
      moves (Err e) w = w

  -- it goes on behind n bytes
  pub next_steps : (n : ℕ) → 1 ≤ n → n ≤ length t
      → ((f : ℕ) → length t < suc f → read (suc f) t ≡ shifted n (read f (drop n t)))
      → Steps read t (Ok (step.Next n))
  unfolding stepped
  next_steps n h i k = record { tells = k; moves = (h, i) }

  pub end_steps : (n : ℕ) → n ≤ length t → ((f : ℕ) → read (suc f) t ≡ Ok n) → Steps read t (Ok (step.End n))
  unfolding stepped
  end_steps n h k = record { tells = λ f i. k f; moves = h }

  -- it ends with an error
  pub bad_steps : (e : TapeError) → e.place ≤ length t → ((f : ℕ) → length t < suc f → read (suc f) t ≡ Err e) → Steps read t (Err e)
  unfolding stepped
  bad_steps e h k = record { tells = k; moves = h }

-- ---- a command of n bytes whose span was judged

module _ {q : Scan} (n len : ℕ) (one : 1 ≤ n) (room : n ≤ len) where
  pub named_within : (b : Bounds) → q ≡ report (named b (taken n)) → Within 1 len q
  named_within b e = reads_within {Q = λ x. Unit {0}} (named_reads b (λ g. reads {u = n} tt one room)) (sym e)

  pub spanned_within : (text : List ℕ) (s : Span) → q ≡ report (spanned (bounds_of text s) (taken n)) → Within 1 len q
  spanned_within text s e = reads_within {Q = λ x. Unit {0}} (spanned_reads text s (λ g. reads {u = n} tt one room)) (sym e)

  pub lettered_within : (text : List ℕ) (s : Span) → q ≡ report (lettered text s (taken n)) → Within 1 len q
  lettered_within text s e = reads_within {Q = λ x. Unit {0}} (lettered_reads text s (λ g. reads {u = n} tt one room)) (sym e)

-- ---- names and properties

module _ (text t : List ℕ) where
  abbrev pub Members : Result Step TapeError → Type 0
  Members r = Steps (λ f l. report (members_at f text l)) t r

  pub members_member : (s : Span) {q : Scan} {r : Result Step TapeError} → member_command t ≡ Ok (Some s) → q ≡ report (named (bounds_of text s) (taken 5)) → r ≡ going q
      → Members r
  unfolding members_at members_by
  members_member s e h k =
      going_steps _ k (named_within 5 (length t) (omega arith) (member_fits t e) _ h)
      (λ f i. rw (e, h) (named_then 5 _ _ (report_map (s ∷◌) _ ∙ report_from 5 _) (bounds_of text s)))

  pub members_other : member_command t ≡ Ok None → Members (Ok (step.End 0))
  unfolding members_at members_by report
  members_other e = end_steps 0 (omega arith) (λ f. rw e)

  pub members_unread : {x : CommandError} → member_command t ≡ Err x → Members (Err (fault_at fault.Grammar (error_place t x)))
  unfolding members_at members_by report
  members_unread {x} e = bad_steps _ (unread_within t x) (λ f h. rw e)

  abbrev pub Properties : Result Step TapeError → Type 0
  Properties r = Steps (λ f l. report (properties_at f text l)) t r

  pub properties_property : (x : ℕ) → property_command t ≡ Ok (properties.Property x) → Properties (Ok (step.Next 3))
  unfolding properties_at properties_by
  properties_property x e = next_steps 3 (omega arith) (property_fits t e) (λ f h. rw e (report_map (unnamed x ∷◌) _ ∙ report_from 3 _))

  pub properties_named : (x : ℕ) (s : Span) {q : Scan} {r : Result Step TapeError} → property_command t ≡ Ok (properties.Named x s)
      → q ≡ report (spanned (bounds_of text s) (taken 7)) → r ≡ going q → Properties r
  unfolding properties_at properties_by
  properties_named x s e h k =
      going_steps _ k (spanned_within 7 (length t) (omega arith) (property_fits t e) text s h)
      (λ f i. rw (e, h) (spanned_then 7 _ _ (report_map (prop_name x s ∷◌) _ ∙ report_from 7 _) (bounds_of text s)))

  pub properties_end : property_command t ≡ Ok properties.End → Properties (Ok (step.End 1))
  unfolding properties_at properties_by report
  properties_end e = end_steps 1 (property_fits t e) (λ f. rw e)

  pub properties_unread : {x : CommandError} → property_command t ≡ Err x → Properties (Err (fault_at fault.Grammar (error_place t x)))
  unfolding properties_at properties_by report
  properties_unread {x} e = bad_steps _ (unread_within t x) (λ f h. rw e)

-- ---- attributes

module _ (text t : List ℕ) (d : ℕ) where
  abbrev pub Attributed : Result Step TapeError → Type 0
  Attributed r = Steps (λ f l. report (attributes_at f text d l)) t r

  -- a name with the bounds b, in a command of n bytes, and its value
  valued : (b : Bounds) (n : ℕ) (g : Value → Attributes → Attributes) (f : ℕ)
      → report (named b (from n (value_at f text d (drop n t)) then λ v u. map (g v) (from u (attributes_at f text d (drop u t)))))
      ≡ sequel (report (named b (taken n)))
      (λ v. sequel (shifted v (report (value_at f text d (drop v t)))) (λ u. shifted u (report (attributes_at f text d (drop u t)))))
  valued b n g f =
      named_then n _ (λ v. sequel (shifted v (report (value_at f text d (drop v t)))) (λ u. shifted u (report (attributes_at f text d (drop u t)))))
      (report_then _ _ _ (λ v u. report_map (g v) _ ∙ report_from u _)
      ∙ ap (λ (x : Scan). sequel x (λ u. shifted u (report (attributes_at f text d (drop u t))))) (report_from n (value_at f text d (drop n t))))
      b

  -- it was scanned as q₀
  module _ {q₀ : Scan} (b : Bounds) (m : ℕ) (g : Value → Attributes → Attributes) (one : 1 ≤ m) (room : m ≤ length t) (h : q₀ ≡ report (named b (taken m)))
      (by : (f : ℕ) → attributes_at (suc f) text d t ≡ named b (from m (value_at f text d (drop m t)) then λ v u. map (g v) (from u (attributes_at f text d (drop u t))))) where
    attribute_refused : {x : TapeError} → q₀ ≡ Err x → Attributed (Err x)
    unfolding sequel
    attribute_refused e =
        bad_steps _ (within_bad 1 (length t) e (named_within m (length t) one room b h)) (λ f i. ap report (by f) ∙ valued b m g f ∙ rw (← h, e))

    attribute_valued : {n : ℕ} {q : Scan} {r : Result Step TapeError} → q₀ ≡ Ok n → Opens (λ f l. shifted n (report (value_at f text d (drop n l)))) t q
        → r ≡ going q → Attributed r
    unfolding sequel
    attribute_valued {n} e O k =
        let w : (1 ≤ n) × (n ≤ length t) = within_good e (named_within m (length t) one room b h) in
        going_steps _ k (behind_within (λ f l. value_reads f text d l) n t w.0 w.1 O)
        (λ f i. ap report (by f) ∙ valued b m g f ∙ rw (← h, e, O.tells f (omega arith)))

  module _ {s : Span} {q₀ : Scan} (e : attribute_command t ≡ Ok (attributes.Plain s)) (h : q₀ ≡ report (named (bounds_of text s) (taken 5))) where
    plain_by : (f : ℕ) → attributes_at (suc f) text d t
        ≡ named (bounds_of text s) (from 5 (value_at f text d (drop 5 t)) then λ v u. map (attribute s v) (from u (attributes_at f text d (drop u t))))
    unfolding attributes_at attributes_by
    plain_by f = rw e

    pub plain_refused : {x : TapeError} → q₀ ≡ Err x → Attributed (Err x)
    plain_refused k = attribute_refused _ 5 (attribute s) (omega arith) (attribute_fits t e) h plain_by k

    pub plain_valued : {n : ℕ} {q : Scan} {r : Result Step TapeError} → q₀ ≡ Ok n → Opens (λ f l. shifted n (report (value_at f text d (drop n l)))) t q
        → r ≡ going q → Attributed r
    plain_valued k O i = attribute_valued _ 5 (attribute s) (omega arith) (attribute_fits t e) h plain_by k O i

  module _ {s n : Span} {q₀ : Scan} (e : attribute_command t ≡ Ok (attributes.Namespaced s n))
      (h : q₀ ≡ report (named (worse (bounds_of text s) (bounds_of text n)) (taken 9))) where
    namespaced_by : (f : ℕ) → attributes_at (suc f) text d t
        ≡ named (worse (bounds_of text s) (bounds_of text n))
        (from 9 (value_at f text d (drop 9 t)) then λ v u. map (namespaced_attribute s n v) (from u (attributes_at f text d (drop u t))))
    unfolding attributes_at attributes_by
    namespaced_by f = rw e

    pub namespaced_refused : {x : TapeError} → q₀ ≡ Err x → Attributed (Err x)
    namespaced_refused k = attribute_refused _ 9 (namespaced_attribute s n) (omega arith) (attribute_fits t e) h namespaced_by k

    pub namespaced_valued : {v : ℕ} {q : Scan} {r : Result Step TapeError} → q₀ ≡ Ok v → Opens (λ f l. shifted v (report (value_at f text d (drop v l)))) t q
        → r ≡ going q → Attributed r
    namespaced_valued k O i = attribute_valued _ 9 (namespaced_attribute s n) (omega arith) (attribute_fits t e) h namespaced_by k O i

  pub attributes_spread : (x : ℕ) → attribute_command t ≡ Ok (attributes.Spread x) → Attributed (Ok (step.Next 3))
  unfolding attributes_at attributes_by
  attributes_spread x e = next_steps 3 (omega arith) (attribute_fits t e) (λ f h. rw e (report_map (spread x) _ ∙ report_from 3 _))

  pub attributes_literal : (x : ℕ) {q₀ q : Scan} {r : Result Step TapeError} → attribute_command t ≡ Ok (attributes.Literal x)
      → Reports (λ f l. report (properties_at f text l)) (part 3 t) q₀ → q ≡ shifted 3 q₀ → r ≡ going q → Attributed r
  unfolding attributes_at attributes_by
  attributes_literal x {q₀} e R h k =
      going_steps _ k (shifted_within (λ f l. properties_reads f text l) 3 t (omega arith) (attribute_fits t e) R h)
      (λ f i.
      let y : report (properties_at f text (drop 3 t)) ≡ q₀ = (reports_part 3 t R).tells f (omega (arith, length-drop 3 t, attribute_fits t e)) in
      rw (e, h, ← y)
      (report_then _ _ _ (λ v u. report_map (literal x v) _ ∙ report_from u _)
      ∙ ap (λ (x : Scan). sequel x (λ u. shifted u (report (attributes_at f text d (drop u t))))) (report_from 3 (properties_at f text (drop 3 t)))))

  pub attributes_end : attribute_command t ≡ Ok attributes.End → Attributed (Ok (step.End 1))
  unfolding attributes_at attributes_by report
  attributes_end e = end_steps 1 (attribute_fits t e) (λ f. rw e)

  pub attributes_unread : {x : CommandError} → attribute_command t ≡ Err x → Attributed (Err (fault_at fault.Grammar (error_place t x)))
  unfolding attributes_at attributes_by report
  attributes_unread {x} e = bad_steps _ (unread_within t x) (λ f h. rw e)

-- ---- children

module _ (text t : List ℕ) (d : ℕ) where
  abbrev pub Childed : Result Step TapeError → Type 0
  Childed r = Steps (λ f l. report (children_at f text d l)) t r

  pub children_text : (s : Span) {q : Scan} {r : Result Step TapeError} → child_command t ≡ Ok (children.Text s) → q ≡ report (lettered text s (taken 5)) → r ≡ going q → Childed r
  unfolding children_at children_by
  children_text s e h k =
      going_steps _ k (lettered_within 5 (length t) (omega arith) (child_fits t e) text s h)
      (λ f i. rw (e, h) (lettered_then 5 _ _ (report_map (text_child s) _ ∙ report_from 5 _) text s))

  pub children_expression : (x : ℕ) → child_command t ≡ Ok (children.Expression x) → Childed (Ok (step.Next 3))
  unfolding children_at children_by
  children_expression x e = next_steps 3 (omega arith) (child_fits t e) (λ f h. rw e (report_map (expression_child x) _ ∙ report_from 3 _))

  pub children_empty : child_command t ≡ Ok children.Empty → Childed (Ok (step.Next 1))
  unfolding children_at children_by
  children_empty e = next_steps 1 (omega arith) (child_fits t e) (λ f h. rw e (report_map empty_child _ ∙ report_from 1 _))

  pub children_spread : (x : ℕ) → child_command t ≡ Ok (children.Spread x) → Childed (Ok (step.Next 3))
  unfolding children_at children_by
  children_spread x e = next_steps 3 (omega arith) (child_fits t e) (λ f h. rw e (report_map (spread_child x) _ ∙ report_from 3 _))

  pub children_element : (p : Place) {q : Scan} {r : Result Step TapeError} → child_command t ≡ Ok (children.Element p)
      → Opens (λ f l. report (opened d p (element_at f text d p (drop 9 l)))) t q → r ≡ going q → Childed r
  unfolding children_at children_by
  children_element p e O k =
      going_steps _ k (element_opens_within text t d p (child_fits t e) O)
      (λ f i. rw (e, ← O.tells f (omega arith)) (report_then _ _ _ (λ n u. report_map (node_child n) _ ∙ report_from u _)))

  pub children_fragment : (p : Place) {q : Scan} {r : Result Step TapeError} → child_command t ≡ Ok (children.Fragment p)
      → Opens (λ f l. report (opened d p (fragment_at f text d p (drop 9 l)))) t q → r ≡ going q → Childed r
  unfolding children_at children_by
  children_fragment p e O k =
      going_steps _ k (fragment_opens_within text t d p (child_fits t e) O)
      (λ f i. rw (e, ← O.tells f (omega arith)) (report_then _ _ _ (λ n u. report_map (node_child n) _ ∙ report_from u _)))

  pub children_ended : child_command t ≡ Ok children.End → Childed (Ok (step.End 1))
  unfolding children_at children_by report
  children_ended e = end_steps 1 (child_fits t e) (λ f. rw e)

  pub children_unread : {x : CommandError} → child_command t ≡ Err x → Childed (Err (fault_at fault.Grammar (error_place t x)))
  unfolding children_at children_by report
  children_unread {x} e = bad_steps _ (unread_within t x) (λ f h. rw e)
