-- What a reading that succeeded is made of: by the command at the front, the tree's shape, the readings of its parts and what they took.
-- `turns`: the parts are read with one turn less.
-- Assumes nothing.
use Rattle.std.specs.Prelude.{Ok, Err}
use mathlib.Core.Path.{◌≡◌, refl, sym, ap, subst, ◌∙◌}
use mathlib.Core.Bool.{Bool, true, false, cond, ◌||◌}
use mathlib.Core.List.{List}
use Prim.Native.Nat.{ℕ, zero, suc, ◌+◌, ◌-◌, ◌<◌}
use lib.ListN.{length, take, drop}
use lib.Dec.{eqb, leb}
use borrow.Author.Tests.{eq-eqb}
use Rattle.text.specs.declared.spans.Span.{Span}
use Rattle.text.specs.declared.spans.Bounds.{Bounds}
use Rattle.text.specs.declared.spans.Bounds.TheVariants.{Outside, Cuts, Empty, Good}
use Rattle.text.specs.Spans.{part_of, bounds_of}
use Rattle.text.proofs.Lists.{tail_part}
use Rattle.references.specs.References.{has_reference}
use Rattle.tape.specs.declared.refusal.Fault.{Fault}
use Rattle.tape.specs.declared.refusal.Fault.TheVariants as fault
use Rattle.commands.specs.declared.error.CommandError.{CommandError}
use Rattle.commands.specs.declared.root.Place.{Place}
use Rattle.commands.specs.declared.root.AttributeCommand.TheVariants as attributes
use Rattle.commands.specs.declared.root.ValueCommand.TheVariants as values
use Rattle.commands.specs.Root.{attribute_command, value_command}
use Rattle.definitions.specs.Judging.{Parsed, done, stop, ◌then◌, map, from, spanned, worse}
use Rattle.definitions.specs.Tree.{Property, Node, Attributes, no_attributes, attribute, namespaced_attribute, spread, literal, Value, absent, string, expression, empty, node_value}
use Rattle.definitions.specs.Reading.{lettered, opened, attributes_by, value_by, properties_at, element_at, fragment_at, attributes_at, value_at}
use Rattle.emit.proofs.Readings.{named_done}

-- ---- how readings are put together, backwards

pub never : {A B : Type 0} {x : Fault} {q : ℕ} {a : A} {u : ℕ} → stop x q ≡ done a u → B
never e = cc

module _ {A : Type 0} where
  pub from_done : (i : ℕ) (p : Parsed A) {a : A} {v : ℕ} → from i p ≡ done a v → (w : ℕ) × (p ≡ done a w) × (v ≡ i + w)
  unfolding from
  from_done i (done b w) e = (w, cc, cc)
  from_done i (stop n q) e = never e

  pub spanned_done : (b : Bounds) (p : Parsed A) {a : A} {u : ℕ} → spanned b p ≡ done a u → (p ≡ done a u) × (b ≡ Outside → ⊥) × (b ≡ Cuts → ⊥)
  unfolding spanned
  spanned_done Outside p e = never e
  spanned_done Cuts p e = never e
  spanned_done Empty p e = (e, λ h. cc, λ h. cc)
  spanned_done Good p e = (e, λ h. cc, λ h. cc)

module _ {A : Type 0} where
  pub lettered_done : (text : List ℕ) (s : Span) (p : Parsed A) {a : A} {u : ℕ} → lettered text s p ≡ done a u
      → (p ≡ done a u) × (bounds_of text s ≡ Outside → ⊥) × (bounds_of text s ≡ Cuts → ⊥)
  unfolding lettered
  lettered_done text s p {a} {u} e =
      let r = spanned_done (bounds_of text s) (cond (has_reference (part_of text s)) (stop fault.Reference 0) p) e in
      (go (has_reference (part_of text s)) r.0, r.1, r.2)
    where
      go : (b : Bool) → cond b (stop fault.Reference 0) p ≡ done a u → p ≡ done a u
      go true h = never h
      go false h = h

  pub opened_done : (d : ℕ) (at : Place) (p : Parsed A) {a : A} {u : ℕ} → opened d at p ≡ done a u
      → (w : ℕ) × (p ≡ done a w) × (u ≡ 9 + w) × (at.line ≡ 4294967295 → ⊥) × (at.column ≡ 4294967295 → ⊥)
  unfolding opened
  opened_done d at p {a} {u} e = deep (leb 64 d) e
    where
      no : false ≡ true → ⊥
      no h = cc

      line : (b c : Bool) → eqb at.line 4294967295 ≡ b → eqb at.column 4294967295 ≡ c
          → cond (b || c) (stop fault.Position 0) (from 9 p) ≡ done a u
          → (w : ℕ) × (p ≡ done a w) × (u ≡ 9 + w) × (at.line ≡ 4294967295 → ⊥) × (at.column ≡ 4294967295 → ⊥)
      line true c h k e = never e
      line false true h k e = never e
      line false false h k e =
          let r = from_done 9 p e in
          (r.0, r.1, r.2, λ q. no (sym h ∙ eq-eqb _ _ q), λ q. no (sym k ∙ eq-eqb _ _ q))

      deep : (b : Bool)
          → cond b (stop fault.Depth 0) (cond (eqb at.line 4294967295 || eqb at.column 4294967295) (stop fault.Position 0) (from 9 p)) ≡ done a u
          → (w : ℕ) × (p ≡ done a w) × (u ≡ 9 + w) × (at.line ≡ 4294967295 → ⊥) × (at.column ≡ 4294967295 → ⊥)
      deep true e = never e
      deep false e = line (eqb at.line 4294967295) (eqb at.column 4294967295) refl refl e

module _ {A B : Type 0} where
  pub then_done : (p : Parsed A) (k : A → ℕ → Parsed B) {b : B} {v : ℕ} → (p then k) ≡ done b v → (a : A) × (u : ℕ) × (p ≡ done a u) × (k a u ≡ done b v)
  unfolding ◌then◌
  then_done (done a u) k e = (a, u, refl, e)
  then_done (stop n q) k e = never e

  pub map_done : (g : A → B) (p : Parsed A) {b : B} {v : ℕ} → map g p ≡ done b v → (a : A) × (p ≡ done a v) × (b ≡ g a)
  unfolding map ◌then◌
  map_done g (done a u) e = (a, cc, cc)
  map_done g (stop n q) e = never e

-- a reader of what stands u bytes further on
abbrev pub At : {A : Type 0} → (List ℕ → Parsed A) → List ℕ → ℕ → Parsed A
At read t u = from u (read (drop u t))

-- ---- one of a list, and the list behind it

-- x, read off t, which took u bytes, is `g y`: y was read behind n bytes
pub record Behind {A : Type 0} (read : ℕ → List ℕ → Parsed A) (t : List ℕ) (f : ℕ) (x : A) (u n : ℕ) (g : A → A) : Type 0 where
  pub fuel : ℕ
  pub turns : f ≡ suc fuel
  pub rest : A
  pub size : ℕ
  pub is : x ≡ g rest
  pub reads : read fuel (drop n t) ≡ done rest size
  pub used : u ≡ n + size

-- x is `g y z`: y was read by `inner` behind m bytes and took `took` of them, z behind it
pub record Within {A B : Type 0} (inner : ℕ → List ℕ → Parsed B) (read : ℕ → List ℕ → Parsed A) (t : List ℕ) (f : ℕ) (x : A) (u m : ℕ) (g : B → A → A) : Type 0 where
  pub fuel : ℕ
  pub turns : f ≡ suc fuel
  pub part : B
  pub took : ℕ
  pub part_reads : inner fuel (drop m t) ≡ done part took
  pub rest : A
  pub size : ℕ
  pub is : x ≡ g part rest
  pub reads : read fuel (drop (m + took) t) ≡ done rest size
  pub used : u ≡ m + took + size

module _ {A : Type 0} (read : ℕ → List ℕ → Parsed A) (t : List ℕ) (f : ℕ) where
  pub mapped : (n : ℕ) (g : A → A) {x : A} {u : ℕ} → map g (At (read f) t n) ≡ done x u → Behind read t (suc f) x u n g
  mapped n g e =
      let m = map_done g (At (read f) t n) e in
      let b = from_done n (read f (drop n t)) m.1 in
      record { fuel = f; turns = refl; rest = m.0; size = b.0; is = m.2; reads = b.1; used = b.2 }

  pub parted : {B : Type 0} (inner : ℕ → List ℕ → Parsed B) (m : ℕ) (g : B → A → A) {x : A} {u : ℕ}
      → (At (inner f) t m then λ y v. map (g y) (At (read f) t v)) ≡ done x u → Within inner read t (suc f) x u m g
  parted inner m g {x} {u} e =
      let a = then_done (At (inner f) t m) (λ y v. map (g y) (At (read f) t v)) e in
      let p = from_done m (inner f (drop m t)) a.2 in
      let b = map_done (g a.0) (At (read f) t a.1) a.3 in
      let r = from_done a.1 (read f (drop a.1 t)) b.1 in
      record {
        fuel = f;
        turns = refl;
        part = a.0;
        took = p.0;
        part_reads = p.1;
        rest = b.0;
        size = r.0;
        is = b.2;
        reads = ap (λ (n : ℕ). read f (drop n t)) (sym p.2) ∙ r.1;
        used = r.2 ∙ ap (λ (n : ℕ). n + r.0) p.2;
      }

-- ---- attributes

module _ (text t : List ℕ) (d : ℕ) where
  abbrev pub attributes_read : ℕ → List ℕ → Parsed Attributes
  attributes_read f l = attributes_at f text d l

  abbrev pub value_read : ℕ → List ℕ → Parsed Value
  value_read f l = value_at f text d l

  abbrev pub properties_read : ℕ → List ℕ → Parsed (List Property)
  properties_read f l = properties_at f text l

  pub attributes_end : (f : ℕ) {a : Attributes} {u : ℕ} → attribute_command t ≡ Ok attributes.End → attributes_at f text d t ≡ done a u → (a ≡ no_attributes) × (u ≡ 1)
  unfolding attributes_at attributes_by
  attributes_end zero c e = never e
  attributes_end (suc f) {a} {u} c e = let h : done no_attributes 1 ≡ done a u = rw c at e in (cc, cc)

  pub attributes_error : (f : ℕ) {a : Attributes} {u : ℕ} {x : CommandError} → attribute_command t ≡ Err x → attributes_at f text d t ≡ done a u → ⊥
  unfolding attributes_at attributes_by
  attributes_error zero c e = never e
  attributes_error (suc f) c e = never (rw c at e)

  pub attributes_plain : (f : ℕ) (s : Span) {a : Attributes} {u : ℕ} → attribute_command t ≡ Ok (attributes.Plain s) → attributes_at f text d t ≡ done a u
      → Within value_read attributes_read t f a u 5 (attribute s)
  unfolding attributes_at attributes_by
  attributes_plain zero s c e = never e
  attributes_plain (suc f) s c e = parted attributes_read t f value_read 5 (attribute s) (named_done (bounds_of text s) _ (rw c at e))

  pub attributes_namespaced : (f : ℕ) (s r : Span) {a : Attributes} {u : ℕ} → attribute_command t ≡ Ok (attributes.Namespaced s r) → attributes_at f text d t ≡ done a u
      → Within value_read attributes_read t f a u 9 (namespaced_attribute s r)
  unfolding attributes_at attributes_by
  attributes_namespaced zero s r c e = never e
  attributes_namespaced (suc f) s r c e =
      parted attributes_read t f value_read 9 (namespaced_attribute s r) (named_done (worse (bounds_of text s) (bounds_of text r)) _ (rw c at e))

  pub attributes_spread : (f x : ℕ) {a : Attributes} {u : ℕ} → attribute_command t ≡ Ok (attributes.Spread x) → attributes_at f text d t ≡ done a u
      → Behind attributes_read t f a u 3 (spread x)
  unfolding attributes_at attributes_by
  attributes_spread zero x c e = never e
  attributes_spread (suc f) x c e = mapped attributes_read t f 3 (spread x) (rw c at e)

  pub attributes_literal : (f x : ℕ) {a : Attributes} {u : ℕ} → attribute_command t ≡ Ok (attributes.Literal x) → attributes_at f text d t ≡ done a u
      → Within properties_read attributes_read t f a u 3 (literal x)
  unfolding attributes_at attributes_by
  attributes_literal zero x c e = never e
  attributes_literal (suc f) x c e = parted attributes_read t f properties_read 3 (literal x) (rw c at e)

-- ---- values

-- an element or a fragment that stands at the front of t
pub record Opening (node : ℕ → List ℕ → Parsed Node) (t : List ℕ) (f : ℕ) (at : Place) (n : Node) (u : ℕ) : Type 0 where
  pub fuel : ℕ
  pub turns : f ≡ suc fuel
  pub took : ℕ
  pub reads : node fuel (drop 9 t) ≡ done n took
  pub used : u ≡ 9 + took
  pub line : at.line ≡ 4294967295 → ⊥
  pub column : at.column ≡ 4294967295 → ⊥

module _ (text t : List ℕ) (d : ℕ) where
  abbrev pub element_read : Place → ℕ → List ℕ → Parsed Node
  element_read p f l = element_at f text d p l

  abbrev pub fragment_read : Place → ℕ → List ℕ → Parsed Node
  fragment_read p f l = fragment_at f text d p l

  pub value_absent : (f : ℕ) {v : Value} {u : ℕ} → value_command t ≡ Ok values.Absent → value_at f text d t ≡ done v u → (v ≡ absent) × (u ≡ 1)
  unfolding value_at value_by
  value_absent zero c e = never e
  value_absent (suc f) {v} {u} c e = let h : done absent 1 ≡ done v u = rw c at e in (cc, cc)

  pub value_empty : (f : ℕ) {v : Value} {u : ℕ} → value_command t ≡ Ok values.Empty → value_at f text d t ≡ done v u → (v ≡ empty) × (u ≡ 1)
  unfolding value_at value_by
  value_empty zero c e = never e
  value_empty (suc f) {v} {u} c e = let h : done empty 1 ≡ done v u = rw c at e in (cc, cc)

  pub value_expression : (f x : ℕ) {v : Value} {u : ℕ} → value_command t ≡ Ok (values.Expression x) → value_at f text d t ≡ done v u → (v ≡ expression x) × (u ≡ 3)
  unfolding value_at value_by
  value_expression zero x c e = never e
  value_expression (suc f) x {v} {u} c e = let h : done (expression x) 3 ≡ done v u = rw c at e in (cc, cc)

  pub value_text : (f : ℕ) (s : Span) {v : Value} {u : ℕ} → value_command t ≡ Ok (values.Text s) → value_at f text d t ≡ done v u → (v ≡ string s) × (u ≡ 5)
  unfolding value_at value_by
  value_text zero s c e = never e
  value_text (suc f) s {v} {u} c e = let h : done (string s) 5 ≡ done v u = (lettered_done text s (done (string s) 5) (rw c at e)).0 in (cc, cc)

  pub value_error : (f : ℕ) {v : Value} {u : ℕ} {x : CommandError} → value_command t ≡ Err x → value_at f text d t ≡ done v u → ⊥
  unfolding value_at value_by
  value_error zero c e = never e
  value_error (suc f) c e = never (rw c at e)

  pub value_element : (f : ℕ) (p : Place) {v : Value} {u : ℕ} → value_command t ≡ Ok (values.Element p) → value_at f text d t ≡ done v u
      → (n : Node) × (v ≡ node_value n) × Opening (element_read p) t f p n u
  unfolding value_at value_by
  value_element zero p c e = never e
  value_element (suc f) p {v} {u} c e =
      let m = map_done node_value (opened d p (element_at f text d p (drop 9 t))) (rw c at e) in
      let o = opened_done d p (element_at f text d p (drop 9 t)) m.1 in
      (m.0, m.2, record { fuel = f; turns = refl; took = o.0; reads = o.1; used = o.2; line = o.3; column = o.4 })

  pub value_fragment : (f : ℕ) (p : Place) {v : Value} {u : ℕ} → value_command t ≡ Ok (values.Fragment p) → value_at f text d t ≡ done v u
      → (n : Node) × (v ≡ node_value n) × Opening (fragment_read p) t f p n u
  unfolding value_at value_by
  value_fragment zero p c e = never e
  value_fragment (suc f) p {v} {u} c e =
      let m = map_done node_value (opened d p (fragment_at f text d p (drop 9 t))) (rw c at e) in
      let o = opened_done d p (fragment_at f text d p (drop 9 t)) m.1 in
      (m.0, m.2, record { fuel = f; turns = refl; took = o.0; reads = o.1; used = o.2; line = o.3; column = o.4 })

-- ---- what is told of `&t[n..]` is told of t behind n bytes

pub passing : {A : Type 0} (read : ℕ → List ℕ → Parsed A) (Q : A → ℕ → Type 0) (t : List ℕ) (n : ℕ)
    → ((h : ℕ) (x : A) (u : ℕ) → length (take (length t - n) (drop n t)) < h → read h (take (length t - n) (drop n t)) ≡ done x u → Q x u)
    → (h : ℕ) (x : A) (u : ℕ) → length (drop n t) < h → read h (drop n t) ≡ done x u → Q x u
passing {A} read Q t n = subst (λ (l : List ℕ). (h : ℕ) (x : A) (u : ℕ) → length l < h → read h l ≡ done x u → Q x u) (tail_part t n)
