-- What stands at the front of a tape that reads: values, names, attributes, by their commands.
-- Assumes nothing.
use Rattle.std.specs.Prelude.{Option, None, Some, Ok, Err}
use mathlib.Core.Path.{◌≡◌, refl, sym, ap, ◌∙◌}
use mathlib.Core.Bool.{Bool, true, false, cond, ◌||◌, ◌&&◌}
use mathlib.Core.List.{List, [], ◌∷◌}
use Prim.Native.Nat.{ℕ, zero, suc, ◌+◌, ◌-◌, ◌≤◌, ◌<◌}
use native.Mathlib.Omega.{arith}
use lib.ListN.{length, take, drop, length-drop}
use Rattle.text.specs.declared.spans.Span.{Span}
use Rattle.text.specs.Spans.{bounds_of}
use Rattle.commands.specs.declared.error.CommandError.{CommandError}
use Rattle.commands.specs.declared.root.NameCommand.TheVariants as names
use Rattle.commands.specs.declared.root.AttributeCommand.TheVariants as attributes
use Rattle.commands.specs.declared.root.PropertyCommand.{PropertyCommand}
use Rattle.commands.specs.declared.root.PropertyCommand.TheVariants as properties
use Rattle.commands.specs.declared.root.ValueCommand.{ValueCommand}
use Rattle.commands.specs.declared.root.ValueCommand.TheVariants as values
use Rattle.commands.specs.Root.{name_command, member_command, attribute_command, property_command, value_command}
use Rattle.definitions.specs.declared.call_tape.WithExpression.TheVariants as with_expression
use Rattle.definitions.specs.Judging.{Parsed, done, from, worse}
use Rattle.definitions.specs.Tree.{Name, plain, identifier, this, namespaced, Property, unnamed, prop_name, Attributes, Value}
use Rattle.definitions.specs.Reading.{members_by, name_by, properties_by, members_at, name_at, properties_at, attributes_at, value_at}
use Rattle.definitions.specs.Lowering.{Context, put_over, has_value, is_key, key_after_spread, has_proto, carried, lower_literal}
use Rattle.parts.specs.declared.jsx_impl.Front.{Front}
use Rattle.parts.specs.declared.jsx_impl.Front.TheVariants as front
use Rattle.parts.specs.Promises.{some_output, Onward, FrontIs}
use Rattle.emit.proofs.Readings.{named_done}
use Rattle.parts.proofs.Inversions.{never, from_done, spanned_done, map_done, Within, attributes_end, attributes_plain, attributes_namespaced, attributes_spread, attributes_literal, value_absent, value_empty, value_expression, value_text, value_element, value_fragment, passing}

-- ---- whether a value is there

module _ (f : ℕ) (text t : List ℕ) (d : ℕ) (v : Value) (u : ℕ) (e : value_at f text d t ≡ done v u) where
  pub absent_value : value_command t ≡ Ok values.Absent → false ≡ has_value v
  unfolding has_value
  absent_value c = sym (ap has_value (value_absent text t d f c e).0)

  -- a command other than that of none
  pub there_value : (x : ValueCommand) → value_command t ≡ Ok x → (x ≡ values.Absent → ⊥) → true ≡ has_value v
  unfolding has_value
  there_value values.Absent c n = absurd (n refl)
  there_value (values.Text s) c n = sym (ap has_value (value_text text t d f s c e).0)
  there_value (values.Expression x) c n = sym (ap has_value (value_expression text t d f x c e).0)
  there_value values.Empty c n = sym (ap has_value (value_empty text t d f c e).0)
  there_value (values.Element p) c n = sym (ap has_value (value_element text t d f p c e).1)
  there_value (values.Fragment p) c n = sym (ap has_value (value_fragment text t d f p c e).1)

-- ---- names

-- of the properties of a name, which begin t and take u bytes, t' is what is left
pub record MembersLeft (text t : List ℕ) (u : ℕ) (t' : List ℕ) : Type 0 where
  pub fuel : ℕ
  pub rest : List Span
  pub size : ℕ
  pub reads : members_at fuel text t' ≡ done rest size
  pub used : u + length t' ≡ length t + size

pub members_start : (text t : List ℕ) (f : ℕ) (ms : List Span) (u : ℕ) → members_at f text t ≡ done ms u → MembersLeft text t u t
members_start text t f ms u e = record { fuel = f; rest = ms; size = u; reads = e; used = omega arith }

module _ {text t : List ℕ} {u : ℕ} {t' : List ℕ} (R : MembersLeft text t u t') where
  pub members_goes : {s : Span} {t'' : List ℕ} → member_command t' ≡ Ok (Some s) → 5 ≤ length t' → t'' ≡ drop 5 t' → MembersLeft text t u t''
  unfolding members_at members_by
  members_goes {s} {t''} c five here = go R.fuel R.reads
    where
      go : (f : ℕ) → members_at f text t' ≡ done R.rest R.size → MembersLeft text t u t''
      go zero e = never e
      go (suc f) e =
          let m = map_done (s ∷◌) (from 5 (members_at f text (drop 5 t'))) (named_done (bounds_of text s) _ (rw c at e)) in
          let b = from_done 5 (members_at f text (drop 5 t')) m.1 in
          record {
            fuel = f;
            rest = m.0;
            size = b.0;
            reads = ap (λ (l : List ℕ). members_at f text l) here ∙ b.1;
            used = omega (arith, R.used, b.2, ap length here, length-drop 5 t');
          }

  pub members_over : member_command t' ≡ Ok None → u + length t' ≡ length t
  unfolding members_at members_by
  members_over c = go R.fuel R.reads
    where
      go : (f : ℕ) → members_at f text t' ≡ done R.rest R.size → u + length t' ≡ length t
      go zero e = never e
      go (suc f) e =
          let h : done [] 0 ≡ done R.rest R.size = rw c at e in
          let k : 0 ≡ R.size = cc in
          omega (arith, R.used)

  pub members_never : {x : CommandError} → member_command t' ≡ Err x → ⊥
  unfolding members_at members_by
  members_never c = go R.fuel R.reads
    where
      go : (f : ℕ) → members_at f text t' ≡ done R.rest R.size → ⊥
      go zero e = never e
      go (suc f) e = never (rw c at e)

module _ (f : ℕ) (text t : List ℕ) (n : Name) (u : ℕ) (e : name_at f text t ≡ done n u) where
  pub plain_name : (s : Span) → name_command t ≡ Ok (names.Plain s) → 5 ≡ u
  unfolding name_at name_by
  plain_name s c = let h : done (plain s) 5 ≡ done n u = named_done (bounds_of text s) _ (rw c at e) in cc

  pub namespaced_name : (s r : Span) → name_command t ≡ Ok (names.Namespaced s r) → 9 ≡ u
  unfolding name_at name_by
  namespaced_name s r c = let h : done (namespaced s r) 9 ≡ done n u = named_done (worse (bounds_of text s) (bounds_of text r)) _ (rw c at e) in cc

  pub identifier_name : (s : Span) → name_command t ≡ Ok (names.Identifier s) → (ms : List Span) × (w : ℕ) × (members_at f text (drop 5 t) ≡ done ms w) × (u ≡ 5 + w)
  unfolding name_at name_by
  identifier_name s c =
      let m = map_done (identifier s) (from 5 (members_at f text (drop 5 t))) (named_done (bounds_of text s) _ (rw c at e)) in
      let b = from_done 5 (members_at f text (drop 5 t)) m.1 in
      (m.0, b.0, b.1, b.2)

  pub this_name : name_command t ≡ Ok names.This → (ms : List Span) × (w : ℕ) × (members_at f text (drop 1 t) ≡ done ms w) × (u ≡ 1 + w)
  unfolding name_at name_by
  this_name c =
      let m = map_done this (from 1 (members_at f text (drop 1 t))) (rw c at e) in
      let b = from_done 1 (members_at f text (drop 1 t)) m.1 in
      (m.0, b.0, b.1, b.2)

  pub error_name : {x : CommandError} → name_command t ≡ Err x → ⊥
  unfolding name_at name_by
  error_name c = never (rw c at e)

-- ---- whether an object literal gives a property

some_carried : (p : Property) (ps : List Property) → true ≡ some_output (carried (p ∷ ps))
unfolding carried some_output
some_carried (unnamed e) ps = refl
some_carried (prop_name e s) ps = refl

some_literal : (c : Context) (e : ℕ) (p : Property) (ps : List Property) → true ≡ some_output (lower_literal c e (p ∷ ps))
unfolding some_output
some_literal c e p ps = go (has_proto c (p ∷ ps))
  where
    go : (b : Bool) → true ≡ some_output (cond b (put_over with_expression.SpreadProperty e) (carried (p ∷ ps)))
    go true = refl
    go false = some_carried p ps

module _ (f : ℕ) (text t : List ℕ) (c : Context) (x : ℕ) (ps : List Property) (u : ℕ) (e : properties_at f text t ≡ done ps u) where
  pub end_property : property_command t ≡ Ok properties.End → false ≡ some_output (lower_literal c x ps)
  unfolding properties_at properties_by some_output has_proto carried
  end_property k = go f e
    where
      go : (f : ℕ) → properties_at f text t ≡ done ps u → false ≡ some_output (lower_literal c x ps)
      go zero e = never e
      go (suc f) e = let h : done [] 1 ≡ done ps u = rw k at e in let q : [] ≡ ps = cc in rw (← q) refl

  -- a command other than their end
  pub some_property : (y : PropertyCommand) → property_command t ≡ Ok y → (y ≡ properties.End → ⊥) → true ≡ some_output (lower_literal c x ps)
  unfolding properties_at properties_by
  some_property y k n = go f y k n e
    where
      go : (f : ℕ) (y : PropertyCommand) → property_command t ≡ Ok y → (y ≡ properties.End → ⊥) → properties_at f text t ≡ done ps u → true ≡ some_output (lower_literal c x ps)
      go zero y k n e = never e
      go (suc f) (properties.Property y) k n e =
          let m = map_done (unnamed y ∷◌) (from 3 (properties_at f text (drop 3 t))) (rw k at e) in
          rw m.2 (some_literal c x (unnamed y) m.0)
      go (suc f) (properties.Named y s) k n e =
          let m = map_done (prop_name y s ∷◌) (from 7 (properties_at f text (drop 7 t))) (spanned_done (bounds_of text s) _ (rw k at e)).0 in
          rw m.2 (some_literal c x (prop_name y s) m.0)
      go (suc f) properties.End k n e = absurd (n refl)

  pub error_property : {z : CommandError} → property_command t ≡ Err z → ⊥
  unfolding properties_at properties_by
  error_property k = go f e
    where
      go : (f : ℕ) → properties_at f text t ≡ done ps u → ⊥
      go zero e = never e
      go (suc f) e = never (rw k at e)

-- ---- whether a key stands behind a spread

late : (x y z : Bool) → x ≡ true → y ≡ true → ((x && y) || z) ≡ true
late x y z p q = rw (p, q) refl

module _ (c : Context) (text t : List ℕ) (seen : Bool) (f d : ℕ) (a : Attributes) (u : ℕ) (e : attributes_at f text d t ≡ done a u) where
  pub front_key : (s : Span) → attribute_command t ≡ Ok (attributes.Plain s) → seen ≡ true → is_key c s ≡ true → FrontIs c text d t seen f a u (Some front.Key)
  unfolding FrontIs key_after_spread
  front_key s k h i =
      let W = attributes_plain text t d f s k e in
      ap (λ (b : Attributes). key_after_spread c seen b) W.is ∙ late seen (is_key c s) (key_after_spread c seen W.rest) h i

  pub front_end : attribute_command t ≡ Ok attributes.End → FrontIs c text d t seen f a u None
  unfolding FrontIs key_after_spread
  front_end k = ap (λ (b : Attributes). key_after_spread c seen b) (attributes_end text t d f k e).0

  pub front_spread : (x : ℕ) → attribute_command t ≡ Ok (attributes.Spread x) → FrontIs c text d t seen f a u (Some (front.Spread 3))
  unfolding FrontIs key_after_spread
  front_spread x k =
      let W = attributes_spread text t d f x k e in
      (W.rest, record { fuel = W.fuel; turns = W.turns; size = W.size; reads = W.reads; used = W.used }, ap (λ (b : Attributes). key_after_spread c seen b) W.is)

  -- the rest behind an attribute whose value or properties were passed
  behind : {B : Type 0} {inner : ℕ → List ℕ → Parsed B} {g : B → Attributes → Attributes} (m n took : ℕ)
      → (W : Within inner (λ h l. attributes_at h text d l) t f a u m g) → took ≡ W.took → n ≡ m + took → Onward text d t f n u W.rest
  behind m n took W h i =
      let x : n ≡ m + W.took = i ∙ ap (λ (q : ℕ). m + q) h in
      record {
        fuel = W.fuel;
        turns = W.turns;
        size = W.size;
        reads = ap (λ (q : ℕ). attributes_at W.fuel text d (drop q t)) x ∙ W.reads;
        used = W.used ∙ ap (λ (q : ℕ). q + W.size) (sym x);
      }

  -- what a skip of the value behind m bytes says
  abbrev pub Skips : (m took : ℕ) → Type 0
  Skips m took = (h : ℕ) (v : Value) (w : ℕ) → length (take (length t - m) (drop m t)) < h → value_at h text d (take (length t - m) (drop m t)) ≡ done v w → took ≡ w

  skipped : (m took : ℕ) → Skips m took → (h : ℕ) (v : Value) (w : ℕ) → length (drop m t) < h → value_at h text d (drop m t) ≡ done v w → took ≡ w
  skipped m took = passing (λ h l. value_at h text d l) (λ v w. took ≡ w) t m

  pub front_plain : (s : Span) → attribute_command t ≡ Ok (attributes.Plain s) → length t < f → 5 ≤ length t → (seen && is_key c s) ≡ false → (took : ℕ) → Skips 5 took
      → FrontIs c text d t seen f a u (Some (front.Other (5 + took)))
  unfolding FrontIs key_after_spread
  front_plain s k enough five hn took S =
      let W = attributes_plain text t d f s k e in (
        W.rest,
        behind 5 (5 + took) took W (skipped 5 took S W.fuel W.part W.took (omega (arith, W.turns, length-drop 5 t)) W.part_reads) refl,
        ap (λ (b : Attributes). key_after_spread c seen b) W.is ∙ ap (λ (b : Bool). b || key_after_spread c seen W.rest) hn,
      )

  pub front_namespaced : (s r : Span) → attribute_command t ≡ Ok (attributes.Namespaced s r) → length t < f → 9 ≤ length t → (took : ℕ) → Skips 9 took
      → FrontIs c text d t seen f a u (Some (front.Other (9 + took)))
  unfolding FrontIs key_after_spread
  front_namespaced s r k enough nine took S =
      let W = attributes_namespaced text t d f s r k e in (
        W.rest,
        behind 9 (9 + took) took W (skipped 9 took S W.fuel W.part W.took (omega (arith, W.turns, length-drop 9 t)) W.part_reads) refl,
        ap (λ (b : Attributes). key_after_spread c seen b) W.is,
      )

  pub front_literal : (x : ℕ) → attribute_command t ≡ Ok (attributes.Literal x) → length t < f → 3 ≤ length t → (took : ℕ)
      → ((h : ℕ) (ps : List Property) (w : ℕ) → length (take (length t - 3) (drop 3 t)) < h → properties_at h text (take (length t - 3) (drop 3 t)) ≡ done ps w → took ≡ w)
      → FrontIs c text d t seen f a u (Some (front.Spread (3 + took)))
  unfolding FrontIs key_after_spread
  front_literal x k enough three took S =
      let W = attributes_literal text t d f x k e in (
        W.rest,
        behind 3 (3 + took) took W (passing (λ h l. properties_at h text l) (λ ps w. took ≡ w) t 3 S W.fuel W.part W.took (omega (arith, W.turns, length-drop 3 t)) W.part_reads) refl,
        ap (λ (b : Attributes). key_after_spread c seen b) W.is,
      )

-- the loop: what is left, t, has the answer of the whole, a
pub record KeysLeft (c : Context) (text : List ℕ) (d : ℕ) (a : Attributes) (t : List ℕ) (seen : Bool) : Type 0 where
  pub fuel : ℕ
  pub rest : Attributes
  pub size : ℕ
  pub enough : length t < fuel
  pub reads : attributes_at fuel text d t ≡ done rest size
  pub same : key_after_spread c false a ≡ key_after_spread c seen rest

pub keys_start : {c : Context} {text t : List ℕ} {f d : ℕ} {a : Attributes} {u : ℕ} → length t < f → attributes_at f text d t ≡ done a u → KeysLeft c text d a t false
keys_start {f = f} {a = a} {u} h e = record { fuel = f; rest = a; size = u; enough = h; reads = e; same = refl }

module _ {c : Context} {text : List ℕ} {d : ℕ} {a : Attributes} {t : List ℕ} {seen : Bool} (R : KeysLeft c text d a t seen) where
  -- what the code says of the front of what is left
  abbrev pub Told : Option Front → Type 0
  Told r = (f d : ℕ) (a : Attributes) (u : ℕ) → length t < f → attributes_at f text d t ≡ done a u → FrontIs c text d t seen f a u r

  fronted : (r : Option Front) → Told r → FrontIs c text d t seen R.fuel R.rest R.size r
  fronted r T = T R.fuel d R.rest R.size R.enough R.reads

  pub keys_key : Told (Some front.Key) → true ≡ key_after_spread c false a
  unfolding FrontIs
  keys_key T = sym (R.same ∙ fronted (Some front.Key) T)

  pub keys_end : Told None → false ≡ key_after_spread c false a
  unfolding FrontIs
  keys_end T = sym (R.same ∙ fronted None T)

  on : {t' : List ℕ} (n : ℕ) (b : Attributes) (now : Bool) → 1 ≤ n → n ≤ length t → t' ≡ drop n t → Onward text d t R.fuel n R.size b
      → key_after_spread c seen R.rest ≡ key_after_spread c now b → KeysLeft c text d a t' now
  on n b now pos inside here O s = record {
    fuel = O.fuel;
    rest = b;
    size = O.size;
    enough = omega (arith, R.enough, O.turns, ap length here, length-drop n t);
    reads = ap (λ (l : List ℕ). attributes_at O.fuel text d l) here ∙ O.reads;
    same = R.same ∙ s;
  }

  pub keys_spread : {t' : List ℕ} (n : ℕ) → 1 ≤ n → n ≤ length t → t' ≡ drop n t → Told (Some (front.Spread n)) → KeysLeft c text d a t' true
  unfolding FrontIs
  keys_spread n pos inside here T = let F = fronted (Some (front.Spread n)) T in on n F.0 true pos inside here F.1 F.2

  pub keys_other : {t' : List ℕ} (n : ℕ) → 1 ≤ n → n ≤ length t → t' ≡ drop n t → Told (Some (front.Other n)) → KeysLeft c text d a t' seen
  unfolding FrontIs
  keys_other n pos inside here T = let F = fronted (Some (front.Other n)) T in on n F.0 seen pos inside here F.1 F.2
