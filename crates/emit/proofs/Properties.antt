-- The properties of an object literal, one by one (`properties_at` of definitions, Reading; `has_proto` and `carried` of Lowering).
--     next_unnamed, next_named, next_end, next_error     what is ahead, by the command at the front
--     PropertiesLeft                              how far reading has come, with what is known of the rest
--     left_begin, left_next, left_over            from the first property on
--     proto_more, proto_end                       whether a `__proto__` has come
--     Carried, carried_begin, carried_more, carried_end     what has been written
-- Assumes nothing.
use Rattle.std.specs.Prelude.{Result, Ok, Err, Option, None, Some}
use mathlib.Core.Path.{◌≡◌, refl, sym, ap, subst, ◌∙◌}
use mathlib.Core.Bool.{Bool, true, false, ◌||◌}
use mathlib.Core.List.{List, [], ◌∷◌, ◌++◌, append-nil, append_assoc}
use Prim.Native.Nat.{ℕ, zero, suc, ◌+◌, ◌≤◌, ◌<◌}
use native.Mathlib.Omega.{arith}
use lib.ListN.{length, drop, length-drop}
use Rattle.std.proofs.Common.{Bor}
use Rattle.text.specs.declared.spans.Span.{Span}
use Rattle.text.specs.Spans.{bounds_of}
use Rattle.commands.specs.declared.root.PropertyCommand.TheVariants as command
use Rattle.commands.specs.Root.{property_command}
use Rattle.commands.specs.declared.error.CommandError.{CommandError}
use Rattle.commands.proofs.Lengths.{property_fits}
use Rattle.commands.specs.declared.root.PropertyCommand.{PropertyCommand}
use Rattle.definitions.specs.declared.call_tape.WithExpression.TheVariants as with_expression
use Rattle.definitions.specs.Judging.{done, map, from}
use Rattle.definitions.specs.Tree.{Property, unnamed, prop_name}
use Rattle.definitions.specs.Reading.{properties_by, properties_at}
use Rattle.definitions.specs.Lowering.{Context, Output, put_over, is_proto, has_proto, carried}
use Rattle.pen.specs.declared.pen.Pen.{Pen}
use Rattle.pen.specs.Emitting.{Short, Produced}
use Rattle.emit.specs.declared.jsx_impl.Ahead.{Ahead}
use Rattle.emit.specs.Properties.{property_of, PropertyAt, NextIs, Shorter}
use Rattle.emit.proofs.Readings.{stopped, spanned_done, map_done, from_done}
use Rattle.pen.proofs.Emitting.{produced_none, produced_then, produced_as}

-- ---- reading

-- by the command at the front, with one turn less for what is behind it
record Turn (f : ℕ) (text t : List ℕ) (c : Result PropertyCommand CommandError) (ps : List Property) (u : ℕ) : Type 0 where
  turns : ℕ
  fewer : f ≡ suc turns
  reads : properties_by text t c (λ k. from k (properties_at turns text (drop k t))) ≡ done ps u

turn : (f : ℕ) (text t : List ℕ) (ps : List Property) (u : ℕ) {c : Result PropertyCommand CommandError} → property_command t ≡ c → properties_at f text t ≡ done ps u → Turn f text t c ps u
unfolding properties_at
turn zero text t ps u q e = stopped e
turn (suc f) text t ps u q e = record { turns = f; fewer = refl; reads = rw q at e }

-- behind a property of k bytes
record More (f : ℕ) (text t : List ℕ) (k : ℕ) (x : Property) (ps : List Property) (u : ℕ) : Type 0 where
  rest : List Property
  size : ℕ
  reads : properties_at f text (drop k t) ≡ done rest size
  is : ps ≡ x ∷ rest
  used : u ≡ k + size

more : (f : ℕ) (text t : List ℕ) (k : ℕ) (x : Property) (ps : List Property) (u : ℕ) → map (x ∷◌) (from k (properties_at f text (drop k t))) ≡ done ps u
    → More f text t k x ps u
more f text t k x ps u e =
    let m = map_done (x ∷◌) (from k (properties_at f text (drop k t))) e in
    let r = from_done k (properties_at f text (drop k t)) m.1 in
    record { rest = m.0; size = r.0; reads = r.1; is = sym m.2; used = r.2 }

-- ---- what is ahead

module _ (f : ℕ) (text t : List ℕ) (ps : List Property) (u : ℕ) (d : properties_at f text t ≡ done ps u) where
  ahead : (g k : ℕ) (e : ℕ) (name : Option Span) (behind : Bor (List ℕ)) → f ≡ suc g → k ≤ length t → behind.now ≡ drop k t
      → More g text t k (property_of e name) ps u → PropertyAt f text t ps u (record { value = e; name = name; behind = behind })
  ahead g k e name behind fewer fits here m = record {
    turns = g;
    fewer = fewer;
    rest = m.rest;
    size = m.size;
    reads = ap (properties_at g text) here ∙ m.reads;
    is = m.is;
    used = omega (arith, m.used, ap length here, length-drop k t);
  }

  pub next_unnamed : (e : ℕ) (behind : Bor (List ℕ)) → property_command t ≡ Ok (command.Property e) → behind.now ≡ drop 3 t
      → PropertyAt f text t ps u (record { value = e; name = None; behind = behind })
  unfolding properties_by property_of
  next_unnamed e behind q here =
      let b = turn f text t ps u q d in
      ahead b.turns 3 e None behind b.fewer (property_fits t q) here (more b.turns text t 3 (unnamed e) ps u b.reads)

  pub next_named : (e : ℕ) (s : Span) (behind : Bor (List ℕ)) → property_command t ≡ Ok (command.Named e s) → behind.now ≡ drop 7 t
      → PropertyAt f text t ps u (record { value = e; name = Some s; behind = behind })
  unfolding properties_by property_of
  next_named e s behind q here =
      let b = turn f text t ps u q d in
      let r = spanned_done (bounds_of text s) (map (prop_name e s ∷◌) (from 7 (properties_at b.turns text (drop 7 t)))) b.reads in
      ahead b.turns 7 e (Some s) behind b.fewer (property_fits t q) here (more b.turns text t 7 (prop_name e s) ps u r)

  pub next_end : property_command t ≡ Ok command.End → (ps ≡ []) × (u ≡ 1) × (1 ≤ length t)
  unfolding properties_by
  next_end q =
      let e : done [] 1 ≡ done ps u = (turn f text t ps u q d).reads in
      let n : ps ≡ [] = cc in
      let k : u ≡ 1 = cc in
      (n, k, property_fits t q)

  pub next_error : {A : Type 0} {x : CommandError} → property_command t ≡ Err x → A
  unfolding properties_by
  next_error q = stopped (turn f text t ps u q d).reads

-- ---- a loop over them

-- of t, which reads as ps and takes u bytes, t' is what is left, and of the properties that are left P holds
pub record PropertiesLeft (text t : List ℕ) (ps : List Property) (u : ℕ) (t' : List ℕ) (P : List Property → Type 0) : Type 0 where
  pub turns : ℕ
  pub rest : List Property
  pub size : ℕ
  pub enough : length t' < turns
  pub reads : properties_at turns text t' ≡ done rest size
  pub used : u + length t' ≡ length t + size
  pub known : P rest

pub left_begin : {text t : List ℕ} {ps : List Property} {f u : ℕ} {P : List Property → Type 0} → length t < f → properties_at f text t ≡ done ps u → P ps
    → PropertiesLeft text t ps u t P
left_begin {ps = ps} {f} {u} h e k =
    record { turns = f; rest = ps; size = u; enough = h; reads = e; used = omega arith; known = k }

module _ {text t : List ℕ} {ps : List Property} {u : ℕ} {t' : List ℕ} {P : List Property → Type 0} (l : PropertiesLeft text t ps u t' P) {r : Option Ahead}
    (next : (f : ℕ) (text : List ℕ) (ps : List Property) (u : ℕ) → properties_at f text t' ≡ done ps u → NextIs f text t' ps u r) where
  is_next : {x : Option Ahead} → r ≡ x → NextIs l.turns text t' l.rest l.size x
  is_next e = subst (NextIs l.turns text t' l.rest l.size) e (next l.turns text l.rest l.size l.reads)

  pub left_next : {Q : List Property → Type 0} {x : Ahead} → r ≡ Some x → Shorter t' r
      → ((rest : List Property) → P (property_of x.value x.name ∷ rest) → Q rest) → PropertiesLeft text t ps u x.behind.now Q
  unfolding NextIs
  left_next {x = x} e shorter step =
      let n : PropertyAt l.turns text t' l.rest l.size x = is_next e in
      let s : length x.behind.now < length t' = subst (Shorter t') e shorter in
      record {
        turns = n.turns;
        rest = n.rest;
        size = n.size;
        enough = omega (arith, l.enough, n.fewer, s);
        reads = n.reads;
        used = omega (arith, l.used, n.used);
        known = step n.rest (subst P n.is l.known);
      }

  pub left_over : r ≡ None → P [] × (u + length t' ≡ length t + 1) × (1 ≤ length t')
  unfolding NextIs
  left_over e =
      let n : (l.rest ≡ []) × (l.size ≡ 1) × (1 ≤ length t') = is_next e in
      (subst P n.0 l.known, omega (arith, l.used, n.1), n.2)

-- ---- whether a `__proto__` has come

or_assoc : (a b d : Bool) → (a || (b || d)) ≡ ((a || b) || d)
or_assoc true b d = refl
or_assoc false b d = refl

module _ (c : Context) (ps : List Property) (found : Bool) where
  pub proto_more : (p : Property) (r : List Property) {b : Bool} → b ≡ is_proto c p → has_proto c ps ≡ (found || has_proto c (p ∷ r))
      → has_proto c ps ≡ ((found || b) || has_proto c r)
  unfolding has_proto
  proto_more p r q h = h ∙ or_assoc found (is_proto c p) (has_proto c r) ∙ ap (λ (x : Bool). (found || x) || has_proto c r) (sym q)

  pub proto_end : has_proto c ps ≡ (found || has_proto c []) → found ≡ has_proto c ps
  unfolding has_proto
  proto_end h = go found h
    where
      go : (b : Bool) → has_proto c ps ≡ (b || false) → b ≡ has_proto c ps
      go true h = sym h
      go false h = sym h

-- ---- what has been written

-- of ps all but the rest
pub record Carried (ps : List Property) (p p' : Pen) (rest : List Property) : Type 0 where
  pub before : List Output
  pub whole : before ++ carried rest ≡ carried ps
  pub wrote : Produced before p p'

pub carried_begin : (ps : List Property) {p : Pen} → Short p → Carried ps p p ps
carried_begin ps short = record { before = []; whole = refl; wrote = produced_none short }

-- each property is carried over by its expression
carried_first : (e : ℕ) (name : Option Span) (r : List Property) → put_over with_expression.Carried e ++ carried r ≡ carried (property_of e name ∷ r)
unfolding carried property_of
carried_first e None r = refl
carried_first e (Some s) r = refl

module _ {ps : List Property} {p p₁ : Pen} where
  pub carried_more : {p₂ : Pen} (e : ℕ) (name : Option Span) (r : List Property) → Produced (put_over with_expression.Carried e) p₁ p₂
      → Carried ps p p₁ (property_of e name ∷ r) → Carried ps p p₂ r
  carried_more e name r w k = record {
    before = k.before ++ put_over with_expression.Carried e;
    whole = append_assoc k.before (put_over with_expression.Carried e) (carried r) ∙ ap (λ (o : List Output). k.before ++ o) (carried_first e name r) ∙ k.whole;
    wrote = produced_then k.wrote w;
  }

  pub carried_end : Carried ps p p₁ [] → Produced (carried ps) p p₁
  unfolding carried
  carried_end k = produced_as (sym (append-nil k.before) ∙ k.whole) k.wrote
