-- Whole calls of elements and fragments, from their parts.
--     sole_argument, object_argument           a classic call's argument: a lone spread, or what an object comes to
--     some_object, no_object                   the object of a classic call, null where there is no property
--     classic_element_written, automatic_element_written       a call of an element whose parts were read
--     bare_classic_call, bare_automatic_call   a call of a fragment
--     element_lowered_.., fragment_lowered_..  which of the calls a node becomes
-- Assumes nothing.
use Rattle.std.specs.Prelude.{Option, None, Some}
use mathlib.Core.Path.{◌≡◌, refl, sym, ap, subst, ◌∙◌}
use mathlib.Core.Bool.{Bool, true, false}
use mathlib.Core.List.{List, ◌++◌}
use Prim.Native.Nat.{ℕ, suc, ◌+◌, ◌≤◌, ◌<◌, ◌^◌}
use native.Mathlib.Omega.{arith}
use lib.ListN.{length, drop}
use Rattle.text.proofs.Lists.{told, tail_part}
use Rattle.commands.specs.declared.root.Place.{Place}
use Rattle.definitions.specs.declared.call_tape.Bare.TheVariants as bare
use Rattle.definitions.specs.declared.call_tape.WithByte.TheVariants as with_byte
use Rattle.definitions.specs.declared.call_tape.WithExpression.TheVariants as with_expression
use Rattle.definitions.specs.Judging.{Parsed, done}
use Rattle.definitions.specs.Tree.{Name, Node, element, Attributes, Children}
use Rattle.definitions.specs.Reading.{name_at, attributes_at, children_at, element_at, fragment_at}
use Rattle.definitions.specs.Lowering.{Context, Output, put, put_byte, put_over, callee_named, pure_byte, automatic_name, static_children, is_classic, classic_element, fragment_tag, object_of, lone_spread_or, no_key, self_output, source_output, lower_attributes, lower_key, lower_node, lower_name, lower_children}
use Rattle.definitions.specs.Store.{create_element}
use Rattle.pen.specs.declared.pen.Pen.{Pen}
use Rattle.pen.specs.Emitting.{Produced}
use Rattle.root_check.proofs.Behind.{part, part_length}
use Rattle.emit.specs.declared.used.Used.{Used}
use Rattle.parts.specs.declared.jsx_impl.Items.{Items}
use Rattle.parts.specs.declared.jsx_impl.Props.{Props}
use Rattle.parts.specs.Promises.{SoleAt, LoneWithin, some_output}
use Rattle.jsx.specs.Parts.{Written, Countable, Parts, KeyAt, AttributesWritten, ChildrenWritten, children_object, classic_properties, classic_call_of, automatic_element, classic_fragment, automatic_fragment}
use Rattle.jsx.proofs.Nesting.{element_parts, fragment_parts}
use Rattle.pen.proofs.Emitting.{produced_none, produced_then, produced_as, produced_over}
use Rattle.jsx.proofs.Lowerings.{classic_written, automatic_written, object_null, object_some, element_classic, element_automatic, fragment_classic, fragment_automatic}

-- ---- parts of the tape

pub part_reads : {A : Type 0} (read : List ℕ → Parsed A) (t : List ℕ) (n m : ℕ) {r : Parsed A} → n ≡ m → read (drop m t) ≡ r → read (part n t) ≡ r
part_reads read t n m e h = ap read (tail_part t n ∙ ap (λ (q : ℕ). drop q t) e) ∙ h

pub part_short : (t : List ℕ) (n f : ℕ) → length t < f → length (part n t) < f
part_short t n f h = omega (arith, part_length n t)

pub part_inside : (t : List ℕ) (n m : ℕ) → n ≤ length t → m ≤ length (part n t) → n + m ≤ length t
part_inside t n m h k = omega (arith, part_length n t)

-- a target that kept its length
pub kept_short : {m n : ℕ} → m ≡ n → n ≤ 2 ^ 63 → m ≤ 2 ^ 63
kept_short e h = omega (arith, e)

-- ---- the argument of a classic call

pub sole_inside : (len : ℕ) (l : Option (Used ℕ)) (s : Used ℕ) → l ≡ Some s → LoneWithin len l → s.used ≤ len
sole_inside len l s i h = subst (LoneWithin len) i h

module _ (c : Context) (a : Attributes) (u : ℕ) (object : List Output) (l : Option (Used ℕ)) (s : SoleAt c a u l) where
  pub sole_argument : (r : Used ℕ) {p p' : Pen} → l ≡ Some r → Produced (put_over with_expression.SoleSpread r.value) p p'
      → Written (lone_spread_or c a object) u p p' r.used
  unfolding SoleAt
  sole_argument r i w =
      let z : SoleAt c a u (Some r) = subst (SoleAt c a u) i s in
      record { taken = sym z.0; wrote = produced_as (sym (z.1 object)) w }

  pub object_argument : {p p' : Pen} {used : ℕ} → l ≡ None → Written object u p p' used
      → Written (lone_spread_or c a object) u p p' used
  unfolding SoleAt
  object_argument i w =
      let z : SoleAt c a u None = subst (SoleAt c a u) i s in
      record { taken = w.taken; wrote = produced_as (sym (z object)) w.wrote }

-- ---- the object of a classic call

module _ (c : Context) (place : Place) (a : Attributes) {d : ℕ} {t : List ℕ} {u : ℕ} {p₀ p₁ p₂ p₃ p₄ : Pen} {r : Props} {more : Bool}
    (b : Produced (put bare.ObjectBegin) p₀ p₁) (w : AttributesWritten c true d t a u p₁ p₂ r)
    (x : Produced (self_output c) p₂ p₃) (y : Produced (source_output c place) p₃ p₄)
    (m : (os : List Output) → some_output os ≡ r.some → more ≡ some_output (os ++ self_output c ++ source_output c place)) where
  properties : Produced (classic_properties c place a) p₁ p₄
  unfolding classic_properties
  properties = produced_then (produced_then w.wrote x) y

  flagged : more ≡ some_output (classic_properties c place a)
  unfolding classic_properties
  flagged = m (lower_attributes c true a) (sym w.flagged)

  pub some_object : {p₅ : Pen} → more ≡ true → Produced (put bare.ObjectEnd) p₄ p₅
      → Written (object_of (classic_properties c place a)) u p₀ p₅ r.used
  some_object h z =
      record {
        taken = w.taken;
        wrote =
            produced_as (sym (object_some (classic_properties c place a) (told flagged h)))
            (produced_then (produced_then b properties) z);
      }

  pub no_object : {p₅ : Pen} → more ≡ false → Produced (put bare.Null) (record p₄ { at = record p₄.at { calls = p₀.at.calls } }) p₅
      → Written (object_of (classic_properties c place a)) u p₀ p₅ r.used
  no_object h z =
      let e = object_null (classic_properties c place a) (told flagged h) in
      record { taken = w.taken; wrote = produced_as (sym e.1) (produced_over (produced_then b (produced_as e.0 properties)) z) }

-- ---- calls of elements

module _ (c : Context) (t : List ℕ) (at : ℕ) (place : Place) {d f : ℕ} {n : Name}
    {a : Attributes} {v : ℕ} {k : Children} {w : ℕ} (P : Parts c.text d t f at n a v k w) where
  pub classic_element_written : {first : ℕ} {items : Items} {p₀ p₁ p₂ p₃ p₄ p₅ p₆ : Pen} → Countable place
      → Produced (put_byte with_byte.Call 0) p₀ p₁
      → ((d f : ℕ) (a : Attributes) (u : ℕ) → length (part at t) < f → attributes_at f c.text d (part at t) ≡ done a u → Countable place
      → Written (lone_spread_or c a (object_of (classic_properties c place a))) u p₁ p₂ first)
      → ((f d : ℕ) (k : Children) (u : ℕ) → length (part (at + first) t) < f → children_at f c.text d (part (at + first) t) ≡ done k u
      → ChildrenWritten c k (lower_children c k) u p₂ p₃ items)
      → Produced (put bare.Tag) p₃ p₄
      → ((text : List ℕ) (f : ℕ) (n : Name) (u : ℕ) → length t < f → name_at f text t ≡ done n u → Produced (lower_name c n) p₄ p₅)
      → Produced (put bare.Callee ++ callee_named c.settings.mode create_element ++ put_byte with_byte.CallEnd (pure_byte c.settings.pure)) p₅ p₆
      → Written (classic_call_of c place n a k) (at + v + w) p₀ p₆ (at + first + items.used)
  unfolding classic_call_of
  classic_element_written {first} {items} q b arg kids g name z =
      let x = arg (suc d) f a v (part_short t at f P.enough) (part_reads (λ l. attributes_at f c.text (suc d) l) t at at refl P.attributes_reads) q in
      let e : at + first ≡ at + v = ap (λ (m : ℕ). at + m) x.taken in
      let y =
      kids f (suc d) k w (part_short t (at + first) f P.enough)
      (part_reads (λ l. children_at f c.text (suc d) l) t (at + first) (at + v) e P.children_reads) in
      record {
        taken = omega (arith, e, y.taken);
        wrote = classic_written c b x.wrote y.wrote g (name c.text f n at P.enough P.name_reads) z;
      }

  pub automatic_element_written : {props : Props} {items : Items} {callee : ℕ}
      {p₀ p₁ p₂ p₃ p₄ p₅ p₆ p₇ p₈ p₉ p₁₀ p₁₁ : Pen}
      → Produced (put_byte with_byte.Call 1) p₀ p₁ → Produced (put bare.ObjectBegin) p₁ p₂
      → ((f d : ℕ) (a : Attributes) (u : ℕ) → length (part at t) < f → attributes_at f c.text d (part at t) ≡ done a u
      → AttributesWritten c false d (part at t) a u p₂ p₃ props)
      → ((f d : ℕ) (k : Children) (u : ℕ) → length (part (at + props.used) t) < f → children_at f c.text d (part (at + props.used) t) ≡ done k u
      → ChildrenWritten c k (children_object c k) u p₃ p₄ items)
      → ((d : ℕ) (os : List Output) → KeyAt c d (part at t) (no_key c) props.key os → Produced os p₄ p₅)
      → Produced (static_children c items.count) p₅ p₆ → Produced (source_output c place) p₆ p₇ → Produced (self_output c) p₇ p₈
      → Produced (put bare.Tag) p₈ p₉
      → ((text : List ℕ) (f : ℕ) (n : Name) (u : ℕ) → length t < f → name_at f text t ≡ done n u → Produced (lower_name c n) p₉ p₁₀)
      → callee ≡ automatic_name c items.count
      → Produced (put bare.Callee ++ callee_named c.settings.mode callee ++ put_byte with_byte.CallEnd (pure_byte c.settings.pure)) p₁₀ p₁₁
      → Written (automatic_element c place n a k) (at + v + w) p₀ p₁₁ (at + props.used + items.used)
  unfolding automatic_element
  automatic_element_written {props} {items} {callee} {p₅ = p₅} {p₆} {p₁₀ = p₁₀} {p₁₁} b o attrs kids key st src self g name i z =
      let x = attrs f (suc d) a v (part_short t at f P.enough) (part_reads (λ l. attributes_at f c.text (suc d) l) t at at refl P.attributes_reads) in
      let e : at + props.used ≡ at + v = ap (λ (m : ℕ). at + m) x.taken in
      let y =
      kids f (suc d) k w (part_short t (at + props.used) f P.enough)
      (part_reads (λ l. children_at f c.text (suc d) l) t (at + props.used) (at + v) e P.children_reads) in
      record {
        taken = omega (arith, e, y.taken);
        wrote =
            automatic_written c k b o x.wrote y.wrote (key (suc d) (lower_key c a (no_key c)) (x.keyed (no_key c)))
            (subst (λ (m : ℕ). Produced (static_children c m) p₅ p₆) y.counted st)
            (produced_then src self) g (name c.text f n at P.enough P.name_reads)
            (subst (λ (m : ℕ). Produced (put bare.Callee ++ callee_named c.settings.mode m ++ put_byte with_byte.CallEnd (pure_byte c.settings.pure)) p₁₀ p₁₁)
            (i ∙ ap (automatic_name c) y.counted) z);
      }

-- ---- calls of fragments

module _ (c : Context) (k : Children) {u : ℕ} {items : Items} where
  pub bare_classic_call : {p₀ p₁ p₂ p₃ p₄ p₅ p₆ : Pen} → Produced (put_byte with_byte.Call 0) p₀ p₁ → Produced (put bare.Null) p₁ p₂
      → ChildrenWritten c k (lower_children c k) u p₂ p₃ items → Produced (put bare.Tag) p₃ p₄
      → Produced (fragment_tag c.settings.mode) p₄ p₅
      → Produced (put bare.Callee ++ callee_named c.settings.mode create_element ++ put_byte with_byte.CallEnd (pure_byte c.settings.pure)) p₅ p₆
      → Written (classic_fragment c k) u p₀ p₆ items.used
  unfolding classic_fragment object_of
  bare_classic_call b o y g x z = record { taken = y.taken; wrote = classic_written c b o y.wrote g x z }

  pub bare_automatic_call : {callee : ℕ} {p₀ p₁ p₂ p₃ p₄ p₅ p₆ p₇ p₈ : Pen} → Produced (put_byte with_byte.Call 1) p₀ p₁
      → Produced (put bare.ObjectBegin) p₁ p₂ → ChildrenWritten c k (children_object c k) u p₂ p₃ items → Produced (no_key c) p₃ p₄
      → Produced (static_children c items.count) p₄ p₅ → Produced (put bare.Tag) p₅ p₆ → Produced (fragment_tag c.settings.mode) p₆ p₇
      → callee ≡ automatic_name c items.count
      → Produced (put bare.Callee ++ callee_named c.settings.mode callee ++ put_byte with_byte.CallEnd (pure_byte c.settings.pure)) p₇ p₈
      → Written (automatic_fragment c k) u p₀ p₈ items.used
  unfolding automatic_fragment
  bare_automatic_call {p₂ = p₂} {p₄} {p₅} {p₇ = p₇} {p₈} b o y q st g x i z = record {
    taken = y.taken;
    wrote =
        automatic_written c k b o (produced_none y.wrote.1) y.wrote q
        (subst (λ (m : ℕ). Produced (static_children c m) p₄ p₅) y.counted st) (produced_none g.1) g x
        (subst (λ (m : ℕ). Produced (put bare.Callee ++ callee_named c.settings.mode m ++ put_byte with_byte.CallEnd (pure_byte c.settings.pure)) p₇ p₈)
        (i ∙ ap (automatic_name c) y.counted) z);
  }

-- ---- which call a node becomes

module _ (c : Context) (place : Place) (t : List ℕ) (at : ℕ) {classic : Bool} (f d : ℕ) (n : Node) (u : ℕ) {p p' : Pen} {used : ℕ}
    (enough : suc (length t) < f) (reads : element_at f c.text d place t ≡ done n u)
    (skipped : (f : ℕ) (text : List ℕ) (n : Name) (u : ℕ) → name_at f text t ≡ done n u → at ≡ u)
    (judged : (f d : ℕ) (a : Attributes) (u : ℕ) → length (part at t) < f → attributes_at f c.text d (part at t) ≡ done a u → classic ≡ classic_element c a) where
  lowered : (out : Name → Attributes → Children → List Output)
      → ((m : Name) (a : Attributes) (k : Children) → classic ≡ classic_element c a → lower_node c (element place m a k) ≡ out m a k) → Countable place
      → ((d f : ℕ) (m : Name) (a : Attributes) (v : ℕ) (k : Children) (w : ℕ) → Parts c.text d t f at m a v k w → Countable place
      → Written (out m a k) (at + v + w) p p' used)
      → Written (lower_node c n) u p p' used
  lowered out is q w =
      let E = element_parts c.text d place t f reads in
      let i : at ≡ E.named = skipped E.fuel c.text E.name E.named E.name_reads in
      let r : attributes_at E.fuel c.text (suc d) (drop at t) ≡ done E.attrs E.attributed =
      ap (λ (m : ℕ). attributes_at E.fuel c.text (suc d) (drop m t)) i ∙ E.attributes_reads in
      let long : length t < E.fuel = omega (arith, enough, E.turns) in
      let j : classic ≡ classic_element c E.attrs =
      judged E.fuel (suc d) E.attrs E.attributed (part_short t at E.fuel long)
      (part_reads (λ l. attributes_at E.fuel c.text (suc d) l) t at at refl r) in
      let x : Written (out E.name E.attrs E.kids) (at + E.attributed + E.size) p p' used =
      w d E.fuel E.name E.attrs E.attributed E.kids E.size (
      record {
        enough = long;
        name_reads = E.name_reads ∙ ap (done E.name) (sym i);
        attributes_reads = r;
        children_reads = ap (λ (m : ℕ). children_at E.fuel c.text (suc d) (drop (m + E.attributed) t)) i ∙ E.children_reads;
      }
      ) q in
      record {
        taken = omega (arith, x.taken, E.used, i);
        wrote = produced_as (sym (ap (lower_node c) E.is ∙ is E.name E.attrs E.kids j)) x.wrote;
      }

  pub element_lowered_classic : classic ≡ true → Countable place
      → ((d f : ℕ) (m : Name) (a : Attributes) (v : ℕ) (k : Children) (w : ℕ) → Parts c.text d t f at m a v k w → Countable place
      → Written (classic_call_of c place m a k) (at + v + w) p p' used)
      → Written (lower_node c n) u p p' used
  element_lowered_classic h q w = lowered (classic_call_of c place) (λ m a k j. element_classic c place m a k (told j h)) q w

  pub element_lowered_automatic : classic ≡ false → Countable place
      → ((d f : ℕ) (m : Name) (a : Attributes) (v : ℕ) (k : Children) (w : ℕ) → Parts c.text d t f at m a v k w → Countable place
      → Written (automatic_element c place m a k) (at + v + w) p p' used)
      → Written (lower_node c n) u p p' used
  element_lowered_automatic h q w = lowered (automatic_element c place) (λ m a k j. element_automatic c place m a k (told j h)) q w

module _ (c : Context) (t : List ℕ) (f d : ℕ) (place : Place) (n : Node) (u : ℕ) {p p' : Pen} {used : ℕ} (enough : suc (length t) < f)
    (reads : fragment_at f c.text d place t ≡ done n u) where
  pub fragment_lowered_classic : is_classic c.settings.mode ≡ true
      → ((f d : ℕ) (k : Children) (u : ℕ) → length t < f → children_at f c.text d t ≡ done k u → Written (classic_fragment c k) u p p' used)
      → Written (lower_node c n) u p p' used
  fragment_lowered_classic h w =
      let E = fragment_parts c.text d place t f reads in
      let x : Written (classic_fragment c E.2) u p p' used = w E.0 (suc d) E.2 u (omega (arith, enough, E.1)) E.3 in
      record { taken = x.taken; wrote = produced_as (sym (ap (lower_node c) E.4 ∙ fragment_classic c place E.2 h)) x.wrote }

  pub fragment_lowered_automatic : is_classic c.settings.mode ≡ false
      → ((f d : ℕ) (k : Children) (u : ℕ) → length t < f → children_at f c.text d t ≡ done k u → Written (automatic_fragment c k) u p p' used)
      → Written (lower_node c n) u p p' used
  fragment_lowered_automatic h w =
      let E = fragment_parts c.text d place t f reads in
      let x : Written (automatic_fragment c E.2) u p p' used = w E.0 (suc d) E.2 u (omega (arith, enough, E.1)) E.3 in
      record { taken = x.taken; wrote = produced_as (sym (ap (lower_node c) E.4 ∙ fragment_automatic c place E.2 h)) x.wrote }
