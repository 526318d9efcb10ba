-- Attributes and keys written one at a time.
--     value_behind_written, plain_written     an attribute's value, a plain attribute
--     goes, plain_property, plain_passed, ..  the step that an attribute at the front is
--     AttributesLeft, left_begin, left_more, left_over, left_never    the loop over attributes
--     key_none, key_some                      the value of the last key
-- Assumes nothing.
use Rattle.std.specs.Prelude.{Option, None, Some, Ok}
use mathlib.Core.Path.{◌≡◌, refl, sym, ap, subst, ◌∙◌}
use mathlib.Core.Bool.{Bool, true, false, cond, ◌||◌, ◌&&◌}
use mathlib.Core.List.{List, [], ◌∷◌, ◌++◌}
use Prim.Native.Nat.{ℕ, suc, ◌+◌, ◌≤◌, ◌<◌}
use native.Mathlib.Omega.{arith}
use lib.ListN.{length, drop}
use lib.Dec.{eqb}
use Rattle.text.specs.declared.spans.Span.{Span}
use Rattle.text.specs.Bytes.{find}
use Rattle.text.specs.Spans.{part_of}
use Rattle.text.proofs.Lists.{tail_part}
use Rattle.commands.specs.declared.root.AttributeCommand.TheVariants as attributes
use Rattle.commands.specs.Root.{attribute_command}
use Rattle.definitions.specs.declared.call_tape.Bare.TheVariants as bare
use Rattle.definitions.specs.declared.call_tape.WithExpression.TheVariants as with_expression
use Rattle.definitions.specs.declared.call_tape.WithSpan.TheVariants as with_span
use Rattle.definitions.specs.Judging.{Parsed, done}
use Rattle.definitions.specs.Tree.{Property, Attributes, attribute, Value}
use Rattle.definitions.specs.Reading.{properties_at, attributes_at, value_at}
use Rattle.definitions.specs.Lowering.{Context, Output, put, put_over, put_span, quoted, piece, colonized, is_found, is_key, has_value, key_notice, attribute_name, lower_literal, lower_attributes, lower_key, lower_value, no_key}
use Rattle.pen.specs.declared.pen.Pen.{Pen}
use Rattle.pen.specs.Emitting.{Short, Produced}
use Rattle.root_check.proofs.Behind.{part, part_length}
use Rattle.parts.specs.declared.jsx_impl.Props.{Props}
use Rattle.parts.specs.Promises.{LiteralWritten, some_output}
use Rattle.jsx.specs.Parts.{Written, Step, KeyFirst, other, first, KeyAt, without_key, key_at, KeyWithin, AttributeMoves, AttributeStep, AttributesGo, AttributesWritten}
use Rattle.parts.proofs.Inversions.{Behind, Within, attributes_end, attributes_error, attributes_plain, attributes_namespaced, attributes_spread, attributes_literal}
use Rattle.pen.proofs.Emitting.{produced_none, produced_then}
use Rattle.parts.specs.Promises.{starts_with, newer}
use Rattle.parts.proofs.Ends.{attributes_over, no_attribute}
use Rattle.jsx.proofs.Turns.{Left, left_start, left_goes, left_ends, or_assoc, or_false}
use Rattle.jsx.proofs.Lowerings.{step_on, KeySoFar, key_start, key_goes, key_passed, property_written, classic_property}

-- what reads n bytes behind the front reads the same in the part that is handed on
pub in_part : {A : Type 0} (read : List ℕ → A) (n : ℕ) (t : List ℕ) {x : A} → read (drop n t) ≡ x → read (part n t) ≡ x
in_part read n t e = ap read (tail_part t n) ∙ e

-- ---- an attribute whose name is written: its value

pub value_behind_written : (c : Context) (t : List ℕ) (n : ℕ) {p p' : Pen} {used : ℕ} → 1 ≤ n → n ≤ length t
    → ((f d : ℕ) (v : Value) (u : ℕ) → length (part n t) < f → value_at f c.text d (part n t) ≡ done v u
    → Written (lower_value c v) u p p' used)
    → (f d : ℕ) (v : Value) (u : ℕ) → length t ≤ f → value_at f c.text d (drop n t) ≡ done v u → Written (lower_value c v) (n + u) p p' (n + used)
value_behind_written c t n one within W f d v u h e =
    let w = W f d v u (omega (arith, part_length n t)) (in_part (λ (l : List ℕ). value_at f c.text d l) n t e) in
    record { taken = ap (λ (q : ℕ). n + q) w.taken; wrote = w.wrote }

-- ---- a plain attribute

-- what the code says of a key without a value, where the value reads
abbrev pub Notice : Context → Span → List ℕ → Pen → Pen → Type 0
Notice c s t p p' = (f d : ℕ) (v : Value) (u : ℕ) → value_at f c.text d t ≡ done v u → Produced (key_notice c s v) p p'

pub plain_written : (c : Context) (t : List ℕ) (s : Span) {p p₁ p₂ p₃ : Pen} {used : ℕ}
    → Notice c s (part 5 t) p p₁ → Produced (attribute_name c s) p₁ p₂
    → ((f d : ℕ) (v : Value) (u : ℕ) → length t ≤ f → value_at f c.text d (drop 5 t) ≡ done v u → Written (lower_value c v) (5 + u) p₂ p₃ used)
    → (f d : ℕ) (v : Value) (u : ℕ) → length t ≤ f → value_at f c.text d (drop 5 t) ≡ done v u
    → Written (key_notice c s v ++ attribute_name c s ++ lower_value c v) (5 + u) p p₃ used
plain_written c t s N A W f d v u h e =
    let w = W f d v u h e in
    record {
      taken = w.taken;
      wrote =
          produced_then
          (produced_then (N f d v u (in_part (λ (l : List ℕ). value_at f c.text d l) 5 t e)) A)
          w.wrote;
    }

-- ---- whether there is any output

pub some_append : (os qs : List Output) → some_output (os ++ qs) ≡ (some_output os || some_output qs)
unfolding some_output
some_append [] qs = refl
some_append (o ∷ os) qs = refl

some_behind : (os qs : List Output) → some_output os ≡ true → some_output (os ++ qs) ≡ true
unfolding some_output
some_behind [] qs h = let z : ◌≡◌ {A = ℕ} 0 1 = cc in absurd (omega arith)
some_behind (o ∷ os) qs h = refl

some_before : (os qs : List Output) → some_output qs ≡ true → some_output (os ++ qs) ≡ true
unfolding some_output
some_before [] qs h = h
some_before (o ∷ os) qs h = refl

some_named : (c : Context) (s : Span) → some_output (attribute_name c s) ≡ true
unfolding some_output attribute_name
some_named c s = go (is_found (find (eqb 0x2d) (part_of c.text s)))
  where
    go : (b : Bool) → some_output (cond b (put bare.StringName ++ quoted (piece s)) (put_span with_span.Name s)) ≡ true
    go true = refl
    go false = refl

some_plain : (c : Context) (s : Span) (v : Value) → true ≡ some_output (key_notice c s v ++ attribute_name c s ++ lower_value c v)
some_plain c s v = sym (some_behind (key_notice c s v ++ attribute_name c s) (lower_value c v) (some_before (key_notice c s v) (attribute_name c s) (some_named c s)))

-- ---- the step that an attribute at the front is

module _ (c : Context) (classic : Bool) (d : ℕ) (t : List ℕ) {p p' : Pen} {f u : ℕ} {a : Attributes} (r : Props) where
  -- what was read, the rest behind the bytes that are passed
  goes : {g : Attributes → Attributes} {m : ℕ} (B : Behind (λ h l. attributes_at h c.text d l) t f a u m g) → r.used ≡ m → (os : List Output)
      → lower_attributes c classic (g B.rest) ≡ os ++ lower_attributes c classic B.rest → r.some ≡ some_output os
      → KeyFirst c d t r.key B.fuel (g B.rest) B.rest → Produced os p p'
      → AttributeStep c classic d t p p' r f a u
  goes B n os o s k w =
      let step =
      step_on (λ h l. attributes_at h c.text d l) (lower_attributes c classic) (AttributesGo c classic d r) t B os o
      (ap some_output o ∙ some_append os (lower_attributes c classic B.rest) ∙ ap (λ (b : Bool). b || some_output (lower_attributes c classic B.rest)) (sym s), k) w in
      subst (λ (q : ℕ). Step (λ h l. attributes_at h c.text d l) (lower_attributes c classic) (AttributesGo c classic d r) t p p' q f a u) (sym n) step

-- the first of a list was read by a reader of its own
abbrev whole : {A B : Type 0} {inner : ℕ → List ℕ → Parsed B} {read : ℕ → List ℕ → Parsed A} {t : List ℕ} {f u m : ℕ} {x : A} {g : B → A → A}
    (W : Within inner read t f x u m g) → Behind read t f x u (m + W.took) (g W.part)
whole W = record { fuel = W.fuel; turns = W.turns; rest = W.rest; size = W.size; is = W.is; reads = W.reads; used = W.used }

-- a key with a value, or none
module _ (c : Context) (s : Span) (v : Value) (b : Attributes) (os : List Output) where
  key_valued : (is_key c s && has_value v) ≡ true → lower_key c (attribute s v b) os ≡ lower_key c b (put bare.Key ++ lower_value c v)
  unfolding lower_key
  key_valued h = go (is_key c s && has_value v) h
    where
      go : (x : Bool) → x ≡ true → lower_key c b (cond x (put bare.Key ++ lower_value c v) os) ≡ lower_key c b (put bare.Key ++ lower_value c v)
      go x h = rw h refl

  key_unvalued : (is_key c s && has_value v) ≡ false → lower_key c (attribute s v b) os ≡ lower_key c b os
  unfolding lower_key
  key_unvalued h = go (is_key c s && has_value v) h
    where
      go : (x : Bool) → x ≡ false → lower_key c b (cond x (put bare.Key ++ lower_value c v) os) ≡ lower_key c b os
      go x h = rw h refl

-- what the code says of a key, behind five bytes of t
abbrev pub Valued : Context → List ℕ → Span → Bool → Type 0
Valued c t s valued = (f d : ℕ) (v : Value) (u : ℕ) → value_at f c.text d (part 5 t) ≡ done v u → valued ≡ (is_key c s && has_value v)

-- what the code says of a plain attribute that is written
abbrev pub Facts : ℕ → ℕ → Option ℕ → Props → Type 0
Facts len n key r = (r.key ≡ key) × (r.some ≡ true) × (n ≤ r.used) × (r.used ≤ len)

-- a key that was found is within what was used
pub key_at_most : (used : ℕ) {key : Option ℕ} (k : Option ℕ) → k ≡ key → KeyWithin used key → KeyWithin used k
key_at_most used k e h = subst (KeyWithin used) (sym e) h

pub facts_moves : {len n : ℕ} {key : Option ℕ} (r : Props) → Facts len n key r → 1 ≤ n → KeyWithin r.used key → AttributeMoves len r
facts_moves r F one h = (F.3, omega (arith, F.2), key_at_most r.used r.key F.0 h)

abbrev pub PlainWritten : Context → List ℕ → Span → Pen → Pen → Props → Type 0
PlainWritten c t s p p' r =
    (f d : ℕ) (v : Value) (u : ℕ) → length t ≤ f → value_at f c.text d (drop 5 t) ≡ done v u
    → Written (key_notice c s v ++ attribute_name c s ++ lower_value c v) (5 + u) p p' r.used

module _ (c : Context) (classic : Bool) (t : List ℕ) (s : Span) (front : attribute_command t ≡ Ok (attributes.Plain s)) (valued : Bool) (K : Valued c t s valued)
    {p p' : Pen} (r : Props) where
  -- a key with a value in a classic call
  pub plain_key : valued ≡ true → classic ≡ true → {len : ℕ} → Facts len 5 (Some 5) r → PlainWritten c t s p p' r
      → (f d : ℕ) (a : Attributes) (u : ℕ) → length t < f → attributes_at f c.text d t ≡ done a u → AttributeStep c classic d t p p' r f a u
  plain_key so cl F P f d a u h e =
      let W = attributes_plain c.text t d f s front e in
      let w = P W.fuel d W.part W.took (omega (arith, W.turns)) W.part_reads in
      let valued_key : (is_key c s && has_value W.part) ≡ true =
      sym (K W.fuel d W.part W.took (in_part (λ (l : List ℕ). value_at W.fuel c.text d l) 5 t W.part_reads)) ∙ so in
      goes c classic d t r (whole W) w.taken (key_notice c s W.part ++ attribute_name c s ++ lower_value c W.part)
      (classic_property c classic s W.part W.rest cl) (F.1 ∙ some_plain c s W.part)
      (first 5 W.part W.took F.0 (omega arith) W.part_reads
      (λ os. key_valued c s W.part W.rest os valued_key))
      w.wrote

  -- no key with a value
  pub plain_property : valued ≡ false → {len : ℕ} → Facts len 5 None r → PlainWritten c t s p p' r
      → (f d : ℕ) (a : Attributes) (u : ℕ) → length t < f → attributes_at f c.text d t ≡ done a u → AttributeStep c classic d t p p' r f a u
  plain_property so F P f d a u h e =
      let W = attributes_plain c.text t d f s front e in
      let w = P W.fuel d W.part W.took (omega (arith, W.turns)) W.part_reads in
      let un_key : (is_key c s && has_value W.part) ≡ false =
      sym (K W.fuel d W.part W.took (in_part (λ (l : List ℕ). value_at W.fuel c.text d l) 5 t W.part_reads)) ∙ so in
      goes c classic d t r (whole W) w.taken (key_notice c s W.part ++ attribute_name c s ++ lower_value c W.part)
      (property_written c classic s W.part W.rest un_key) (F.1 ∙ some_plain c s W.part) (other F.0 (λ os. key_unvalued c s W.part W.rest os un_key))
      w.wrote

module _ (c : Context) (classic : Bool) (t : List ℕ) (s : Span) (front : attribute_command t ≡ Ok (attributes.Plain s)) (valued : Bool) (K : Valued c t s valued)
    {p : Pen} {took : ℕ} where
  -- a key with a value in an automatic call is no property
  pub plain_passed : Short p → valued ≡ true → classic ≡ false → 5 ≤ length t
      → ((f : ℕ) (text : List ℕ) (d : ℕ) (v : Value) (u : ℕ) → length (part 5 t) < f → value_at f text d (part 5 t) ≡ done v u → took ≡ u)
      → (f d : ℕ) (a : Attributes) (u : ℕ) → length t < f → attributes_at f c.text d t ≡ done a u → AttributeStep c classic d t p p (record { used = 5 + took; some = false; key = Some 5 }) f a u
  unfolding some_output
  plain_passed short so cl five S f d a u h e =
      let W = attributes_plain c.text t d f s front e in
      let reads : value_at W.fuel c.text d (part 5 t) ≡ done W.part W.took = in_part (λ (l : List ℕ). value_at W.fuel c.text d l) 5 t W.part_reads in
      let valued_key : (is_key c s && has_value W.part) ≡ true = sym (K W.fuel d W.part W.took reads) ∙ so in
      let n : took ≡ W.took = S W.fuel c.text d W.part W.took (omega (arith, W.turns, part_length 5 t)) reads in
      goes c classic d t (record { used = 5 + took; some = false; key = Some 5 }) (whole W) (ap (λ (q : ℕ). 5 + q) n) []
      (key_passed c classic s W.part W.rest valued_key cl) refl
      (first 5 W.part W.took refl (omega arith) W.part_reads (λ os. key_valued c s W.part W.rest os valued_key))
      (produced_none short)

module _ (c : Context) (classic : Bool) (t : List ℕ) where
  pub namespaced_step : (s z : Span) → attribute_command t ≡ Ok (attributes.Namespaced s z) → {p p₁ p₂ p₃ : Pen}
      → Produced (put bare.StringName) p p₁ → Produced (colonized s z) p₁ p₂ → (r : Props) {len : ℕ} → Facts len 9 None r
      → ((f d : ℕ) (v : Value) (u : ℕ) → length t ≤ f → value_at f c.text d (drop 9 t) ≡ done v u
      → Written (lower_value c v) (9 + u) p₂ p₃ r.used)
      → (f d : ℕ) (a : Attributes) (u : ℕ) → length t < f → attributes_at f c.text d t ≡ done a u → AttributeStep c classic d t p p₃ r f a u
  unfolding lower_attributes lower_key some_output
  namespaced_step s z front N C r F P f d a u h e =
      let W = attributes_namespaced c.text t d f s z front e in
      let w = P W.fuel d W.part W.took (omega (arith, W.turns)) W.part_reads in
      goes c classic d t r (whole W) w.taken (put bare.StringName ++ colonized s z ++ lower_value c W.part) refl F.1 (other F.0 (λ os. refl))
      (produced_then (produced_then N C) w.wrote)

  pub spread_step : (x : ℕ) → attribute_command t ≡ Ok (attributes.Spread x) → {p p' : Pen} → Produced (put_over with_expression.SpreadProperty x) p p'
      → (f d : ℕ) (a : Attributes) (u : ℕ) → length t < f → attributes_at f c.text d t ≡ done a u
      → AttributeStep c classic d t p p' (record { used = 3; some = true; key = None }) f a u
  unfolding lower_attributes lower_key some_output
  spread_step x front w f d a u h e =
      let W = attributes_spread c.text t d f x front e in
      goes c classic d t (record { used = 3; some = true; key = None }) W refl (put_over with_expression.SpreadProperty x) refl refl
      (other refl (λ os. refl)) w

  pub literal_step : (x : ℕ) → attribute_command t ≡ Ok (attributes.Literal x) → {p p' : Pen} (r : Props) → r.key ≡ None
      → ((f : ℕ) (ps : List Property) (u : ℕ) → length t ≤ f → properties_at f c.text (drop 3 t) ≡ done ps u
      → LiteralWritten (lower_literal c x ps) (3 + u) p p' r)
      → (f d : ℕ) (a : Attributes) (u : ℕ) → length t < f → attributes_at f c.text d t ≡ done a u → AttributeStep c classic d t p p' r f a u
  unfolding lower_attributes lower_key
  literal_step x front r k L f d a u h e =
      let W = attributes_literal c.text t d f x front e in
      let w = L W.fuel W.part W.took (omega (arith, W.turns)) W.part_reads in
      goes c classic d t r (whole W) w.taken (lower_literal c x W.part) refl w.flagged (other k (λ os. refl)) w.wrote

-- ---- the loop over attributes

-- what was found in the attributes before `rest`
pub record Gathered (c : Context) (classic : Bool) (d : ℕ) (t : List ℕ) (a : Attributes) (some : Bool) (key : Option ℕ) (rest : Attributes) : Type 0 where
  pub flags : some_output (lower_attributes c classic a) ≡ (some || some_output (lower_attributes c classic rest))
  pub keys : (given : List Output) → KeySoFar c d t a given key rest

abbrev pub AttributesLeft : Context → Bool → ℕ → List ℕ → Attributes → ℕ → Pen → Pen → ℕ → Bool → Option ℕ → Type 0
AttributesLeft c classic d t a u p₀ p i some key =
    Left (λ g l. attributes_at g c.text d l) (lower_attributes c classic) (Gathered c classic d t a some key) t a u p₀ p i

pub left_begin : (c : Context) (classic : Bool) (t : List ℕ) {p : Pen} → Short p → (f d : ℕ) (a : Attributes) (u : ℕ) → length t < f → attributes_at f c.text d t ≡ done a u
    → AttributesLeft c classic d t a u p p 0 false None
left_begin c classic t short f d a u h e =
    left_start (λ g l. attributes_at g c.text d l) (lower_attributes c classic) t f a u short h e (record { flags = refl; keys = λ given. key_start c d t a given })

pub key_within : (len i : ℕ) (key k : Option ℕ) (used : ℕ) {now : Option ℕ} → KeyWithin len key → KeyWithin used k → i + used ≤ len → now ≡ newer i k key → KeyWithin len now
unfolding newer
key_within len i key (Some k) used kept h n e = rw e (omega arith)
key_within len i key None used kept h n e = rw e kept

module _ (c : Context) (classic : Bool) (t : List ℕ) {p₀ p : Pen} {i : ℕ} {some : Bool} {key : Option ℕ} (within : i ≤ length t) where
  pub left_more : {p₁ : Pen} {now : Option ℕ} (r : Props)
      → ((f d : ℕ) (a : Attributes) (u : ℕ) → length (part i t) < f → attributes_at f c.text d (part i t) ≡ done a u
      → AttributeStep c classic d (part i t) p p₁ r f a u)
      → now ≡ newer i r.key key → 1 ≤ r.used → (d : ℕ) (a : Attributes) (u : ℕ) → AttributesLeft c classic d t a u p₀ p i some key
      → AttributesLeft c classic d t a u p₀ p₁ (i + r.used) (some || r.some) now
  left_more {now = now} r step newest pos d a u R =
      left_goes (λ g l. attributes_at g c.text d l) (lower_attributes c classic) t (part i t) (tail_part t i) (λ f a u. step f d a u) within R pos keep
    where
      keep : (f : ℕ) (y z : Attributes) → length t < i + suc f → AttributesGo c classic d r (drop i t) f y z → Gathered c classic d t a some key y
          → Gathered c classic d t a (some || r.some) now z
      keep f y z enough G S = record {
        flags = S.flags ∙ ap (λ (b : Bool). some || b) G.0 ∙ or_assoc some r.some (some_output (lower_attributes c classic z));
        keys = λ given. rw newest (key_goes c d t a given i key r.key f y z enough G.1 (S.keys given));
      }

  -- the end, seen by its first byte
  pub left_over : starts_with 0x1e (part i t) ≡ true → (d : ℕ) (a : Attributes) (u : ℕ) → AttributesLeft c classic d t a u p₀ p i some key
      → AttributesWritten c classic d t a u p₀ p (record { used = i + 1; some = some; key = key })
  unfolding lower_attributes some_output lower_key
  left_over over d a u R =
      let z =
      attributes_end c.text (drop i t) d R.fuel (attributes_over (drop i t) (ap (starts_with 0x1e) (sym (tail_part t i)) ∙ over)) R.reads in
      record {
        taken = omega (arith, R.used, z.1);
        flagged = sym (R.also.flags ∙ ap (λ (b : Attributes). some || some_output (lower_attributes c classic b)) z.0 ∙ or_false some);
        keyed = λ given.
            let k = R.also.keys given in
            let same : lower_key c a given ≡ k.output = k.same ∙ ap (λ (b : Attributes). lower_key c b k.output) z.0 in
            rw same k.place;
        wrote = left_ends (λ g l. attributes_at g c.text d l) (lower_attributes c classic) t R (ap (lower_attributes c classic) z.0);
      }

  -- a tape that reads goes on to the end
  pub left_never : {A : Type 0} → length (part i t) ≡ 0 → (d : ℕ) (a : Attributes) (u : ℕ) → AttributesLeft c classic d t a u p₀ p i some key → A
  left_never empty d a u R =
      absurd
      (attributes_error c.text (part i t) d R.fuel (no_attribute (part i t) empty) (in_part (λ (l : List ℕ). attributes_at R.fuel c.text d l) i t R.reads))

-- ---- the value of the last key

pub key_none : {c : Context} {t : List ℕ} {p p' : Pen} (key : Option ℕ) → key ≡ None → Produced (no_key c) p p' → (d : ℕ) (os : List Output)
    → KeyAt c d t (no_key c) key os → Produced os p p'
key_none key z w d os without_key = w
key_none key z w d os (key_at q g u v enough reads) = let z : ◌≡◌ {A = ℕ} 0 1 = cc in absurd (omega arith)

pub key_some : {c : Context} {t : List ℕ} {p p₁ p₂ : Pen} {used : ℕ} (at : ℕ) (key : Option ℕ) → key ≡ Some at → at ≤ length t
    → Produced (put bare.Key) p p₁
    → ((f d : ℕ) (v : Value) (u : ℕ) → length (part at t) < f → value_at f c.text d (part at t) ≡ done v u → Written (lower_value c v) u p₁ p₂ used)
    → (d : ℕ) (os : List Output) → KeyAt c d t (no_key c) key os → Produced os p p₂
key_some at key z within w W d os without_key = let z : ◌≡◌ {A = ℕ} 0 1 = cc in absurd (omega arith)
key_some {c} {t} at key z within w W d os (key_at q g u v enough reads) =
    let e : q ≡ at = cc in
    let here : value_at g c.text d (drop at t) ≡ done v u = ap (λ (n : ℕ). value_at g c.text d (drop n t)) (sym e) ∙ reads in
    produced_then w
    (W g d v u (omega (arith, part_length at t, e)) (in_part (λ (l : List ℕ). value_at g c.text d l) at t here)).wrote
