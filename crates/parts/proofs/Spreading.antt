-- A classic call's lone spread, and whether it has a property at all.
-- Assumes nothing.
use Rattle.std.specs.Prelude.{Option, None, Some, Result, Ok, Err}
use mathlib.Core.Path.{◌≡◌, refl, sym, ap, ◌∙◌}
use mathlib.Core.Bool.{Bool, true, false, cond, not, ◌||◌, ◌&&◌}
use mathlib.Core.List.{List, [], ◌∷◌, ◌++◌}
use Prim.Native.Nat.{ℕ, ◌+◌, ◌-◌, ◌≤◌, ◌<◌}
use native.Mathlib.Omega.{arith}
use lib.ListN.{length, take, drop, length-drop}
use Rattle.commands.specs.declared.error.CommandError.{CommandError}
use Rattle.commands.specs.declared.root.Place.{Place}
use Rattle.commands.specs.declared.root.AttributeCommand.{AttributeCommand}
use Rattle.commands.specs.declared.root.AttributeCommand.TheVariants as attributes
use Rattle.commands.specs.Root.{attribute_command}
use Rattle.definitions.specs.declared.call_tape.Bare.TheVariants as bare
use Rattle.definitions.specs.declared.call_tape.WithExpression.TheVariants as with_expression
use Rattle.definitions.specs.declared.records.Import.TheVariants.{FileName}
use Rattle.definitions.specs.Calls as call
use Rattle.definitions.specs.Judging.{done}
use Rattle.definitions.specs.Tree.{Property, Attributes, no_attributes, attribute, namespaced_attribute, spread, literal}
use Rattle.definitions.specs.Reading.{properties_at, attributes_at}
use Rattle.definitions.specs.Lowering.{Context, Output, emit, put, put_over, has_proto, plugins_off, is_last, lone_spread_or, self_output, source_output}
use Rattle.emit.specs.declared.used.Used.{Used}
use Rattle.parts.specs.Promises.{some_output, SoleAt, Alone, LoneWithin}
use Rattle.parts.proofs.Inversions.{attributes_end, attributes_error, attributes_plain, attributes_namespaced, attributes_spread, attributes_literal, passing}

-- ---- whether the attributes end n bytes behind the front

module _ (t q : List ℕ) (x n : ℕ) (here : q ≡ drop n t) where
  at : {r : Result AttributeCommand CommandError} → attribute_command q ≡ r → attribute_command (drop n t) ≡ r
  at k = ap attribute_command (sym here) ∙ k

  pub alone_end : attribute_command q ≡ Ok attributes.End → n < length t → Alone t x n (Some (record { value = x; used = n + 1 }))
  unfolding Alone
  alone_end k h = (refl, refl, h, λ f d text a u e. attributes_end text (drop n t) d f (at k) e)

  -- a command other than their end
  pub alone_other : (y : AttributeCommand) → attribute_command q ≡ Ok y → (y ≡ attributes.End → ⊥) → Alone t x n None
  unfolding Alone is_last
  alone_other (attributes.Plain s) k not_end f d text a u e = rw (attributes_plain text (drop n t) d f s (at k) e).is refl
  alone_other (attributes.Namespaced s r) k not_end f d text a u e = rw (attributes_namespaced text (drop n t) d f s r (at k) e).is refl
  alone_other (attributes.Spread y) k not_end f d text a u e = rw (attributes_spread text (drop n t) d f y (at k) e).is refl
  alone_other (attributes.Literal y) k not_end f d text a u e = rw (attributes_literal text (drop n t) d f y (at k) e).is refl
  alone_other attributes.End k not_end f d text a u e = absurd (not_end refl)

  pub alone_error : {y : CommandError} → attribute_command q ≡ Err y → Alone t x n None
  unfolding Alone
  alone_error k f d text a u e = absurd (attributes_error text (drop n t) d f (at k) e)

-- ---- a lone spread

no_spread : (c : Context) (a : Attributes) → plugins_off c ≡ false → (object : List Output) → lone_spread_or c a object ≡ object
unfolding lone_spread_or
no_spread c no_attributes h object = refl
no_spread c (attribute s v a) h object = refl
no_spread c (namespaced_attribute s r v a) h object = refl
no_spread c (spread e a) h object = go (is_last a)
  where
    go : (b : Bool) → cond (b && plugins_off c) (put_over with_expression.SoleSpread e) object ≡ object
    go true = rw h refl
    go false = refl
no_spread c (literal e ps a) h object = go (is_last a)
  where
    go : (b : Bool) → cond (b && plugins_off c && not (has_proto c ps)) (put_over with_expression.SoleSpread e) object ≡ object
    go true = rw h refl
    go false = refl

taken : (p : Bool) (x y : List Output) → p ≡ true → cond (true && p) x y ≡ x
taken p x y h = rw h refl

taken₂ : (p h : Bool) (x y : List Output) → p ≡ true → h ≡ false → cond (true && p && not h) x y ≡ x
taken₂ p h x y i j = rw (i, j) refl

refused : (l p : Bool) (x y : List Output) → l ≡ false → cond (l && p) x y ≡ y
refused l p x y h = rw h refl

refused₂ : (l p h : Bool) (x y : List Output) → l ≡ false → cond (l && p && not h) x y ≡ y
refused₂ l p h x y i = rw i refl

protoed : (l p h : Bool) (x y : List Output) → h ≡ true → cond (l && p && not h) x y ≡ y
protoed true true h x y i = rw i refl
protoed true false h x y i = refl
protoed false p h x y i = refl

-- with a plugin on there is none
pub lone_on : (c : Context) (a : Attributes) (u : ℕ) → plugins_off c ≡ false → SoleAt c a u None
unfolding SoleAt
lone_on c a u h = no_spread c a h

module _ (c : Context) (text t : List ℕ) (f d : ℕ) (a : Attributes) (u : ℕ) (e : attributes_at f text d t ≡ done a u) where
  -- a command other than those of spreads
  pub lone_other : (x : AttributeCommand) → attribute_command t ≡ Ok x → ((y : ℕ) → x ≡ attributes.Spread y → ⊥) → ((y : ℕ) → x ≡ attributes.Literal y → ⊥) → SoleAt c a u None
  unfolding SoleAt lone_spread_or
  lone_other (attributes.Plain s) k spreads literals = λ object. ap (λ (b : Attributes). lone_spread_or c b object) (attributes_plain text t d f s k e).is
  lone_other (attributes.Namespaced s r) k spreads literals = λ object. ap (λ (b : Attributes). lone_spread_or c b object) (attributes_namespaced text t d f s r k e).is
  lone_other (attributes.Spread y) k spreads literals = absurd (spreads y refl)
  lone_other (attributes.Literal y) k spreads literals = absurd (literals y refl)
  lone_other attributes.End k spreads literals = λ object. ap (λ (b : Attributes). lone_spread_or c b object) (attributes_end text t d f k e).0

  pub lone_error : {x : CommandError} → attribute_command t ≡ Err x → SoleAt c a u None
  lone_error k = absurd (attributes_error text t d f k e)

  pub lone_spread : (x : ℕ) (r : Option (Used ℕ)) → attribute_command t ≡ Ok (attributes.Spread x) → plugins_off c ≡ true → Alone t x 3 r → SoleAt c a u r
  unfolding SoleAt lone_spread_or Alone is_last
  lone_spread x (Some s) k off A =
      let W = attributes_spread text t d f x k e in
      let B = A.3 W.fuel d text W.rest W.size W.reads in (
        omega (arith, W.used, A.1, B.1),
        λ object.
            ap (λ (b : Attributes). lone_spread_or c b object) W.is
            ∙ ap (λ (b : Attributes). cond (is_last b && plugins_off c) (put_over with_expression.SoleSpread x) object) B.0
            ∙ taken (plugins_off c) (put_over with_expression.SoleSpread x) object off
            ∙ ap (λ (q : ℕ). put_over with_expression.SoleSpread q) (sym A.0),
      )
  lone_spread x None k off A = λ object.
      let W = attributes_spread text t d f x k e in
      ap (λ (b : Attributes). lone_spread_or c b object) W.is
      ∙ refused (is_last W.rest) (plugins_off c) (put_over with_expression.SoleSpread x) object (A W.fuel d text W.rest W.size W.reads)

  -- what is told of the properties behind the command
  abbrev pub ToldProto : (took : ℕ) (proto : Bool) → Type 0
  ToldProto took proto = (h : ℕ) (ps : List Property) (w : ℕ) → length (take (length t - 3) (drop 3 t)) < h → properties_at h text (take (length t - 3) (drop 3 t)) ≡ done ps w → (proto ≡ has_proto c ps) × (took ≡ w)

  pub lone_literal : (x : ℕ) (r : Option (Used ℕ)) (took : ℕ) (proto : Bool) → attribute_command t ≡ Ok (attributes.Literal x) → plugins_off c ≡ true
      → ToldProto took proto
      → length t < f → 3 ≤ length t → proto ≡ false → Alone t x (3 + took) r → SoleAt c a u r
  unfolding SoleAt lone_spread_or Alone is_last
  lone_literal x (Some s) took proto k off P enough three hn A =
      let W = attributes_literal text t d f x k e in
      let Q = passing (λ h l. properties_at h text l) (λ ps w. (proto ≡ has_proto c ps) × (took ≡ w)) t 3 P W.fuel W.part W.took (omega (arith, W.turns, length-drop 3 t)) W.part_reads in
      let B = A.3 W.fuel d text W.rest W.size (ap (λ (q : ℕ). attributes_at W.fuel text d (drop (3 + q) t)) Q.1 ∙ W.reads) in
      let z : has_proto c W.part ≡ false = sym Q.0 ∙ hn in (
        omega (arith, W.used, A.1, B.1, Q.1),
        λ object.
            ap (λ (b : Attributes). lone_spread_or c b object) W.is
            ∙ ap (λ (b : Attributes). cond (is_last b && plugins_off c && not (has_proto c W.part)) (put_over with_expression.SoleSpread x) object) B.0
            ∙ taken₂ (plugins_off c) (has_proto c W.part) (put_over with_expression.SoleSpread x) object off z
            ∙ ap (λ (q : ℕ). put_over with_expression.SoleSpread q) (sym A.0),
      )
  lone_literal x None took proto k off P enough three hn A = λ object.
      let W = attributes_literal text t d f x k e in
      let Q = passing (λ h l. properties_at h text l) (λ ps w. (proto ≡ has_proto c ps) × (took ≡ w)) t 3 P W.fuel W.part W.took (omega (arith, W.turns, length-drop 3 t)) W.part_reads in
      ap (λ (b : Attributes). lone_spread_or c b object) W.is
      ∙ refused₂ (is_last W.rest) (plugins_off c) (has_proto c W.part) (put_over with_expression.SoleSpread x) object
      (A W.fuel d text W.rest W.size (ap (λ (q : ℕ). attributes_at W.fuel text d (drop (3 + q) t)) Q.1 ∙ W.reads))

  pub lone_proto : (x took : ℕ) (proto : Bool) → attribute_command t ≡ Ok (attributes.Literal x)
      → ToldProto took proto
      → length t < f → 3 ≤ length t → proto ≡ true → SoleAt c a u None
  unfolding SoleAt lone_spread_or
  lone_proto x took proto k P enough three hy = λ object.
      let W = attributes_literal text t d f x k e in
      let Q = passing (λ h l. properties_at h text l) (λ ps w. (proto ≡ has_proto c ps) × (took ≡ w)) t 3 P W.fuel W.part W.took (omega (arith, W.turns, length-drop 3 t)) W.part_reads in
      let z : has_proto c W.part ≡ true = sym Q.0 ∙ hy in
      ap (λ (b : Attributes). lone_spread_or c b object) W.is ∙ protoed (is_last W.rest) (plugins_off c) (has_proto c W.part) (put_over with_expression.SoleSpread x) object z

-- ---- whether there is a property

pub some_append : (xs ys : List Output) → some_output (xs ++ ys) ≡ (some_output xs || some_output ys)
unfolding some_output
some_append [] ys = refl
some_append (x ∷ xs) ys = refl

some_self : (c : Context) → some_output (self_output c) ≡ (c.settings.options.flags.self_plugin && c.self_allowed)
unfolding some_output self_output
some_self c = go (c.settings.options.flags.self_plugin && c.self_allowed)
  where
    go : (b : Bool) → some_output (cond b (put bare.SelfProperty) []) ≡ b
    go true = refl
    go false = refl

some_source : (c : Context) (p : Place) → some_output (source_output c p) ≡ c.settings.options.flags.source_plugin
unfolding some_output source_output
some_source c p = go c.settings.options.flags.source_plugin
  where
    go : (b : Bool) → some_output (cond b (emit (call.source FileName (record { line = p.line + 1; column = p.column + 1 })) ∷ []) []) ≡ b
    go true = refl
    go false = refl

pub more : (c : Context) (p : Place) (os : List Output)
    → some_output ((os ++ self_output c) ++ source_output c p)
    ≡ ((some_output os || (c.settings.options.flags.self_plugin && c.self_allowed)) || c.settings.options.flags.source_plugin)
more c p os =
    some_append (os ++ self_output c) (source_output c p)
    ∙ ap (λ (b : Bool). b || some_output (source_output c p)) (some_append os (self_output c))
    ∙ ap (λ (b : Bool). (some_output os || b) || some_output (source_output c p)) (some_self c)
    ∙ ap (λ (b : Bool). (some_output os || (c.settings.options.flags.self_plugin && c.self_allowed)) || b) (some_source c p)

-- ---- what the code tests

module _ (c : Context) where
  pub on_self : c.settings.options.flags.self_plugin ≡ true → plugins_off c ≡ false
  on_self h = rw h refl

  pub on_source : c.settings.options.flags.source_plugin ≡ true → plugins_off c ≡ false
  on_source h = go c.settings.options.flags.self_plugin c.settings.options.flags.source_plugin h
    where
      go : (x y : Bool) → y ≡ true → not (x || y) ≡ false
      go true y h = refl
      go false y h = rw h refl

  pub off_both : c.settings.options.flags.self_plugin ≡ false → c.settings.options.flags.source_plugin ≡ false → plugins_off c ≡ true
  off_both h i = rw (h, i) refl

pub alone_within : (t : List ℕ) (x n : ℕ) (r : Option (Used ℕ)) → Alone t x n r → LoneWithin (length t) r
unfolding Alone
alone_within t x n (Some s) A = omega (arith, A.1, A.2)
alone_within t x n None A = tt
