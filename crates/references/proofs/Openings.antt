-- The longest opening at an ampersand decides whether a reference stands there: the byte behind a shorter one is not of the kind that the shorter one asks for.
--     opening_decides             of the opening that stands at the front
--     front_none, front_open,     what is told of the front: no byte of the kind; bytes of it, and no semicolon;
--     front_closed                a reference
-- Assumes nothing.
use mathlib.Core.Path.{◌≡◌, refl, sym, ap, subst, ◌∙◌}
use mathlib.Core.Bool.{Bool, true, false, ◌&&◌, ◌||◌}
use mathlib.Core.List.{List, [], ◌∷◌}
use Prim.Native.Nat.{ℕ, ◌+◌, ◌≤◌}
use native.Mathlib.Omega.{arith}
use lib.ListN.{length, drop, length-drop}
use lib.Seq.{drop-drop}
use lib.Dec.{eqb, ltb}
use borrow.Author.Tests.{eqb-true, lt-ltb, le-ltb}
use Rattle.text.specs.Bytes.{ascii}
use Rattle.references.specs.declared.Kind.TheVariants.{Name, Decimal, Hexadecimal}
use Rattle.references.specs.declared.Opening.{Opening}
use Rattle.std.specs.Prelude.{None, Some}
use Rattle.references.specs.References.{is_of, run, begins, closed, opens_as, opens_in, opens_reference, has_reference}
use Rattle.references.specs.Walks.{signed, opening_of, Fronts}
use Rattle.references.proofs.Bare.{never, has_bare}
use Rattle.references.proofs.Runs.{run_within, run_bare, closed_none}

or_false : (t : Bool) → (t || false) ≡ t
or_false true = refl
or_false false = refl

and_true : (t : Bool) {r : Bool} → (t && true) ≡ r → t ≡ r
and_true true e = e
and_true false e = e

-- a list that begins with one byte is this byte and what stands behind it
begins_one : (x : ℕ) (l : List ℕ) → begins (x ∷ []) l ≡ true → x ∷ drop 1 l ≡ l
begins_one x [] e = absurd (never e)
begins_one x (b ∷ l) e = ap (λ (y : ℕ). y ∷ l) (sym (eqb-true b x (and_true (eqb b x) e)))

-- ---- which of the forms can stand at an ampersand, by the bytes behind it

opens_name : (l : List ℕ) → begins (ascii "#") l ≡ false → opens_reference (0x26 ∷ l) ≡ closed Name l
unfolding opens_in opens_as
opens_name [] e = or_false _
opens_name (b ∷ l) e = rw (and_true (eqb b 0x23) e, or_false (closed Name (b ∷ l)))

opens_decimal : (l : List ℕ) → begins (ascii "x") l ≡ false → begins (ascii "+") l ≡ false → opens_reference (0x26 ∷ 0x23 ∷ l) ≡ closed Decimal l
unfolding opens_in opens_as is_of
opens_decimal [] e f = rw (closed_none Name 0x23 [] refl, or_false (closed Decimal []))
opens_decimal (b ∷ l) e f = rw (closed_none Name 0x23 (b ∷ l) refl, and_true (eqb b 0x78) e, and_true (eqb b 0x2b) f, or_false (closed Decimal (b ∷ l)))

opens_decimal_plus : (l : List ℕ) → opens_reference (0x26 ∷ 0x23 ∷ 0x2b ∷ l) ≡ closed Decimal l
unfolding opens_in opens_as is_of
opens_decimal_plus l = rw (closed_none Name 0x23 (0x2b ∷ l) refl, closed_none Decimal 0x2b l refl, or_false (closed Decimal l))

opens_hexadecimal : (l : List ℕ) → begins (ascii "+") l ≡ false → opens_reference (0x26 ∷ 0x23 ∷ 0x78 ∷ l) ≡ closed Hexadecimal l
unfolding opens_in opens_as is_of
opens_hexadecimal [] f = rw (closed_none Name 0x23 (0x78 ∷ []) refl, closed_none Decimal 0x78 [] refl, or_false (closed Hexadecimal []))
opens_hexadecimal (b ∷ l) f =
    rw (closed_none Name 0x23 (0x78 ∷ b ∷ l) refl, closed_none Decimal 0x78 (b ∷ l) refl, and_true (eqb b 0x2b) f, or_false (closed Hexadecimal (b ∷ l)))

opens_hexadecimal_plus : (l : List ℕ) → opens_reference (0x26 ∷ 0x23 ∷ 0x78 ∷ 0x2b ∷ l) ≡ closed Hexadecimal l
unfolding opens_in opens_as is_of
opens_hexadecimal_plus l =
    rw (closed_none Name 0x23 (0x78 ∷ 0x2b ∷ l) refl, closed_none Decimal 0x78 (0x2b ∷ l) refl, closed_none Hexadecimal 0x2b l refl, or_false (closed Hexadecimal l))

-- ---- the opening o decides whether a reference stands at the front of l, and no other begins within it

pub record Decides (l : List ℕ) (o : Opening) : Type 0 where
  pub some : 1 ≤ o.len
  pub within : o.len ≤ length l
  pub decided : has_reference l ≡ (closed o.kind (drop o.len l) || has_reference (drop o.len l))

sign_has : (l : List ℕ) → has_reference (0x26 ∷ l) ≡ (opens_reference (0x26 ∷ l) || has_reference l)
unfolding has_reference
sign_has l = refl

abbrev Found : List ℕ → Type 0
Found l = Decides l (opening_of l)

found_name : (l : List ℕ) → begins (ascii "#") l ≡ false → Found (0x26 ∷ l)
unfolding opening_of
found_name l e = rw e (record { some = omega arith; within = omega arith; decided = sign_has l ∙ rw (opens_name l e) })

found_decimal : (l : List ℕ) → begins (ascii "x") l ≡ false → begins (ascii "+") l ≡ false → Found (0x26 ∷ 0x23 ∷ l)
unfolding opening_of signed
found_decimal l e f = rw (e, f) (record { some = omega arith; within = omega arith; decided = go })
  where
    go : has_reference (0x26 ∷ 0x23 ∷ l) ≡ (closed Decimal l || has_reference l)
    go = sign_has (0x23 ∷ l) ∙ rw (opens_decimal l e f, has_bare 0x23 l refl)

found_decimal_plus : (l : List ℕ) → Found (0x26 ∷ 0x23 ∷ 0x2b ∷ l)
unfolding opening_of signed
found_decimal_plus l = record { some = omega arith; within = omega arith; decided = go }
  where
    go : has_reference (0x26 ∷ 0x23 ∷ 0x2b ∷ l) ≡ (closed Decimal l || has_reference l)
    go = sign_has (0x23 ∷ 0x2b ∷ l) ∙ rw (opens_decimal_plus l, has_bare 0x23 (0x2b ∷ l) refl, has_bare 0x2b l refl)

found_hexadecimal : (l : List ℕ) → begins (ascii "+") l ≡ false → Found (0x26 ∷ 0x23 ∷ 0x78 ∷ l)
unfolding opening_of signed
found_hexadecimal l f = rw f (record { some = omega arith; within = omega arith; decided = go })
  where
    go : has_reference (0x26 ∷ 0x23 ∷ 0x78 ∷ l) ≡ (closed Hexadecimal l || has_reference l)
    go = sign_has (0x23 ∷ 0x78 ∷ l) ∙ rw (opens_hexadecimal l f, has_bare 0x23 (0x78 ∷ l) refl, has_bare 0x78 l refl)

found_hexadecimal_plus : (l : List ℕ) → Found (0x26 ∷ 0x23 ∷ 0x78 ∷ 0x2b ∷ l)
unfolding opening_of signed
found_hexadecimal_plus l = record { some = omega arith; within = omega arith; decided = go }
  where
    go : has_reference (0x26 ∷ 0x23 ∷ 0x78 ∷ 0x2b ∷ l) ≡ (closed Hexadecimal l || has_reference l)
    go =
        sign_has (0x23 ∷ 0x78 ∷ 0x2b ∷ l)
        ∙ rw (opens_hexadecimal_plus l, has_bare 0x23 (0x78 ∷ 0x2b ∷ l) refl, has_bare 0x78 (0x2b ∷ l) refl, has_bare 0x2b l refl)

-- the same behind bytes that are known, by the byte that follows
found_x : (l : List ℕ) → Found (0x26 ∷ 0x23 ∷ 0x78 ∷ l)
found_x l = by (begins (ascii "+") l) refl
  where
    by : (t : Bool) → begins (ascii "+") l ≡ t → Found (0x26 ∷ 0x23 ∷ 0x78 ∷ l)
    by true e = subst (λ (m : List ℕ). Found (0x26 ∷ 0x23 ∷ 0x78 ∷ m)) (begins_one 0x2b l e) (found_hexadecimal_plus (drop 1 l))
    by false e = found_hexadecimal l e

found_hash : (l : List ℕ) → Found (0x26 ∷ 0x23 ∷ l)
found_hash l = by (begins (ascii "x") l) refl (begins (ascii "+") l) refl
  where
    by : (t : Bool) → begins (ascii "x") l ≡ t → (u : Bool) → begins (ascii "+") l ≡ u → Found (0x26 ∷ 0x23 ∷ l)
    by true e u f = subst (λ (m : List ℕ). Found (0x26 ∷ 0x23 ∷ m)) (begins_one 0x78 l e) (found_x (drop 1 l))
    by false e true f = subst (λ (m : List ℕ). Found (0x26 ∷ 0x23 ∷ m)) (begins_one 0x2b l f) (found_decimal_plus (drop 1 l))
    by false e false f = found_decimal l e f

found_sign : (l : List ℕ) → Found (0x26 ∷ l)
found_sign l = by (begins (ascii "#") l) refl
  where
    by : (t : Bool) → begins (ascii "#") l ≡ t → Found (0x26 ∷ l)
    by true e = subst (λ (m : List ℕ). Found (0x26 ∷ m)) (begins_one 0x23 l e) (found_hash (drop 1 l))
    by false e = found_name l e

pub opening_decides : (l : List ℕ) → begins (ascii "&") l ≡ true → Decides l (opening_of l)
opening_decides l e = subst Found (begins_one 0x26 l e) (found_sign (drop 1 l))

-- ---- what is told of the front, by the opening, and by where the bytes of its kind end

module _ {l : List ℕ} {o : Opening} (d : Decides l o) {end : ℕ} (e : end ≡ o.len + run o.kind (drop o.len l)) where
  pub end_within : (1 ≤ end) × (end ≤ length l)
  end_within = (
    omega (arith, d.some),
    omega (arith, d.within, run_within o.kind (drop o.len l), length-drop o.len l),
  )

  -- what stands behind the bytes of the kind
  rest : drop (run o.kind (drop o.len l)) (drop o.len l) ≡ drop end l
  rest = drop-drop (run o.kind (drop o.len l)) o.len l ∙ ap (λ (n : ℕ). drop n l) (sym e)

  bare : closed o.kind (drop o.len l) ≡ false → Fronts l (Some end)
  bare c = (
    end_within.0,
    end_within.1,
    rw c at d.decided ∙ (run_bare o.kind (drop o.len l) ∙ ap has_reference rest),
  )

  -- closed is: some bytes of the kind, and a semicolon behind them
  closed_by : closed o.kind (drop o.len l) ≡ (ltb 0 (run o.kind (drop o.len l)) && begins (ascii ";") (drop end l))
  unfolding closed
  closed_by = rw rest

  pub front_none : end ≡ o.len → Fronts l (Some end)
  front_none z = bare (closed_by ∙ rw (le-ltb 0 (run o.kind (drop o.len l)) (omega arith)))

  pub front_open : begins (ascii ";") (drop end l) ≡ false → Fronts l (Some end)
  front_open b = bare (closed_by ∙ rw b (go (ltb 0 (run o.kind (drop o.len l)))))
    where
      go : (t : Bool) → (t && false) ≡ false
      go true = refl
      go false = refl

  pub front_closed : (end ≡ o.len → ⊥) → begins (ascii ";") (drop end l) ≡ true → Fronts l None
  front_closed z b = d.decided ∙ rw (closed_by, b, lt-ltb 0 (run o.kind (drop o.len l)) (omega arith))
