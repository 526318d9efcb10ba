use Rattle.std.specs.Prelude.{Some}
use Rattle.std.proofs.Common.{rules, arith, length, get_or}
use mathlib.Core.Bool.{true}
use mathlib.Core.Path.{◌≡◌, sym, ap, ◌∙◌}
use Prim.Native.Nat.{◌≤◌, ◌<◌}
use Rattle.definitions.specs.Comments.{counts, is_at, place_from}
use Rattle.text.proofs.Lists.{told}
use Rattle.comments.specs.Searches.{keyword_for, search_for}
use Rattle.comments.proofs.Signs.{place_range, four_here, jsx_here, jsx_absent, ill_placed, other_word, counted, scan, scan_on, scan_hit, scan_none}
use Rattle.comments.proofs.Signs.{begin, none, reject, cut, no_word, known, not_known}
use Rattle.comments.proofs.find_keyword.Goals as goal
use Rattle.comments.proofs.find_keyword.Goals.{In-Some, Else-bytes-from_le_bytes, In-Some-get}

-- an at sign was found
found : (c : In-Some) → place_from is_at c.args.comment.now c.signs.from ≡ Some c.in-Some.sign
found c = told (c.place_from.ensures is_at (λ b r h. search rules)) c.in-Some.is

range : (c : In-Some) → (c.signs.from ≤ c.in-Some.sign) × (c.in-Some.sign < length c.args.comment.now)
range c = place_range is_at _ _ _ (found c)

-- `@jsx` stands there, and it counts
does_count : (c : Else-bytes-from_le_bytes) → counts c.args.comment.now c.signs.from c.in-Some.sign ≡ true
does_count c =
    let f = four_here _ _ _ (told c.next4.ensures c.in-Some-next4.is) in
    counted _ _ _ (told c.stands_well-counts.ensures c.if-not-counts.false)
    (jsx_here _ _ f.0 (λ k. omega (arith, c.type_inv.comment k)) (f.1 ∙ c.if-bytes-from_le_bytes.false ∙ c.from_le_bytes.ensures))

-- a byte of the keyword, or the one that ends it
byte : (c : In-Some-get) → (c.loop-b.end < length c.args.comment.now) × (get_or c.args.comment.now c.loop-b.end 0 ≡ c.in-Some-get.field-0.now)
byte c = search rules

pub signs-init : goal.signs-init
signs-init c = begin _ _

pub returns-in_default : goal.returns-in_default
unfolding search_for
returns-in_default c = sym (none _ _ _ c.signs.invariant (told (c.place_from.ensures is_at (λ b r h. search rules)) c.in_default.is))

pub stands_well-counts-requires : goal.stands_well-counts-requires
stands_well-counts-requires c = range (goal.at.stands_well-counts-requires c).In-Some

pub overflow_add-from : goal.overflow_add-from
overflow_add-from c = omega (arith, range (goal.at.overflow_add-from c).In-Some)

pub signs-smaller-then-not-counts : goal.signs-smaller-then-not-counts
signs-smaller-then-not-counts c = omega (arith, range (goal.at.signs-smaller-then-not-counts c).In-Some)

pub signs-preserved-then-not-counts : goal.signs-preserved-then-not-counts
signs-preserved-then-not-counts c =
    reject _ _ _ _ c.signs.invariant (found (goal.at.signs-preserved-then-not-counts c).In-Some) (ill_placed _ _ _ (told c.stands_well-counts.ensures c.if-not-counts.true))

pub next4-requires : goal.next4-requires
next4-requires c = omega (arith, range (goal.at.next4-requires c).In-Some)

pub returns-in_default-next4 : goal.returns-in_default-next4
unfolding search_for
returns-in_default-next4 c =
    sym (cut _ _ _ _ c.signs.invariant (found (goal.at.returns-in_default-next4 c).In-Some) (told c.next4.ensures c.in_default-next4.is))

pub signs-smaller-then-bytes-from_le_bytes : goal.signs-smaller-then-bytes-from_le_bytes
signs-smaller-then-bytes-from_le_bytes c = omega (arith, range (goal.at.signs-smaller-then-bytes-from_le_bytes c).In-Some)

pub signs-preserved-then-bytes-from_le_bytes : goal.signs-preserved-then-bytes-from_le_bytes
signs-preserved-then-bytes-from_le_bytes c =
    let f = four_here _ _ _ (told c.next4.ensures c.in-Some-next4.is) in
    reject _ _ _ _ c.signs.invariant (found (goal.at.signs-preserved-then-bytes-from_le_bytes c).In-Some)
    (other_word _ _ _ (jsx_absent _ _ f.0 (λ e. c.if-bytes-from_le_bytes.true (sym f.1 ∙ e ∙ sym c.from_le_bytes.ensures))))

pub overflow_add-first : goal.overflow_add-first
overflow_add-first c = omega (arith, range (goal.at.overflow_add-first c).In-Some)

pub loop-b-init : goal.loop-b-init
loop-b-init c = scan _ _

pub returns-in_default-get : goal.returns-in_default-get
unfolding search_for
returns-in_default-get c =
    let at = goal.at.returns-in_default-get c in
    sym (no_word _ _ _ _ c.signs.invariant (found at.In-Some) (does_count at.Else-bytes-from_le_bytes) (scan_none _ _ _ c.loop-b.invariant (search rules)))

pub loop-b-preserved : goal.loop-b-preserved
loop-b-preserved c =
    let b = byte (goal.at.loop-b-preserved c).In-Some-get in
    scan_on _ _ _ c.loop-b.invariant b.0 (rw b.1 (told c.is_blank.ensures c.if-is_blank.false))

pub signs-smaller : goal.signs-smaller
signs-smaller c =
    let at = goal.at.signs-smaller c in
    omega (arith, range at.In-Some, byte at.In-Some-get, c.loop-b.invariant.behind)

pub signs-preserved : goal.signs-preserved
unfolding keyword_for
signs-preserved c =
    let at = goal.at.signs-preserved c in
    let b = byte at.In-Some-get in
    not_known _ _ _ _ c.signs.invariant (found at.In-Some) (does_count at.Else-bytes-from_le_bytes) _
    (scan_hit _ _ _ c.loop-b.invariant b.0 (rw b.1 (told c.is_blank.ensures c.if-is_blank.true)))
    (told c.keyword_of.ensures (ap keyword_for c.in_default-keyword_of.is))

pub returns : goal.returns
unfolding search_for keyword_for
returns c =
    let at = goal.at.returns c in
    let b = byte at.In-Some-get in
    sym (known _ _ _ _ c.signs.invariant (found at.In-Some) (does_count at.Else-bytes-from_le_bytes) _
    (scan_hit _ _ _ c.loop-b.invariant b.0 (rw b.1 (told c.is_blank.ensures c.if-is_blank.true))) _
    (told c.keyword_of.ensures (ap keyword_for c.in-Some-keyword_of.is)))
