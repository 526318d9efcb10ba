-- What a record tape says: each record once, with its source, its name and its number.
--     entry_of, group_entries, file_entries  the entries of a record, of groups, and of the file name
--     tape_read                            reading a record tape
--     all_grouped                          the source of each record has exactly one group
--     tape_count                           on a record tape as many entries pass a test as among the records
-- Assumes nothing.
use mathlib.Core.Path.{◌≡◌, refl, sym, ap, ◌∙◌}
use mathlib.Core.Bool.{Bool, true, false, cond, ◌||◌}
use mathlib.Core.List.{List, [], ◌∷◌, ◌++◌, append_assoc}
use Prim.Native.Nat.{ℕ, suc, ◌+◌, ◌≤◌, ◌<◌}
use native.Mathlib.Omega.{arith}
use lib.Dec.{eqb}
use borrow.Author.Tests.{eqb-true, eqb-false, eq-eqb, ne_eqb}
use Rattle.definitions.specs.declared.options.Mode.{Mode}
use Rattle.definitions.specs.declared.records.Import.{Import}
use Rattle.definitions.specs.declared.records.Import.TheVariants.{Named, Default, FileName}
use Rattle.definitions.specs.declared.records.Record.{Record}
use Rattle.definitions.specs.Records.{without, is_among, with_group, grouped_by, groups_from, entry_in, entries_in, group_tape, place_in, file_name_entry}
use Rattle.definitions.specs.Records.{file_name_tape, record_tape, Entry, named, required, file, command, entries_from, read_records}
use Rattle.definitions.specs.Claim.{count}
use Rattle.definitions.proofs.Counting.{never, count_nil, count_append}

-- ---- the entries of records

-- the entry of a thing with a number; `place` is the file name's
unfoldable pub entry_of : ℕ → Import → ℕ → Entry
entry_of place (Named s n) b = named s n b
entry_of place (Default s) b = required s b
entry_of place FileName b = file b place

unfoldable pub entries_of : ℕ → List Record → List Entry
entries_of place [] = []
entries_of place (r ∷ rs) = entry_of place r.import r.binding ∷ entries_of place rs

-- the entries in the group of source s
unfoldable pub in_group : ℕ → Import → ℕ → List Entry
in_group s (Named t n) b = cond (eqb s t) (named s n b ∷ []) []
in_group s (Default t) b = cond (eqb s t) (required s b ∷ []) []
in_group s FileName b = []

unfoldable pub all_in_group : ℕ → List Record → List Entry
all_in_group s [] = []
all_in_group s (r ∷ rs) = in_group s r.import r.binding ++ all_in_group s rs

unfoldable pub group_entries : List Record → List ℕ → List Entry
group_entries rs [] = []
group_entries rs (s ∷ ss) = all_in_group s rs ++ group_entries rs ss

unfoldable pub file_entry : ℕ → Import → ℕ → List Entry
file_entry place (Named s n) b = []
file_entry place (Default s) b = []
file_entry place FileName b = file b place ∷ []

unfoldable pub file_entries : ℕ → List Record → List Entry
file_entries place [] = []
file_entries place (r ∷ rs) = file_entry place r.import r.binding ++ file_entries place rs

-- ---- reading

entry_read : (s : ℕ) (i : Import) (b : ℕ) (t : List ℕ) → entries_from (command s) (entry_in s i b ++ t) ≡ in_group s i b ++ entries_from (command s) t
unfolding entries_from entry_in in_group
entry_read s (Named r n) b t = go (eqb s r)
  where
    go : (q : Bool) → entries_from (command s) (cond q (0xb1 ∷ n ∷ b ∷ []) [] ++ t) ≡ cond q (named s n b ∷ []) [] ++ entries_from (command s) t
    go true = refl
    go false = refl
entry_read s (Default r) b t = go (eqb s r)
  where
    go : (q : Bool) → entries_from (command s) (cond q (0xb2 ∷ b ∷ []) [] ++ t) ≡ cond q (required s b ∷ []) [] ++ entries_from (command s) t
    go true = refl
    go false = refl
entry_read s FileName b t = refl

group_read : (s : ℕ) (rs : List Record) (t : List ℕ) → entries_from (command s) (entries_in s rs ++ t) ≡ all_in_group s rs ++ entries_from (command s) t
unfolding entries_in all_in_group
group_read s [] t = refl
group_read s (r ∷ rs) t =
    rw (append_assoc (entry_in s r.import r.binding) (entries_in s rs) t, append_assoc (in_group s r.import r.binding) (all_in_group s rs) (entries_from (command s) t))
    (entry_read s r.import r.binding (entries_in s rs ++ t) ∙ ap (λ (l : List Entry). in_group s r.import r.binding ++ l) (group_read s rs t))

-- groups before a tape that reads alike under every source
groups_read : (x : ℕ) (rs : List Record) (ss : List ℕ) (t : List ℕ) (es : List Entry) → ((y : ℕ) → entries_from (command y) t ≡ es)
    → entries_from (command x) (group_tape rs ss ++ t) ≡ group_entries rs ss ++ es
unfolding group_tape group_entries entries_from
groups_read x rs [] t es h = h x
groups_read x rs (s ∷ ss) t es h =
    rw (append_assoc (entries_in s rs) (group_tape rs ss) t, append_assoc (all_in_group s rs) (group_entries rs ss) es)
    (group_read s rs (group_tape rs ss ++ t) ∙ ap (λ (l : List Entry). all_in_group s rs ++ l) (groups_read s rs ss t es h))

file_read : (place : ℕ) (rs : List Record) (x : ℕ) → entries_from (command x) (file_name_tape place rs) ≡ file_entries place rs
unfolding file_name_tape file_entries entries_from file_name_entry file_entry
file_read place [] x = refl
file_read place (r ∷ rs) x = go r.import (file_read place rs x)
  where
    go : (i : Import) → entries_from (command x) (file_name_tape place rs) ≡ file_entries place rs
        → entries_from (command x) (file_name_entry place i r.binding ++ file_name_tape place rs) ≡ file_entry place i r.binding ++ file_entries place rs
    go (Named s n) ih = ih
    go (Default s) ih = ih
    go FileName ih = ap (file r.binding place ∷◌) ih

pub tape_read : (m : Mode) (rs : List Record)
    → read_records (record_tape m rs) ≡ group_entries rs (groups_from [] rs) ++ file_entries (place_in m) rs
unfolding record_tape
tape_read m rs =
    groups_read 0 rs (groups_from [] rs) (file_name_tape (place_in m) rs) (file_entries (place_in m) rs) (λ y. file_read (place_in m) rs y)

-- ---- each source has one group

pub eqb_sym : (a b : ℕ) → eqb a b ≡ eqb b a
eqb_sym a b = go (eqb b a) refl
  where
    go : (q : Bool) → eqb b a ≡ q → eqb a b ≡ q
    go true e = eq-eqb a b (sym (eqb-true b a e))
    go false e = ne_eqb a b (λ p. eqb-false b a e (sym p))

without_count : (t s : ℕ) (gs : List ℕ) → count (eqb t) (without s gs) ≡ cond (eqb s t) 0 (count (eqb t) gs)
unfolding count without
without_count t s [] = go (eqb s t)
  where
    go : (b : Bool) → ◌≡◌ {A = ℕ} 0 (cond b 0 0)
    go true = refl
    go false = refl
without_count t s (g ∷ gs) = go (eqb s g) refl (eqb s t) refl (eqb t g) refl (without_count t s gs)
  where
    go : (a : Bool) → eqb s g ≡ a → (b : Bool) → eqb s t ≡ b → (d : Bool) → eqb t g ≡ d
        → count (eqb t) (without s gs) ≡ cond b 0 (count (eqb t) gs)
        → count (eqb t) (cond a (without s gs) (g ∷ without s gs)) ≡ cond b 0 (cond d (suc (count (eqb t) gs)) (count (eqb t) gs))
    go true p true q d r ih = ih
    go true p false q true r ih = absurd (eqb-false s t q (eqb-true s g p ∙ sym (eqb-true t g r)))
    go true p false q false r ih = ih
    go false p true q true r ih = absurd (eqb-false s g p (eqb-true s t q ∙ eqb-true t g r))
    go false p true q false r ih = rw r ih
    go false p false q true r ih = rw r (ap suc ih)
    go false p false q false r ih = rw r ih

among_count : (s : ℕ) (gs : List ℕ) → is_among s gs ≡ false → count (eqb s) gs ≡ 0
unfolding count is_among
among_count s [] h = refl
among_count s (g ∷ gs) h = go (eqb s g) h (among_count s gs)
  where
    go : (b : Bool) → (b || is_among s gs) ≡ false → (is_among s gs ≡ false → count (eqb s) gs ≡ 0)
        → cond b (suc (count (eqb s) gs)) (count (eqb s) gs) ≡ 0
    go true h ih = never (sym h)
    go false h ih = ih h

among_some : (s : ℕ) (gs : List ℕ) → is_among s gs ≡ true → 0 < count (eqb s) gs
unfolding count is_among
among_some s [] h = never h
among_some s (g ∷ gs) h = go (eqb s g) h (among_some s gs)
  where
    go : (b : Bool) → (b || is_among s gs) ≡ true → (is_among s gs ≡ true → 0 < count (eqb s) gs)
        → 0 < cond b (suc (count (eqb s) gs)) (count (eqb s) gs)
    go true h ih = omega arith
    go false h ih = ih h

group_count : (f : Bool) (t s : ℕ) (gs : List ℕ) → count (eqb t) gs ≤ 1 → count (eqb t) (with_group f s gs) ≡ cond (eqb s t) 1 (count (eqb t) gs)
unfolding with_group count
group_count true t s gs h = rw (without_count t s gs, eqb_sym t s) (go (eqb s t))
  where
    go : (b : Bool) → cond b (suc (cond b 0 (count (eqb t) gs))) (cond b 0 (count (eqb t) gs)) ≡ cond b 1 (count (eqb t) gs)
    go true = refl
    go false = refl
group_count false t s gs h = go (is_among s gs) refl (eqb s t) refl
  where
    last : count (eqb t) (gs ++ s ∷ []) ≡ count (eqb t) gs + cond (eqb s t) 1 0
    last = count_append (eqb t) gs (s ∷ []) ∙ rw (eqb_sym t s)

    go : (a : Bool) → is_among s gs ≡ a → (b : Bool) → eqb s t ≡ b → count (eqb t) (cond a gs (gs ++ s ∷ [])) ≡ cond b 1 (count (eqb t) gs)
    go true p true q =
        let k : 0 < count (eqb t) gs = rw (eqb-true s t q) at (among_some s gs p) in omega arith
    go true p false q = refl
    go false p true q =
        let k : count (eqb t) gs ≡ 0 = rw (eqb-true s t q) at (among_count s gs p) in
        let l = rw q at last in omega (arith, l)
    go false p false q = let l = rw q at last in omega (arith, l)

-- no source stands twice
abbrev pub Distinct : List ℕ → Type 0
Distinct gs = (t : ℕ) → count (eqb t) gs ≤ 1

-- the source of a thing stands once
abbrev pub Grouped : List ℕ → Import → Type 0
Grouped gs (Named s n) = count (eqb s) gs ≡ 1
Grouped gs (Default s) = count (eqb s) gs ≡ 1
Grouped gs FileName = Unit {0}

with_distinct : (f : Bool) (s : ℕ) (gs : List ℕ) → Distinct gs → Distinct (with_group f s gs)
with_distinct f s gs h t = rw (group_count f t s gs (h t)) (go (eqb s t))
  where
    go : (b : Bool) → cond b 1 (count (eqb t) gs) ≤ 1
    go true = omega arith
    go false = h t

with_kept : (f : Bool) (t s : ℕ) (gs : List ℕ) → count (eqb t) gs ≡ 1 → count (eqb t) (with_group f s gs) ≡ 1
with_kept f t s gs h = rw (group_count f t s gs (omega arith), h) (go (eqb s t))
  where
    go : (b : Bool) → ◌≡◌ {A = ℕ} (cond b 1 1) 1
    go true = refl
    go false = refl

with_new : (f : Bool) (s : ℕ) (gs : List ℕ) → Distinct gs → count (eqb s) (with_group f s gs) ≡ 1
with_new f s gs h = rw (group_count f s s gs (h s), eq-eqb s s refl)

by_distinct : (gs : List ℕ) (i : Import) → Distinct gs → Distinct (grouped_by gs i)
unfolding grouped_by
by_distinct gs (Named s n) h = with_distinct false s gs h
by_distinct gs (Default s) h = with_distinct (eqb s 0) s gs h
by_distinct gs FileName h = h

by_kept : (gs : List ℕ) (i : Import) (t : ℕ) → count (eqb t) gs ≡ 1 → count (eqb t) (grouped_by gs i) ≡ 1
unfolding grouped_by
by_kept gs (Named s n) t h = with_kept false t s gs h
by_kept gs (Default s) t h = with_kept (eqb s 0) t s gs h
by_kept gs FileName t h = h

by_new : (gs : List ℕ) (i : Import) → Distinct gs → Grouped (grouped_by gs i) i
unfolding grouped_by
by_new gs (Named s n) h = with_new false s gs h
by_new gs (Default s) h = with_new (eqb s 0) s gs h
by_new gs FileName h = tt

from_kept : (gs : List ℕ) (rs : List Record) (t : ℕ) → count (eqb t) gs ≡ 1 → count (eqb t) (groups_from gs rs) ≡ 1
unfolding groups_from
from_kept gs [] t h = h
from_kept gs (r ∷ rs) t h = from_kept (grouped_by gs r.import) rs t (by_kept gs r.import t h)

still_grouped : (gs : List ℕ) (rs : List Record) (i : Import) → Grouped gs i → Grouped (groups_from gs rs) i
still_grouped gs rs (Named s n) h = from_kept gs rs s h
still_grouped gs rs (Default s) h = from_kept gs rs s h
still_grouped gs rs FileName h = tt

abbrev pub AllGrouped : List ℕ → List Record → Type 0
AllGrouped gs [] = Unit {0}
AllGrouped gs (r ∷ rs) = Grouped gs r.import × AllGrouped gs rs

grouped_from : (gs : List ℕ) (rs : List Record) → Distinct gs → AllGrouped (groups_from gs rs) rs
unfolding groups_from
grouped_from gs [] h = tt
grouped_from gs (r ∷ rs) h =
    (still_grouped (grouped_by gs r.import) rs r.import (by_new gs r.import h), grouped_from (grouped_by gs r.import) rs (by_distinct gs r.import h))

from_distinct : (gs : List ℕ) (rs : List Record) → Distinct gs → Distinct (groups_from gs rs)
unfolding groups_from
from_distinct gs [] h = h
from_distinct gs (r ∷ rs) h = from_distinct (grouped_by gs r.import) rs (by_distinct gs r.import h)

pub distinct_groups : (rs : List Record) → Distinct (groups_from [] rs)
unfolding count
distinct_groups rs = from_distinct [] rs (λ t. omega arith)

pub all_grouped : (rs : List Record) → AllGrouped (groups_from [] rs) rs
unfolding count
all_grouped rs = grouped_from [] rs (λ t. omega arith)

-- ---- counting

-- what one record gives to all groups
picked : (ℕ → Entry) → ℕ → List ℕ → List Entry
picked e t [] = []
picked e t (g ∷ gs) = cond (eqb g t) (e g ∷ []) [] ++ picked e t gs

picked_none : (e : ℕ → Entry) (t : ℕ) (gs : List ℕ) → count (eqb t) gs ≡ 0 → picked e t gs ≡ []
unfolding picked count
picked_none e t [] h = refl
picked_none e t (g ∷ gs) h = rw (eqb_sym g t) (go (eqb t g) h (picked_none e t gs))
  where
    go : (b : Bool) → cond b (suc (count (eqb t) gs)) (count (eqb t) gs) ≡ 0 → (count (eqb t) gs ≡ 0 → picked e t gs ≡ [])
        → cond b (e g ∷ []) [] ++ picked e t gs ≡ []
    go true h ih = absurd (omega arith)
    go false h ih = ih h

picked_once : (e : ℕ → Entry) (t : ℕ) (gs : List ℕ) → count (eqb t) gs ≡ 1 → picked e t gs ≡ e t ∷ []
unfolding picked count
picked_once e t [] h = absurd (omega arith)
picked_once e t (g ∷ gs) h = rw (eqb_sym g t) (go (eqb t g) refl h (picked_none e t gs) (picked_once e t gs))
  where
    go : (b : Bool) → eqb t g ≡ b → cond b (suc (count (eqb t) gs)) (count (eqb t) gs) ≡ 1 → (count (eqb t) gs ≡ 0 → picked e t gs ≡ [])
        → (count (eqb t) gs ≡ 1 → picked e t gs ≡ e t ∷ [])
        → cond b (e g ∷ []) [] ++ picked e t gs ≡ e t ∷ []
    go true q h none ih = rw (none (omega arith), eqb-true t g q)
    go false q h none ih = ih h

alone : Import → ℕ → List ℕ → List Entry
alone (Named t n) b gs = picked (λ s. named s n b) t gs
alone (Default t) b gs = picked (λ s. required s b) t gs
alone FileName b gs = []

alone_cons : (i : Import) (b g : ℕ) (gs : List ℕ) → alone i b (g ∷ gs) ≡ in_group g i b ++ alone i b gs
unfolding alone in_group picked
alone_cons (Named t n) b g gs = refl
alone_cons (Default t) b g gs = refl
alone_cons FileName b g gs = refl

alone_nil : (i : Import) (b : ℕ) → alone i b [] ≡ []
unfolding alone picked
alone_nil (Named t n) b = refl
alone_nil (Default t) b = refl
alone_nil FileName b = refl

module _ (p : Entry → Bool) where
  -- a record more
  groups_cons : (r : Record) (rs : List Record) (gs : List ℕ)
      → count p (group_entries (r ∷ rs) gs) ≡ count p (alone r.import r.binding gs) + count p (group_entries rs gs)
  unfolding group_entries all_in_group
  groups_cons r rs [] = rw (alone_nil r.import r.binding) (omega (arith, count_nil p))
  groups_cons r rs (g ∷ gs) =
      let i = r.import in
      let b = r.binding in
      rw (alone_cons i b g gs)
      (omega (
        arith,
        groups_cons r rs gs,
        count_append p (in_group g i b ++ all_in_group g rs) (group_entries (r ∷ rs) gs),
        count_append p (in_group g i b) (all_in_group g rs),
        count_append p (in_group g i b) (alone i b gs),
        count_append p (all_in_group g rs) (group_entries rs gs),
      ))

  groups_nil : (gs : List ℕ) → count p (group_entries [] gs) ≡ 0
  unfolding group_entries all_in_group
  groups_nil [] = count_nil p
  groups_nil (g ∷ gs) = groups_nil gs

  -- a record stands in its group or as the file name
  alone_once : (place : ℕ) (i : Import) (b : ℕ) (gs : List ℕ) → Grouped gs i
      → count p (alone i b gs) + count p (file_entry place i b) ≡ count p (entry_of place i b ∷ [])
  unfolding alone file_entry entry_of
  alone_once place (Named t n) b gs h = rw (picked_once (λ s. named s n b) t gs h) (omega (arith, count_nil p))
  alone_once place (Default t) b gs h = rw (picked_once (λ s. required s b) t gs h) (omega (arith, count_nil p))
  alone_once place FileName b gs h = omega (arith, count_nil p)

  all_counted : (place : ℕ) (gs : List ℕ) (rs : List Record) → AllGrouped gs rs
      → count p (group_entries rs gs) + count p (file_entries place rs) ≡ count p (entries_of place rs)
  unfolding file_entries entries_of
  all_counted place gs [] h = omega (arith, groups_nil gs, count_nil p)
  all_counted place gs (r ∷ rs) h =
      let i = r.import in
      let b = r.binding in
      omega (
        arith,
        groups_cons r rs gs,
        alone_once place i b gs h.0,
        count_append p (file_entry place i b) (file_entries place rs),
        count_append p (entry_of place i b ∷ []) (entries_of place rs),
        all_counted place gs rs h.1,
      )

  pub tape_count : (m : Mode) (rs : List Record) → count p (read_records (record_tape m rs)) ≡ count p (entries_of (place_in m) rs)
  tape_count m rs =
      rw (tape_read m rs)
      (count_append p (group_entries rs (groups_from [] rs)) (file_entries (place_in m) rs)
      ∙ all_counted (place_in m) (groups_from [] rs) rs (all_grouped rs))
