-- The record tape is the bytes of the records that are read off it: its reader reaches the end.
--     tape_bytes     for any records
-- Assumes nothing.
use mathlib.Core.Path.{◌≡◌, refl, sym, ap, ◌∙◌}
use mathlib.Core.Bool.{Bool, true, false, cond, ◌||◌}
use mathlib.Core.List.{List, [], ◌∷◌, ◌++◌, append_assoc}
use Prim.Native.Nat.{ℕ, suc, ◌≤◌}
use native.Mathlib.Omega.{arith}
use lib.Dec.{eqb}
use borrow.Author.Tests.{eq-eqb, eqb-true}
use Rattle.definitions.specs.declared.options.Mode.{Mode}
use Rattle.definitions.specs.declared.records.Import.{Import}
use Rattle.definitions.specs.declared.records.Import.TheVariants.{Named, Default, FileName}
use Rattle.definitions.specs.declared.records.Record.{Record}
use Rattle.definitions.specs.Records.{without, is_among, with_group, grouped_by, groups_from, entry_in, entries_in, group_tape, place_in, file_name_entry}
use Rattle.definitions.specs.Records.{file_name_tape, record_tape, Entry, named, required, read_records, Group, outside, within, group_head}
use Rattle.definitions.specs.Records.{entry_bytes}
use Rattle.definitions.specs.Claim.{count}
use Rattle.definitions.proofs.Counting.{never}
use Rattle.definitions.proofs.TapeEntries.{in_group, all_in_group, group_entries, file_entry, file_entries, tape_read, Distinct, distinct_groups}

-- ---- within a group

same_head : (s : ℕ) (l : List ℕ) → group_head (within s) s ++ l ≡ l
unfolding group_head
same_head s l = rw (eq-eqb s s refl)

in_group_bytes : (s : ℕ) (i : Import) (b : ℕ) (l : List Entry) → entry_bytes (within s) (in_group s i b ++ l) ≡ entry_in s i b ++ entry_bytes (within s) l
unfolding in_group entry_in entry_bytes
in_group_bytes s (Named t n) b l = go (eqb s t)
  where
    go : (q : Bool) → entry_bytes (within s) (cond q (named s n b ∷ []) [] ++ l) ≡ cond q (0xb1 ∷ n ∷ b ∷ []) [] ++ entry_bytes (within s) l
    go true = same_head s _
    go false = refl
in_group_bytes s (Default t) b l = go (eqb s t)
  where
    go : (q : Bool) → entry_bytes (within s) (cond q (required s b ∷ []) [] ++ l) ≡ cond q (0xb2 ∷ b ∷ []) [] ++ entry_bytes (within s) l
    go true = same_head s _
    go false = refl
in_group_bytes s FileName b l = refl

-- records of the group that stands open
more_bytes : (s : ℕ) (rs : List Record) (es : List Entry) → entry_bytes (within s) (all_in_group s rs ++ es) ≡ entries_in s rs ++ entry_bytes (within s) es
unfolding all_in_group entries_in
more_bytes s [] es = refl
more_bytes s (r ∷ rs) es =
    rw (append_assoc (in_group s r.import r.binding) (all_in_group s rs) es, append_assoc (entry_in s r.import r.binding) (entries_in s rs) (entry_bytes (within s) es))
    (in_group_bytes s r.import r.binding (all_in_group s rs ++ es) ∙ ap (λ (l : List ℕ). entry_in s r.import r.binding ++ l) (more_bytes s rs es))

-- ---- a group

-- whether a thing stands in the group of source s
unfoldable is_in : ℕ → Import → Bool
is_in s (Named t n) = eqb s t
is_in s (Default t) = eqb s t
is_in s FileName = false

unfoldable some_in : ℕ → List Record → Bool
some_in s [] = false
some_in s (r ∷ rs) = is_in s r.import || some_in s rs

-- the group of a source that does not stand open, with a record at the least
group_bytes : (g : Group) (s : ℕ) (rs : List Record) (es : List Entry) → group_head g s ≡ 0xb0 ∷ s ∷ [] → some_in s rs ≡ true
    → entry_bytes g (all_in_group s rs ++ es) ≡ 0xb0 ∷ s ∷ entries_in s rs ++ entry_bytes (within s) es
unfolding some_in all_in_group entries_in is_in in_group entry_in entry_bytes
group_bytes g s [] es h e = never e
group_bytes g s (r ∷ rs) es h e =
    rw (append_assoc (in_group s r.import r.binding) (all_in_group s rs) es, append_assoc (entry_in s r.import r.binding) (entries_in s rs) (entry_bytes (within s) es))
    (first r.import e (group_bytes g s rs es h))
  where
    first : (i : Import) → (is_in s i || some_in s rs) ≡ true
        → (some_in s rs ≡ true → entry_bytes g (all_in_group s rs ++ es) ≡ 0xb0 ∷ s ∷ entries_in s rs ++ entry_bytes (within s) es)
        → entry_bytes g (in_group s i r.binding ++ (all_in_group s rs ++ es)) ≡ 0xb0 ∷ s ∷ entry_in s i r.binding ++ (entries_in s rs ++ entry_bytes (within s) es)
    first (Named t n) e ih = go (eqb s t) e
      where
        go : (q : Bool) → (q || some_in s rs) ≡ true
            → entry_bytes g (cond q (named s n r.binding ∷ []) [] ++ (all_in_group s rs ++ es))
            ≡ 0xb0 ∷ s ∷ cond q (0xb1 ∷ n ∷ r.binding ∷ []) [] ++ (entries_in s rs ++ entry_bytes (within s) es)
        go true e = rw (h, more_bytes s rs es)
        go false e = ih e
    first (Default t) e ih = go (eqb s t) e
      where
        go : (q : Bool) → (q || some_in s rs) ≡ true
            → entry_bytes g (cond q (required s r.binding ∷ []) [] ++ (all_in_group s rs ++ es))
            ≡ 0xb0 ∷ s ∷ cond q (0xb2 ∷ r.binding ∷ []) [] ++ (entries_in s rs ++ entry_bytes (within s) es)
        go true e = rw (h, more_bytes s rs es)
        go false e = ih e
    first FileName e ih = ih e

-- ---- all groups

-- each of these sources opens a group, behind the one before it, and has a record
abbrev Opened : List Record → Group → List ℕ → Type 0
Opened rs g [] = Unit {0}
Opened rs g (s ∷ ss) = (group_head g s ≡ 0xb0 ∷ s ∷ []) × ((some_in s rs ≡ true) × Opened rs (within s) ss)

groups_bytes : (g : Group) (rs : List Record) (ss : List ℕ) (es : List Entry) (t : List ℕ) → Opened rs g ss → ((y : Group) → entry_bytes y es ≡ t)
    → entry_bytes g (group_entries rs ss ++ es) ≡ group_tape rs ss ++ t
unfolding group_entries group_tape
groups_bytes g rs [] es t o h = h g
groups_bytes g rs (s ∷ ss) es t o h =
    rw (append_assoc (all_in_group s rs) (group_entries rs ss) es, append_assoc (entries_in s rs) (group_tape rs ss) t)
    (group_bytes g s rs (group_entries rs ss ++ es) o.0 o.1.0
    ∙ ap (λ (l : List ℕ). 0xb0 ∷ s ∷ entries_in s rs ++ l) (groups_bytes (within s) rs ss es t o.1.1 h))

file_bytes : (place : ℕ) (rs : List Record) (y : Group) → entry_bytes y (file_entries place rs) ≡ file_name_tape place rs
unfolding file_entries file_name_tape file_entry file_name_entry entry_bytes
file_bytes place [] y = refl
file_bytes place (r ∷ rs) y = go r.import (file_bytes place rs y)
  where
    go : (i : Import) → entry_bytes y (file_entries place rs) ≡ file_name_tape place rs
        → entry_bytes y (file_entry place i r.binding ++ file_entries place rs) ≡ file_name_entry place i r.binding ++ file_name_tape place rs
    go (Named s n) ih = ih
    go (Default s) ih = ih
    go FileName ih = ap (λ (l : List ℕ). 0xb3 ∷ r.binding ∷ place ∷ l) ih

-- ---- the groups of records are such

abbrev All : (ℕ → Type 0) → List ℕ → Type 0
All P [] = Unit {0}
All P (s ∷ ss) = P s × All P ss

module _ (P : ℕ → Type 0) where
  all_without : (s : ℕ) (ss : List ℕ) → All P ss → All P (without s ss)
  unfolding without
  all_without s [] h = tt
  all_without s (t ∷ ss) h = go (eqb s t) (all_without s ss h.1)
    where
      go : (q : Bool) → All P (without s ss) → All P (cond q (without s ss) (t ∷ without s ss))
      go true ih = ih
      go false ih = (h.0, ih)

  all_behind : (s : ℕ) (ss : List ℕ) → All P ss → P s → All P (ss ++ s ∷ [])
  all_behind s [] h p = (p, tt)
  all_behind s (t ∷ ss) h p = (h.0, all_behind s ss h.1 p)

  all_with : (f : Bool) (s : ℕ) (ss : List ℕ) → All P ss → P s → All P (with_group f s ss)
  unfolding with_group
  all_with true s ss h p = (p, all_without s ss h)
  all_with false s ss h p = go (is_among s ss)
    where
      go : (q : Bool) → All P (cond q ss (ss ++ s ∷ []))
      go true = h
      go false = all_behind s ss h p

-- what stands in rs stands in all of them
abbrev Among : List Record → List Record → Type 0
Among rs all = (s : ℕ) → some_in s rs ≡ true → some_in s all ≡ true

all_some : (all : List Record) (ss : List ℕ) (rs : List Record) → Among rs all → All (λ s. some_in s all ≡ true) ss
    → All (λ s. some_in s all ≡ true) (groups_from ss rs)
unfolding groups_from some_in grouped_by is_in
all_some all ss [] a h = h
all_some all ss (r ∷ rs) a h = all_some all (grouped_by ss r.import) rs (λ s e. a s (later (is_in s r.import) e)) (go r.import (λ s e. a s (rw e)))
  where
    later : (q : Bool) {x : Bool} → x ≡ true → (q || x) ≡ true
    later true e = refl
    later false e = e

    go : (i : Import) → ((s : ℕ) → is_in s i ≡ true → some_in s all ≡ true) → All (λ s. some_in s all ≡ true) (grouped_by ss i)
    go (Named t n) k = all_with (λ s. some_in s all ≡ true) false t ss h (k t (eq-eqb t t refl))
    go (Default t) k = all_with (λ s. some_in s all ≡ true) (eqb t 0) t ss h (k t (eq-eqb t t refl))
    go FileName k = h

counted_first : (s t : ℕ) (ss : List ℕ) → s ≡ t → count (eqb t) (s ∷ ss) ≡ suc (count (eqb t) ss)
unfolding count
counted_first s t ss h = rw (eq-eqb t s (sym h))

counted_later : (s t : ℕ) (ss : List ℕ) → count (eqb t) (s ∷ ss) ≤ 1 → count (eqb t) ss ≤ 1
unfolding count
counted_later s t ss h = go (eqb t s) h
  where
    go : (q : Bool) → cond q (suc (count (eqb t) ss)) (count (eqb t) ss) ≤ 1 → count (eqb t) ss ≤ 1
    go true h = omega arith
    go false h = h

-- behind the group of s that of another source opens
other_head : (s t : ℕ) (ss : List ℕ) → count (eqb t) (s ∷ ss) ≤ 1 → count (eqb t) ss ≡ 1 → group_head (within s) t ≡ 0xb0 ∷ t ∷ []
unfolding group_head
other_head s t ss d e = go (eqb s t) refl
  where
    go : (q : Bool) → eqb s t ≡ q → cond q [] (0xb0 ∷ t ∷ []) ≡ 0xb0 ∷ t ∷ []
    go true q = absurd (omega (arith, counted_first s t ss (eqb-true s t q)))
    go false q = refl

opened_from : (rs : List Record) (g : Group) (ss : List ℕ) → Distinct ss → ((s : ℕ) → count (eqb s) ss ≡ 1 → group_head g s ≡ 0xb0 ∷ s ∷ [])
    → All (λ s. some_in s rs ≡ true) ss → Opened rs g ss
opened_from rs g [] d f h = tt
opened_from rs g (s ∷ ss) d f h = (
  f s (omega (arith, counted_first s s ss refl, d s)),
  (h.0, opened_from rs (within s) ss (λ t. counted_later s t ss (d t)) (λ t e. other_head s t ss (d t) e) h.1),
)

pub tape_bytes : (m : Mode) (rs : List Record) → entry_bytes outside (read_records (record_tape m rs)) ≡ record_tape m rs
unfolding record_tape group_head
tape_bytes m rs =
    ap (entry_bytes outside) (tape_read m rs)
    ∙ groups_bytes outside rs (groups_from [] rs) (file_entries (place_in m) rs) (file_name_tape (place_in m) rs)
    (opened_from rs outside (groups_from [] rs) (distinct_groups rs) (λ s e. refl) (all_some rs [] rs (λ s e. e) tt))
    (λ y. file_bytes (place_in m) rs y)
