-- docs/TAPES.md, "Record tape": the record tape (module_imports.rs), and how one is read.
use Rattle.std.specs.Prelude.{ℕ, Bool, true, false, cond, ◌||◌, List, [], ◌∷◌, ◌++◌, eqb}
use Rattle.definitions.specs.declared.options.Mode.{Mode}
use Rattle.definitions.specs.declared.options.Mode.TheVariants.{Module, Script, Classic}
use Rattle.definitions.specs.declared.records.Import.{Import}
use Rattle.definitions.specs.declared.records.Import.TheVariants.{Named, Default, FileName}
use Rattle.definitions.specs.declared.records.Record.{Record}

-- ---- writing

unfoldable pub without : ℕ → List ℕ → List ℕ
without s [] = []
without s (t ∷ ts) = cond (eqb s t) (without s ts) (t ∷ without s ts)

unfoldable pub is_among : ℕ → List ℕ → Bool
is_among s [] = false
is_among s (t ∷ ts) = eqb s t || is_among s ts

-- `add_import`: "groups by source, in order of first use; front puts the group first"
unfoldable pub with_group : Bool → ℕ → List ℕ → List ℕ
with_group true s groups = s ∷ without s groups
with_group false s groups = cond (is_among s groups) groups (groups ++ s ∷ [])

-- the groups after a record: "Script jobs require source 0 in front."
unfoldable pub grouped_by : List ℕ → Import → List ℕ
grouped_by groups (Named s n) = with_group false s groups
grouped_by groups (Default s) = with_group (eqb s 0) s groups
grouped_by groups FileName = groups

-- the sources of the groups in their order, from the records in order of making
unfoldable pub groups_from : List ℕ → List Record → List ℕ
groups_from groups [] = groups
groups_from groups (r ∷ rs) = groups_from (grouped_by groups r.import) rs

-- "B1 name u8, binding u8 is a named import; B2 binding u8 a require": a record's entry in the group of source s
unfoldable pub entry_in : ℕ → Import → ℕ → List ℕ
entry_in s (Named t n) b = cond (eqb s t) (0xb1 ∷ n ∷ b ∷ []) []
entry_in s (Default t) b = cond (eqb s t) (0xb2 ∷ b ∷ []) []
entry_in s FileName b = []

unfoldable pub entries_in : ℕ → List Record → List ℕ
entries_in s [] = []
entries_in s (r ∷ rs) = entry_in s r.import r.binding ++ entries_in s rs

-- "B0 source u8 opens a group"
unfoldable pub group_tape : List Record → List ℕ → List ℕ
group_tape rs [] = []
group_tape rs (s ∷ ss) = 0xb0 ∷ s ∷ entries_in s rs ++ group_tape rs ss

-- "place u8 (0 top level if classic or module, else 1)"
unfoldable pub place_in : Mode → ℕ
place_in Module = 0
place_in Classic = 0
place_in Script = 1

-- "last, B3 binding u8, place u8 the file name"
unfoldable pub file_name_entry : ℕ → Import → ℕ → List ℕ
file_name_entry place (Named s n) b = []
file_name_entry place (Default s) b = []
file_name_entry place FileName b = 0xb3 ∷ b ∷ place ∷ []

unfoldable pub file_name_tape : ℕ → List Record → List ℕ
file_name_tape place [] = []
file_name_tape place (r ∷ rs) = file_name_entry place r.import r.binding ++ file_name_tape place rs

unfoldable pub record_tape : Mode → List Record → List ℕ
record_tape m rs = group_tape rs (groups_from [] rs) ++ file_name_tape (place_in m) rs

-- ---- reading

-- what a record says: "its bytes and, for a B1 or B2, its group's source"
pub data Entry : Type 0 where
  named : ℕ → ℕ → ℕ → Entry
  required : ℕ → ℕ → Entry
  file : ℕ → ℕ → Entry

-- where a reader of a record tape stands: at a command in the group of a source, at a group's source, or at an operand
pub data At : Type 0 where
  command : ℕ → At
  opened : At
  name : ℕ → At
  name_binding : ℕ → ℕ → At
  require_binding : ℕ → At
  file_binding : ℕ → At
  file_place : ℕ → ℕ → At
  lost : At

abbrev pub behind : ℕ → ℕ → At
behind s c =
    cond (eqb c 0xb0) opened (cond (eqb c 0xb1) (name s) (cond (eqb c 0xb2) (require_binding s) (cond (eqb c 0xb3) (file_binding s) lost)))

-- the records of a tape, each with its group's source s; nothing is read behind a byte that is no command
unfoldable pub entries_from : At → List ℕ → List Entry
entries_from (command s) [] = []
entries_from opened [] = []
entries_from (name s) [] = []
entries_from (name_binding s n) [] = []
entries_from (require_binding s) [] = []
entries_from (file_binding s) [] = []
entries_from (file_place s b) [] = []
entries_from lost [] = []
entries_from (command s) (c ∷ t) = entries_from (behind s c) t
entries_from opened (s ∷ t) = entries_from (command s) t
entries_from (name s) (n ∷ t) = entries_from (name_binding s n) t
entries_from (name_binding s n) (b ∷ t) = named s n b ∷ entries_from (command s) t
entries_from (require_binding s) (b ∷ t) = required s b ∷ entries_from (command s) t
entries_from (file_binding s) (b ∷ t) = entries_from (file_place s b) t
entries_from (file_place s b) (p ∷ t) = file b p ∷ entries_from (command s) t
entries_from lost (b ∷ t) = []

-- a record stands in a group, so the source before the first one is never seen
abbrev pub read_records : List ℕ → List Entry
read_records t = entries_from (command 0) t

-- ---- and back

-- the group that a record stands behind: none at the tape's front
pub data Group : Type 0 where
  outside : Group
  within : ℕ → Group

-- "B0 source u8 opens a group": none where the record before has the same source
unfoldable pub group_head : Group → ℕ → List ℕ
group_head outside s = 0xb0 ∷ s ∷ []
group_head (within t) s = cond (eqb t s) [] (0xb0 ∷ s ∷ [])

-- the bytes of records as they were read
unfoldable pub entry_bytes : Group → List Entry → List ℕ
entry_bytes g [] = []
entry_bytes g (named s n b ∷ es) = group_head g s ++ 0xb1 ∷ n ∷ b ∷ entry_bytes (within s) es
entry_bytes g (required s b ∷ es) = group_head g s ++ 0xb2 ∷ b ∷ entry_bytes (within s) es
entry_bytes g (file b p ∷ es) = 0xb3 ∷ b ∷ p ∷ entry_bytes g es
