-- docs/TAPES.md, "Record tape": what a job binds, and the numbers of bindings. "Bindings count from 0 in order of making, file name included."
use Rattle.std.specs.Prelude.{ℕ, suc, Bool, true, false, cond, ◌&&◌, ◌||◌, List, [], ◌∷◌, ◌++◌, length, eqb, ltb}
use Rattle.definitions.specs.declared.options.Mode.{Mode}
use Rattle.definitions.specs.declared.options.Mode.TheVariants.{Module, Script, Classic}
use Rattle.definitions.specs.declared.options.Settings.{Settings}
use Rattle.definitions.specs.declared.records.Import.{Import}
use Rattle.definitions.specs.declared.records.Import.TheVariants.{Named, Default, FileName}
use Rattle.definitions.specs.Calls.{Command, bare, byte, over, span, binding, source}

-- ---- names and sources

-- "Names: 0 Fragment, 1 createElement, 2 jsx, 3 jsxs, 4 jsxDEV."
abbrev pub fragment_name : ℕ
fragment_name = 0

abbrev pub create_element : ℕ
create_element = 1

abbrev pub jsx : ℕ
jsx = 2

abbrev pub jsxs : ℕ
jsxs = 3

abbrev pub jsx_dev : ℕ
jsx_dev = 4

-- "the record's source is 0 for createElement, else 1": 0 the import source, 1 the runtime source
abbrev pub source_of : ℕ → ℕ
source_of n = cond (eqb n create_element) 0 1

-- ---- the things bound, in order of making

unfoldable pub same_import : Import → Import → Bool
same_import (Named s n) (Named t m) = eqb s t && eqb n m
same_import (Named s n) (Default t) = false
same_import (Named s n) FileName = false
same_import (Default s) (Named t m) = false
same_import (Default s) (Default t) = eqb s t
same_import (Default s) FileName = false
same_import FileName (Named t m) = false
same_import FileName (Default t) = false
same_import FileName FileName = true

-- the number of a thing among those bound: the place of the first that is the same, or how many there are
unfoldable pub number_in : List Import → Import → ℕ
number_in [] i = 0
number_in (j ∷ js) i = cond (same_import j i) 0 (suc (number_in js i))

abbrev pub is_bound : List Import → Import → Bool
is_bound js i = ltb (number_in js i) (length js)

-- a thing that is not bound yet is bound behind the others
unfoldable pub bound : List Import → Import → List Import
bound js i = cond (is_bound js i) js (js ++ i ∷ [])

-- ---- commands that name a binding by what it is

-- what is bound after a command
unfoldable pub bound_by : List Import → Command Import → List Import
bound_by js (bare c) = js
bound_by js (byte c n) = js
bound_by js (over c e) = js
bound_by js (span c s) = js
bound_by js (binding i) = bound js i
bound_by js (source i p) = bound js i

unfoldable pub bound_after : List Import → List (Command Import) → List Import
bound_after js [] = js
bound_after js (c ∷ cs) = bound_after (bound_by js c) cs

-- the command with a number for its binding
unfoldable pub numbered : List Import → Command Import → Command ℕ
numbered js (bare c) = bare c
numbered js (byte c n) = byte c n
numbered js (over c e) = over c e
numbered js (span c s) = span c s
numbered js (binding i) = binding (number_in js i)
numbered js (source i p) = source (number_in js i) p

-- commands in order, each over what is bound before it: a new thing gets the next number
unfoldable pub numbered_all : List Import → List (Command Import) → List (Command ℕ)
numbered_all js [] = []
numbered_all js (c ∷ cs) = numbered js c ∷ numbered_all (bound_by js c) cs

-- ---- what a job can bind

-- the names of a module's imports: createElement, Fragment, and jsxDEV in development, else jsx and jsxs
abbrev pub can_name : Bool → ℕ → Bool
can_name development n =
    eqb n create_element || eqb n fragment_name || cond development (eqb n jsx_dev) (eqb n jsx || eqb n jsxs)

unfoldable pub can_import : Mode → Bool → ℕ → ℕ → Bool
can_import Module development s n = can_name development n && eqb s (source_of n)
can_import Script development s n = false
can_import Classic development s n = false

unfoldable pub can_require : Mode → ℕ → Bool
can_require Module s = false
can_require Script s = ltb s 2
can_require Classic s = false

-- "a record its mode cannot make": the file name needs the source plugin
unfoldable pub can_bind : Settings → Import → Bool
can_bind s (Named t n) = can_import s.mode s.options.flags.development t n
can_bind s (Default t) = can_require s.mode t
can_bind s FileName = s.options.flags.source_plugin
