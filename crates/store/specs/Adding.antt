-- A store of records, and what adding an import to it gives.
use Rattle.std.specs.Prelude.{◌≡◌, ℕ, ◌+◌, ◌≤◌, false, cond, List, ◌++◌, length, take, drop, set, ltb, None, Option, Some, is_none}
use Rattle.definitions.specs.declared.records.Import.{Import}
use Rattle.definitions.specs.declared.records.Record.{Record}
use Rattle.definitions.specs.declared.state.State.{State}
use Rattle.definitions.specs.Store.{number_in, is_bound, bound}
use Rattle.definitions.specs.States.{imports}
use Rattle.definitions.specs.Entries.{records_from}
use Rattle.store.specs.declared.module_imports.Store.{Store}

abbrev pub store_of : State → Store
store_of s = record { records = s.records; count = s.count }

-- the things that a store binds, in order of making
abbrev pub things : Store → List Import
things s = imports (take s.count s.records)

-- what adding an import gives: its number, or none where there is none left, and the store after
pub record Added : Type 0 where
  pub number : Option ℕ
  pub store : Store

-- there is no number for another thing: the store stays
abbrev pub full_of : Store → Added
full_of s = record { number = None; store = s }

-- the thing has a number already: the store stays
abbrev pub found_in : Store → Import → Added
found_in s i = record { number = Some (number_in (things s) i); store = s }

-- a record behind the others. "Bindings count from 0 in order of making"
abbrev pub made_in : Store → Import → Added
made_in s i =
    record {
      number = Some s.count;
      store = record { records = set s.records s.count (record { import = i; binding = s.count }); count = s.count + 1 };
    }

-- `add_import` (module_imports.rs). A store that says more than 8 is none that was made here, and counts as full
unfoldable pub added : Store → Import → Added
added s i =
    cond (ltb 8 s.count) (full_of s)
    (cond (is_bound (things s) i) (found_in s i)
    (cond (ltb s.count 8) (made_in s i) (full_of s)))

-- a store of js, in an array whose places behind them are those of `a`
pub record Holds (a : List Record) (js : List Import) (s : Store) : Type 0 where
  pub eight : length a ≡ 8
  pub few : length js ≤ 8
  pub counted : s.count ≡ length js
  pub whole : s.records ≡ records_from 0 js ++ drop (length js) a

-- what an import added to a store of js has given: none where a ninth thing would be bound, else its number among js, and a store of js with it
pub record Adds (a : List Record) (js : List Import) (i : Import) (r : Added) : Type 0 where
  pub fullness : is_none r.number ≡ ltb 8 (length (bound js i))
  pub number : is_none r.number ≡ false → r.number ≡ Some (number_in js i)
  pub holds : is_none r.number ≡ false → Holds a (bound js i) r.store
