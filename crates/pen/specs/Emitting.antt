-- What writing an output comes to: the places and contents of both targets after it, and the store.
use Rattle.std.specs.Prelude.{◌≡◌, ℕ, ◌+◌, ◌^◌, ◌≤◌, false, ◌||◌, List, length, nat_lt, is_none}
use Rattle.std.proofs.lemmas.List.Edits.{sets}
use Rattle.tape.specs.Targets.{cap, Wrote}
use Rattle.definitions.specs.declared.records.Import.{Import}
use Rattle.definitions.specs.declared.records.Record.{Record}
use Rattle.definitions.specs.Calls.{call_bytes, notice_bytes}
use Rattle.definitions.specs.Store.{bound_after, numbered_all}
use Rattle.definitions.specs.Lowering.{Output, commands_of, notices_of}
use Rattle.store.specs.Adding.{Holds, added}
use Rattle.pen.specs.declared.pen.Pen.{Pen}

-- the bytes of an output's calls where js is bound before it
abbrev pub calls_from : List Import → List Output → List ℕ
calls_from js os = call_bytes (numbered_all js (commands_of os))

abbrev pub notices_from : List Output → List ℕ
notices_from os = notice_bytes (notices_of os)

-- what is bound after an output
abbrev pub bound_from : List Import → List Output → List Import
bound_from js os = bound_after js (commands_of os)

-- a pen stands where js is bound, unless it has run out of numbers; a is the record array at the start, whose unused places stay
pub record Stands (a : List Record) (js : List Import) (p : Pen) : Type 0 where
  pub store : p.at.full ≡ false → Holds a js p.at.store
  pub calls_small : p.at.calls ≤ 2 ^ 63
  pub notices_small : p.at.notices ≤ 2 ^ 63

-- the output os is written: the pen was p and is p'. A pen that has run out of numbers goes on counting
pub record Emitted (a : List Record) (js : List Import) (os : List Output) (p p' : Pen) : Type 0 where
  pub fullness : p'.at.full ≡ (p.at.full || nat_lt 8 (length (bound_from js os)))
  pub stands : Stands a (bound_from js os) p'
  pub call_place : p'.at.calls ≡ cap (p.at.calls + length (calls_from js os))
  pub calls : p'.at.full ≡ false → p'.calls.now ≡ sets p.calls.now p.at.calls (calls_from js os)
  pub notice_place : p'.at.notices ≡ cap (p.at.notices + length (notices_from os))
  pub notices : p'.notices.now ≡ sets p.notices.now p.at.notices (notices_from os)

-- the pen p' writes into the targets that p was lent
pub record Lent (p p' : Pen) : Type 0 where
  pub calls : p'.calls.ghost_name ≡ p.calls.ghost_name
  pub notices : p'.notices.ghost_name ≡ p.notices.ghost_name

-- the targets are slices, and no slice is longer
pub record Short (p : Pen) : Type 0 where
  pub calls : length p.calls.now ≤ 2 ^ 63
  pub notices : length p.notices.now ≤ 2 ^ 63

-- what the functions promise: the output os is written, of any pen that stands
abbrev pub Produced : List Output → Pen → Pen → Type 0
Produced os p p' = Lent p p' × Short p × ((a : List Record) (js : List Import) → Stands a js p → Emitted a js os p p')

-- ---- bytes

-- the bytes bs are written behind the calls, and all else stays
pub record WroteCall (bs : List ℕ) (p p' : Pen) : Type 0 where
  pub wrote : Wrote p.calls.now p'.calls.now p.at.calls p'.at.calls bs
  pub lent : Lent p p'
  pub notices : p'.notices.now ≡ p.notices.now
  pub notice_place : p'.at.notices ≡ p.at.notices
  pub store : p'.at.store ≡ p.at.store
  pub full : p'.at.full ≡ p.at.full

-- the bytes bs are written behind the notices, and all else stays
pub record WroteNotice (bs : List ℕ) (p p' : Pen) : Type 0 where
  pub wrote : Wrote p.notices.now p'.notices.now p.at.notices p'.at.notices bs
  pub lent : Lent p p'
  pub calls : p'.calls.now ≡ p.calls.now
  pub call_place : p'.at.calls ≡ p.at.calls
  pub store : p'.at.store ≡ p.at.store
  pub full : p'.at.full ≡ p.at.full

-- an import has its number, unless there is none left
abbrev pub numbered_pen : Pen → Import → Pen
numbered_pen p i = record p { at = record p.at { store = (added p.at.store i).store; full = p.at.full || is_none (added p.at.store i).number } }
