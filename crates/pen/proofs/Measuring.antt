-- A pen over a sound state's records, and what counting a root's output comes to.
--     pen_is            a pen with a state's store is the pen over it
--     state_stands      a pen over the records of a sound state stands
--     calls_small, ..   a root's output is far from the limit of places
--     counted           a pen that counted from nothing tells the sizes of what a root adds
-- Assumes nothing.
use Rattle.std.proofs.Common.{MutBor, ◌≡◌, ℕ, ◌*◌, ◌^◌, ◌≤◌, Bool, true, false, ◌||◌, ltb, List, length, ap, ◌∙◌, arith}
use Rattle.definitions.specs.declared.records.Import.{Import}
use Rattle.definitions.specs.declared.records.Record.{Record}
use Rattle.definitions.specs.declared.options.Settings.{Settings}
use Rattle.definitions.specs.declared.state.State.{State}
use Rattle.definitions.specs.Judging.{done}
use Rattle.definitions.specs.Tree.{Root}
use Rattle.definitions.specs.Reading.{read_root}
use Rattle.definitions.specs.Lowering.{lower_root, can_add_self}
use Rattle.definitions.specs.States.{live, imports, sound}
use Rattle.definitions.specs.Entries.{lowered_after}
use Rattle.definitions.proofs.Weights.{weight, calls_weigh, notices_weigh, node_weighs}
use Rattle.definitions.proofs.TreeSizes.{root_size}
use Rattle.store.specs.declared.module_imports.Store.{Store}
use Rattle.store.specs.Adding.{store_of}
use Rattle.store.proofs.Soundness.{sound_holds}
use Rattle.pen.specs.declared.pen.Pen.{Pen}
use Rattle.pen.specs.Emitting.{calls_from, notices_from, bound_from, Stands, Emitted}

-- a pen over a state's store, into these targets from these places on
abbrev pub pen_of : State → MutBor (List ℕ) → MutBor (List ℕ) → ℕ → ℕ → Pen
pen_of s calls notices call_place notice_place =
    record { calls = calls; notices = notices; at = record { store = store_of s; full = false; notices = notice_place; calls = call_place } }

pub pen_is : (s : State) {x : Store} (calls notices : MutBor (List ℕ)) (call_place notice_place : ℕ) → x ≡ store_of s
    → record { calls = calls; notices = notices; at = record { store = x; full = false; notices = notice_place; calls = call_place } } ≡ pen_of s calls notices call_place notice_place
pen_is s calls notices call_place notice_place e =
    ap (λ (x : Store). record { calls = calls; notices = notices; at = record { store = x; full = false; notices = notice_place; calls = call_place } }) e

pub state_stands : (text : List ℕ) (s : State) (calls notices : MutBor (List ℕ)) (call_place notice_place : ℕ) → length s.records ≡ 8 → sound text s ≡ true
    → call_place ≤ 2 ^ 63 → notice_place ≤ 2 ^ 63
    → Stands s.records (imports (live s)) (pen_of s calls notices call_place notice_place)
state_stands text s calls notices call_place notice_place eight good h k = record {
  store = λ free. sound_holds text s good eight;
  calls_small = h;
  notices_small = k;
}

-- ---- sizes

module _ (text tape : List ℕ) (s : Settings) (js : List Import) (r : Root) (u : ℕ) (short : length text ≤ 65535) (within : u ≤ 65535) (reads : read_root text tape ≡ done r u) where
  output_small : weight (lower_root text s r) ≤ 400000 * 65535
  unfolding lower_root
  output_small =
      omega (arith, node_weighs (record { text = text; settings = s; self_allowed = can_add_self r }) short r.node, root_size text tape r u reads)

  pub calls_small : length (calls_from js (lower_root text s r)) ≤ 400000 * 65535
  calls_small = omega (arith, calls_weigh js (lower_root text s r), output_small)

  pub notices_small : length (notices_from (lower_root text s r)) ≤ 400000 * 65535
  notices_small = omega (arith, notices_weigh (lower_root text s r), output_small)

  -- a pen that counted from nothing tells the sizes
  pub counted : {a : List Record} {p p' : Pen} → p.at.calls ≡ 0 → p.at.notices ≡ 0 → p.at.full ≡ false
      → Emitted a js (lower_root text s r) p p'
      → (p'.at.full ≡ ltb 8 (length (lowered_after text s js r).bound))
      × (p'.at.calls ≡ length (lowered_after text s js r).calls)
      × (p'.at.notices ≡ length (lowered_after text s js r).notices)
  unfolding lowered_after
  counted x y z e = (
    e.fullness ∙ ap (λ (b : Bool). b || ltb 8 (length (bound_from js (lower_root text s r)))) z,
    omega (arith, e.call_place, calls_small, x),
    omega (arith, e.notice_place, notices_small, y),
  )
