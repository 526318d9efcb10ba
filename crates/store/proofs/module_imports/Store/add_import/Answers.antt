use native.Mathlib.Omega.{arith}
use mathlib.Core.Path.{◌≡◌, sym, ap, ◌∙◌}
use Prim.Native.Nat.{◌≤◌, ◌<◌}
use lib.ListN.{length, take, length-map, length-take}
use borrow.Author.Tests.{ltb-true}
use Rattle.std.proofs.Common.{rules, Some}
use Rattle.definitions.specs.Store.{number_in}
use Rattle.records.specs.Numbers.{place_of}
use Rattle.store.specs.Adding.{things, Added}
use Rattle.store.proofs.Adding.{added_over, added_found, added_made, added_full}
use Rattle.records.proofs.Numbers.{place_there, place_none}
use Rattle.store.proofs.module_imports.Store.add_import.Goals as goal
use Rattle.store.proofs.module_imports.Store.add_import.Goals.{In_err-get, After-number_in}

over : (c : In_err-get) → 8 < c.args.self.now.count
over c = search rules

pub returns-in_err-get-clause-number : goal.returns-in_err-get-clause-number
returns-in_err-get-clause-number c =
    c.from_residual.ensures ∙ ap (λ (r : Added). r.number) (sym (added_over c.args.self.now c.args.import (over (goal.at.returns-in_err-get-clause-number c).In_err-get)))

pub returns-in_err-get-clause-store_after : goal.returns-in_err-get-clause-store_after
returns-in_err-get-clause-store_after c =
    ap (λ (r : Added). r.store) (sym (added_over c.args.self.now c.args.import (over (goal.at.returns-in_err-get-clause-store_after c).In_err-get)))

-- the records that are there, and the place of the import among them
live : (c : After-number_in) → (c.args.self.now.count ≤ 8) × (c.in_ok-get.field-0.now ≡ take c.args.self.now.count c.args.self.now.records)
live c = search rules

place : (c : After-number_in) → place_of (things c.args.self.now) c.args.import ≡ c.number_in.result
place c = rw ((live c).1) at (sym c.number_in.ensures)

pub overflow_cast-result : goal.overflow_cast-result
overflow_cast-result c =
    let s = c.args.self.now in
    let a = (goal.at.overflow_cast-result c).After-number_in in
    let p = place_there (things s) c.args.import (place a ∙ c.in-Some.is) in
    omega (
      arith,
      p.1,
      ltb-true (number_in (things s) c.args.import) (length (things s)) p.0,
      length-map (take s.count s.records) (λ r. r.import),
      length-take s.count s.records,
      (live a).0,
    )

pub returns-in-Some-clause-number : goal.returns-in-Some-clause-number
returns-in-Some-clause-number c =
    let s = c.args.self.now in
    let a = (goal.at.returns-in-Some-clause-number c).After-number_in in
    let p = place_there (things s) c.args.import (place a ∙ c.in-Some.is) in
    ap Some (sym p.1) ∙ ap (λ (r : Added). r.number) (sym (added_found s c.args.import (live a).0 p.0))

pub returns-in-Some-clause-store_after : goal.returns-in-Some-clause-store_after
returns-in-Some-clause-store_after c =
    let s = c.args.self.now in
    let a = (goal.at.returns-in-Some-clause-store_after c).After-number_in in
    let p = place_there (things s) c.args.import (place a ∙ c.in-Some.is) in
    ap (λ (r : Added). r.store) (sym (added_found s c.args.import (live a).0 p.0))

pub returns-then-count-eq8 : goal.returns-then-count-eq8
returns-then-count-eq8 c =
    let s = c.args.self.now in
    let a = (goal.at.returns-then-count-eq8 c).After-number_in in
    let p = place_none (things s) c.args.import (place a ∙ c.in_default.is) in
    let e = sym (added_full s c.args.import (live a).0 p (omega (arith, (live a).0))) in
    record { number = ap (λ (r : Added). r.number) e; store_after = ap (λ (r : Added). r.store) e }

pub returns : goal.returns
returns c =
    let s = c.args.self.now in
    let a = (goal.at.returns c).After-number_in in
    let p = place_none (things s) c.args.import (place a ∙ c.in_default.is) in
    let e = sym (added_made s c.args.import (live a).0 p (omega (arith, (live a).0))) in
    record { number = ap (λ (r : Added). r.number) e; store_after = rw c.from-count.ensures (ap (λ (r : Added). r.store) e) }
