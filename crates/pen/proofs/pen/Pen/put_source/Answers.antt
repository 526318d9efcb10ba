use Rattle.std.proofs.Common.{◌≡◌, ◌+◌, ◌%◌, ◌^◌, ◌≤◌, ◌∷◌, ◌++◌, length, refl, sym, subst, arith}
use Rattle.tape.specs.Numbers.{u32_bytes}
use Rattle.definitions.specs.declared.records.Import.TheVariants.{FileName}
use Rattle.definitions.specs.Store.{bound_by, numbered}
use Rattle.definitions.specs.Calls.{bytes_of}
use Rattle.pen.specs.declared.pen.Pen.{Pen}
use Rattle.pen.proofs.Emitting.{lent_then}
use Rattle.pen.proofs.Commands.{numbered_lent, called_bound, call_then}
use Rattle.pen.proofs.pen.Pen.put_source.Goals as goal

pub returns-clause-lent : goal.returns-clause-lent
returns-clause-lent c =
    lent_then (numbered_lent FileName c.number_of-number.ensures.after c.put_call.ensures.lent)
    (lent_then c.put_call-2.ensures.lent c.put_call-3.ensures.lent)

pub returns-clause-written : goal.returns-clause-written
unfolding bound_by numbered bytes_of
returns-clause-written c = λ h k.
    let e : (c.args.place.line + 1) % 2 ^ 32 ≡ c.args.place.line + 1 = omega arith in
    let f : (c.args.place.column + 1) % 2 ^ 32 ≡ c.args.place.column + 1 = omega arith in
    called_bound FileName (λ n. 0xa1 ∷ n ∷ u32_bytes ((c.args.place.line + 1) % 2 ^ 32) ++ u32_bytes ((c.args.place.column + 1) % 2 ^ 32)) (λ js. refl) (λ js. rw (e, f)) (λ k m. refl)
    (lent_then (numbered_lent FileName c.number_of-number.ensures.after c.put_call.ensures.lent)
    (lent_then c.put_call-2.ensures.lent c.put_call-3.ensures.lent))
    (record { calls = omega arith; notices = omega arith })
    (let before : length c.args.self.now.calls.now ≤ 2 ^ 63 = omega arith in
    let short = subst (λ (p : Pen). length p.calls.now ≤ 2 ^ 63) (sym c.number_of-number.ensures.after) before in
    rw (← c.number_of-number.ensures.number, ← c.number_of-number.ensures.after)
    (call_then short (call_then short c.put_call.ensures c.put_call-2.ensures) c.put_call-3.ensures))
