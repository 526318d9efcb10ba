-- The bytes and the bindings of an output's parts (`calls_from`, `notices_from` and `bound_from` of specs, Emitting).
--     calls_append, notices_append, bound_append     of one output behind another
--     bound_longer                                   what is bound never gets less
-- Assumes nothing.
use Rattle.std.proofs.Common.{◌≡◌, ℕ, ◌≤◌, List, [], ◌∷◌, ◌++◌, length, sym, refl, ap, ◌∙◌, append_assoc}
use Rattle.definitions.specs.declared.records.Import.{Import}
use Rattle.definitions.specs.Calls.{Command, bytes_of, call_bytes, Notice, notice_bytes_of, notice_bytes}
use Rattle.definitions.specs.Store.{bound_after, numbered_all}
use Rattle.definitions.specs.Lowering.{Output, emit, notify, commands_of, notices_of}
use Rattle.definitions.proofs.Numbering.{numbered_append}
use Rattle.definitions.proofs.Numbering as numbering
use Rattle.definitions.proofs.Plain.{commands_append}
use Rattle.store.proofs.Growing.{bound_after_grows}
use Rattle.pen.specs.Emitting.{calls_from, notices_from, bound_from}

bytes_append : (cs ds : List (Command ℕ)) → call_bytes (cs ++ ds) ≡ call_bytes cs ++ call_bytes ds
unfolding call_bytes
bytes_append [] ds = refl
bytes_append (c ∷ cs) ds = rw (bytes_append cs ds) (sym (append_assoc (bytes_of c) (call_bytes cs) (call_bytes ds)))

notice_bytes_append : (ns ms : List Notice) → notice_bytes (ns ++ ms) ≡ notice_bytes ns ++ notice_bytes ms
unfolding notice_bytes
notice_bytes_append [] ms = refl
notice_bytes_append (n ∷ ns) ms = rw (notice_bytes_append ns ms) (sym (append_assoc (notice_bytes_of n) (notice_bytes ns) (notice_bytes ms)))

notices_of_append : (xs ys : List Output) → notices_of (xs ++ ys) ≡ notices_of xs ++ notices_of ys
unfolding notices_of
notices_of_append [] ys = refl
notices_of_append (emit c ∷ xs) ys = notices_of_append xs ys
notices_of_append (notify n ∷ xs) ys = ap (n ∷◌) (notices_of_append xs ys)

pub bound_append : (js : List Import) (xs ys : List Output) → bound_from js (xs ++ ys) ≡ bound_from (bound_from js xs) ys
bound_append js xs ys = ap (bound_after js) (commands_append xs ys) ∙ numbering.bound_append js (commands_of xs) (commands_of ys)

pub calls_append : (js : List Import) (xs ys : List Output) → calls_from js (xs ++ ys) ≡ calls_from js xs ++ calls_from (bound_from js xs) ys
calls_append js xs ys =
    ap (λ (cs : List (Command Import)). call_bytes (numbered_all js cs)) (commands_append xs ys)
    ∙ ap call_bytes (numbered_append js (commands_of xs) (commands_of ys))
    ∙ bytes_append (numbered_all js (commands_of xs)) (numbered_all (bound_from js xs) (commands_of ys))

pub notices_append : (xs ys : List Output) → notices_from (xs ++ ys) ≡ notices_from xs ++ notices_from ys
notices_append xs ys = ap notice_bytes (notices_of_append xs ys) ∙ notice_bytes_append (notices_of xs) (notices_of ys)

pub bound_longer : (js : List Import) (os : List Output) → length js ≤ length (bound_from js os)
bound_longer js os = bound_after_grows js (commands_of os)
