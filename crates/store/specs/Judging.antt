-- What is judged behind an answer.
use Rattle.std.specs.Prelude.{List, ℕ, Err, Ok, Result, ⊤}
use Rattle.tape.specs.declared.refusal.Refusal.{Refusal}
use Rattle.definitions.specs.Judging.{Judged, refused}

unfoldable pub behind : Result ⊤ Refusal → Judged (List ℕ) → Judged (List ℕ)
behind (Ok tt) j = j
behind (Err r) j = refused r
