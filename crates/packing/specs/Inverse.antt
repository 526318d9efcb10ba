-- That packing and unpacking are inverse to each other (proved in proofs/Inverse).
use Rattle.std.specs.Prelude.{ℕ, ◌<◌, ◌≡◌, List, length, get_or, Some}
use Rattle.definitions.specs.declared.state.State.{State}
use Rattle.packing.specs.Packed.{packed, unpacked}

-- a state comes back from its bytes: every state that code can have, with eight places for records
abbrev pub Back : Type 0
Back = (s : State) → length s.records ≡ 8 → unpacked (packed s) ≡ Some s

-- bytes that unpack are those of the state that they unpack to, so that no other bytes are taken for it
abbrev pub Only : Type 0
Only = (t : List ℕ) → ((k : ℕ) → get_or t k 0 < 256) → (s : State) → unpacked t ≡ Some s → packed s ≡ t
