-- A bound on the size of a root tape's calls, by one pass from command to command.
use Rattle.std.specs.Prelude.{ℕ, zero, suc, ◌+◌, ◌-◌, ◌*◌, ◌≤◌, ◌≡◌, cond, List, [], ◌∷◌, length, eqb, ltb}
use Rattle.tape.specs.Numbers.{u16_at}
use Rattle.commands.specs.Sizes.{command_size}
use Rattle.definitions.specs.declared.options.Settings.{Settings}
use Rattle.definitions.specs.declared.records.Import.{Import}
use Rattle.definitions.specs.Judging.{done}
use Rattle.definitions.specs.Tree.{Root}
use Rattle.definitions.specs.Reading.{read_root}
use Rattle.definitions.specs.Entries.{lowered_after}

-- the length of the text that the command in front tells; 0 where it is none, or cut off
unfoldable pub text_length : List ℕ → ℕ
text_length [] = 0
text_length (b ∷ t) = cond (eqb b 0x50) (cond (ltb (length t) 4) 0 (u16_at t 2)) 0

-- what the lengths of the texts come to that are met behind n bytes, which are passed over; a byte that begins no command is passed by itself
unfoldable pub texts_behind : ℕ → List ℕ → ℕ
texts_behind zero [] = 0
texts_behind (suc n) [] = 0
texts_behind zero (b ∷ t) = text_length (b ∷ t) + texts_behind (command_size b - 1) t
texts_behind (suc n) (b ∷ t) = texts_behind n t

-- four bytes for each of the tape and six for each of the texts that are met from its start
unfoldable pub size_bound : List ℕ → ℕ
size_bound t = 4 * length t + 6 * texts_behind 0 t

-- the same for a tape that a root may have; none for a longer one, which is refused
unfoldable pub call_size_bound : List ℕ → ℕ
call_size_bound tape = cond (ltb 65535 (length tape)) 0 (size_bound tape)

-- r bytes hold the calls of the root that the tape reads as, whatever the text, the settings and the records before it
abbrev pub HoldsCalls : List ℕ → ℕ → Type 0
HoldsCalls tape r =
    (text : List ℕ) (s : Settings) (js : List Import) (o : Root) (u : ℕ) → length tape ≤ 65535 → read_root text tape ≡ done o u → length (lowered_after text s js o).calls ≤ r
