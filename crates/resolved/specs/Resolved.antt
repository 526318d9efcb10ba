-- What a host reads of a job's settings as they stand after its comments: their bytes (`settings_bytes` of packing), and the sources of imports as text. Judged as
-- writing records is: 1, 2, 12, 10.
use Rattle.std.specs.Prelude.{ℕ, Bool, cond, List, eqb}
use Rattle.text.specs.Bytes.{ascii}
use Rattle.definitions.specs.declared.options.Options.{Options}
use Rattle.definitions.specs.declared.state.State.{State}
use Rattle.definitions.specs.Judging.{Judged}
use Rattle.definitions.specs.Opening.{import_source, runtime_source}
use Rattle.definitions.specs.Entries.{judge_tape, judge_writing}
use Rattle.packing.specs.Packed.{settings_bytes}

-- "plus /jsx-runtime or /jsx-dev-runtime"
abbrev pub runtime_path : Bool → List ℕ
runtime_path development = cond development (ascii "/jsx-dev-runtime") (ascii "/jsx-runtime")

-- "B0 source u8 (0 import source, 1 runtime source)": the text of the source with this number; every other one is read as 1
unfoldable pub source_text : List ℕ → Options → ℕ → List ℕ
source_text text o n = cond (eqb n 0) (import_source text o.import_source) (runtime_source text o)

unfoldable pub judge_source : List ℕ → State → ℕ → ℕ → Judged (List ℕ)
judge_source text s n room = judge_writing text s (judge_tape (source_text text s.settings.options n) room)

unfoldable pub judge_settings : List ℕ → State → ℕ → Judged (List ℕ)
judge_settings text s room = judge_writing text s (judge_tape (settings_bytes s.settings) room)
