-- The groups of the record tape as the code has them: there are two sources, so there are at most two groups.
use Rattle.std.specs.Prelude.{◌≡◌, ℕ, ◌+◌, ◌<◌, Bool, true, ◌&&◌, List, [], ◌∷◌, ltb}
use Rattle.definitions.specs.declared.records.Import.{Import}
use Rattle.definitions.specs.declared.records.Import.TheVariants.{Named, Default, FileName}
use Rattle.definitions.specs.declared.records.Record.{Record}
use Rattle.records.specs.declared.groups.Groups.{Groups}
use Rattle.records.specs.declared.groups.Groups.TheVariants.{Empty, One, Two}

unfoldable pub sources_of : Groups → List ℕ
sources_of Empty = []
sources_of (One s) = s ∷ []
sources_of (Two s t) = s ∷ t ∷ []

-- sources are 0 and 1, and no group stands twice
unfoldable pub Apart : Groups → Type 0
Apart Empty = Unit {0}
Apart (One s) = s < 2
Apart (Two s t) = s + t ≡ 1

-- the groups of these sources
pub record Are (g : Groups) (sources : List ℕ) : Type 0 where
  pub same : sources_of g ≡ sources
  pub apart : Apart g

unfoldable pub known_source : Import → Bool
known_source (Named s n) = ltb s 2
known_source (Default s) = ltb s 2
known_source FileName = true

unfoldable pub known_sources : List Record → Bool
known_sources [] = true
known_sources (r ∷ rs) = known_source r.import && known_sources rs
