-- These definitions serve only the contracts of private functions: a reader of the promises can pass over them.
-- The two ways of a conversion. Assumes nothing: these are definitions.
use Rattle.std.specs.Prelude.{List, ℕ}
use Rattle.refusals.specs.Promise.{Rearranged}
use Rattle.tiles.specs.Tiles.{Tiled}
use Rattle.tiles.specs.Promises.{band_need, tile_checks}
use Rattle.tiles.specs.declared.bands.Tiling.{Tiling}
use Rattle.tiles.specs.declared.Way.{Way}
use Rattle.tiles.specs.declared.Way.TheVariants.{Into, OutOf}

-- a block into tiles of r by s words, or out of them: tiles as wide as the block are its rows
abbrev pub tiling_of : Way → ℕ → ℕ → ℕ → ℕ → Tiling
tiling_of Into m n r s = record { rows = m; columns = n; height = r; from = n; to = s }
tiling_of OutOf m n r s = record { rows = m; columns = n; height = r; from = s; to = n }

-- the buffer holds the block's tiles, or the block of which it held the tiles
abbrev pub WayTiled : Way → ℕ → ℕ → ℕ → ℕ → List ℕ → List ℕ → Type 0
WayTiled Into m n r s buffer after = Tiled m n r s buffer after
WayTiled OutOf m n r s buffer after = Tiled m n r s after buffer

-- what a conversion promises: by its way, the promise of one of the two
abbrev pub WayPromise : Way → ℕ → ℕ → ℕ → ℕ → List ℕ → List ℕ → ℕ → List ℕ → List ℕ → Type 0
WayPromise way m n r s buffer scratch =
    Rearranged (tile_checks m n r s buffer scratch) (band_need n r) (λ after. WayTiled way m n r s buffer after) buffer scratch
