-- What the conversions of a block to tiles and of tiles to a block promise. Assumes nothing: these are definitions.
use Rattle.std.specs.Prelude.{Bool, ◌||◌, List, [], ◌∷◌, ◌++◌, ℕ, ◌*◌, eqb, ltb}
use Rattle.refusals.specs.FirstOf.{Check, check}
use Rattle.refusals.specs.Conditions.{short_scratch}
use Rattle.refusals.specs.Calls.{size_checks, exact_checks}
use Rattle.refusals.specs.Promise.{Rearranged}
use Rattle.flat.specs.Turn.{sides}
use Rattle.tiles.specs.Tiles.{Tiled}

-- a side that no tile may have: 0 or above 64
abbrev pub no_side : ℕ → Bool
no_side d = eqb d 0 || ltb 64 d

-- 15: a tile side is 0 or above 64
abbrev pub bad_tile : ℕ → ℕ → Bool
bad_tile r s = no_side r || no_side s

-- how many words of scratch tiles of r rows of a block with n columns need: r·n, also where the block has fewer rows or nothing moves
abbrev pub band_need : ℕ → ℕ → ℕ
band_need n r = r * n

-- both conversions: 1, 2, 15, 3, 13, 4
abbrev pub tile_checks : ℕ → ℕ → ℕ → ℕ → List ℕ → List ℕ → List Check
tile_checks m n r s buffer scratch =
    size_checks (sides m n)
    ++ (check 15 (bad_tile r s) ∷ (exact_checks (sides m n) buffer ++ (check 4 (short_scratch (band_need n r) scratch) ∷ [])))

-- block to tiles: the buffer holds the block's tiles
abbrev pub ToTilesPromise : ℕ → ℕ → ℕ → ℕ → List ℕ → List ℕ → ℕ → List ℕ → List ℕ → Type 0
ToTilesPromise m n r s buffer scratch =
    Rearranged (tile_checks m n r s buffer scratch) (band_need n r) (λ after. Tiled m n r s buffer after) buffer scratch

-- tiles to block: the buffer holds the block of which it held the tiles
abbrev pub FromTilesPromise : ℕ → ℕ → ℕ → ℕ → List ℕ → List ℕ → ℕ → List ℕ → List ℕ → Type 0
FromTilesPromise m n r s buffer scratch =
    Rearranged (tile_checks m n r s buffer scratch) (band_need n r) (λ after. Tiled m n r s after buffer) buffer scratch
