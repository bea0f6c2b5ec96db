-- A block of m by n words as tiles of r by s. Tiles side by side make a band: as many rows of the block as a tile is high.
-- Assumes nothing: these are definitions.
use Rattle.std.specs.Prelude.{◌≡◌, List, ℕ, ◌+◌, ◌*◌, ◌-◌, ◌/◌, ◌%◌, ◌<◌, min, length, get_or}

-- how long part k of a side is that is cut into parts of `step`: `step`, or what is left at the edge
unfoldable pub part : ℕ → ℕ → ℕ → ℕ
part side step k = min step (side - k * step)

-- where the word of row x and column j of a band stands in it, h the band's height: its tile u = j / s starts at h·u·s, the rows of the tile are as
-- long as the tile is wide
unfoldable pub band_place : ℕ → ℕ → ℕ → ℕ → ℕ → ℕ
band_place h n s x j = h * (j / s * s) + (x * part n s (j / s) + j % s)

-- where the word of row i and column j of the block stands: its band i / r starts where the band's first row starts in the block
unfoldable pub tile_place : ℕ → ℕ → ℕ → ℕ → ℕ → ℕ → ℕ
tile_place m n r s i j = i / r * r * n + band_place (part m r (i / r)) n s (i % r) j

-- ys is xs as tiles: tiles row by row, each stored together row by row, tiles at the right and lower edge smaller
pub record Tiled (m n r s : ℕ) (xs ys : List ℕ) : Type 0 where
  pub same : length ys ≡ length xs
  pub placed : (i j : ℕ) → i < m → j < n → get_or ys (tile_place m n r s i j) 0 ≡ get_or xs (i * n + j) 0
