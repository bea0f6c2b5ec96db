-- A block as tiles, listed as document 02 tells it: tiles row by row, each stored together row by row. Assumes nothing: these are definitions.
use Rattle.std.specs.Prelude.{List, [], ◌++◌, ℕ, zero, suc, ◌+◌, ◌*◌, ◌-◌, ◌/◌, get_or}
use Rattle.lists.specs.Tab.{tab}
use Rattle.tiles.specs.Tiles.{part}

-- f 0, f 1, .., f (n - 1), one list after the other
unfoldable pub joined : ℕ → (ℕ → List ℕ) → List ℕ
joined zero f = []
joined (suc n) f = f 0 ++ joined n (λ k. f (suc k))

-- into how many parts of `step` a side is cut, the last one smaller where the step does not go up
unfoldable pub parts : ℕ → ℕ → ℕ
parts side step = (side + (step - 1)) / step

module _ (m n r s : ℕ) (xs : List ℕ) where
  -- the words of tile u of band b, row by row
  unfoldable pub tile_words : ℕ → ℕ → List ℕ
  tile_words b u = joined (part m r b) (λ x. tab (part n s u) (λ c. get_or xs ((b * r + x) * n + (u * s + c)) 0))

  -- the words of band b, tile by tile
  unfoldable pub band_words : ℕ → List ℕ
  band_words b = joined (parts n s) (tile_words b)

  -- the words of the block as tiles, band by band
  unfoldable pub tiles_of : List ℕ
  tiles_of = joined (parts m r) band_words
