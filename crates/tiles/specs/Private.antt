-- These definitions serve only the contracts of private functions: a reader of the promises can pass over them.
-- What the functions that move tiles and bands ask and leave. Both conversions are one: from tiles of one width to tiles of another, where tiles at
-- least as wide as the block are its rows. Assumes nothing: these are definitions.
use Rattle.std.specs.Prelude.{◌≡◌, List, ◌⊎◌, ℕ, ◌+◌, ◌*◌, ◌%◌, ◌<◌, ◌≤◌, length, get_or}
use Rattle.refusals.specs.Scratch.{cleared}
use Rattle.moves.specs.Stretch.{Past}
use Rattle.tiles.specs.Tiles.{band_place, tile_place}
use Rattle.tiles.specs.declared.bands.Rows.{Rows}
use Rattle.tiles.specs.declared.bands.Band.{Band}
use Rattle.tiles.specs.declared.bands.Tiling.{Tiling}

-- column j is the first of a tile of a band of n columns, or the tile is all of the band
abbrev pub Aligned : ℕ → ℕ → ℕ → Type 0
Aligned n width j = (n ≤ width) ⊎ (j % width ≡ 0)

-- the rows of the tile that column j lies in, from j on: as far apart as they are, their words stand at their places in the band
pub record RowsAt (h n width j : ℕ) (r : Rows) : Type 0 where
  pub place : (x c : ℕ) → x < h → c < width → j + c < n → r.at + x * r.step + c ≡ band_place h n width x (j + c)

-- a band of a block: before or afterwards its tiles are at least as wide as itself
pub record BandSmall (b : Band) : Type 0 where
  pub high : 0 < b.rows
  pub before : 0 < b.from
  pub afterwards : 0 < b.to
  pub near : b.from ≤ 4096
  pub few : b.first + b.rows * b.columns ≤ 1048576
  pub whole : (b.columns ≤ b.from) ⊎ (b.columns ≤ b.to)

-- a band that lies in the buffer and for which scratch has room
pub record BandFits (b : Band) (buf scratch : List ℕ) : Type 0 where
  pub small : BandSmall b
  pub inside : b.first + b.rows * b.columns ≤ length buf
  pub room : b.rows * b.columns ≤ length scratch

-- the columns from j on, `wide` of them, lie in one tile before and in one afterwards
pub record PieceAt (b : Band) (j wide : ℕ) : Type 0 where
  pub some : 0 < wide
  pub within : j + wide ≤ b.columns
  pub before : wide ≤ b.from
  pub afterwards : wide ≤ b.to
  pub from_first : Aligned b.columns b.from j
  pub to_first : Aligned b.columns b.to j

-- the words of these rows and columns have received their new places from a source, where the band stands; words outside the band stand
pub record BandLaid (b : Band) (Done : ℕ → ℕ → Type 0) (source : ℕ → ℕ) (xs ys : List ℕ) : Type 0 where
  pub same : length ys ≡ length xs
  pub placed : (x j : ℕ) → x < b.rows → j < b.columns → Done x j
      → get_or ys (b.first + band_place b.rows b.columns b.to x j) 0 ≡ source (band_place b.rows b.columns b.from x j)
  pub below : (q : ℕ) → q < b.first → get_or ys q 0 ≡ get_or xs q 0
  pub above : (q : ℕ) → b.first + b.rows * b.columns ≤ q → get_or ys q 0 ≡ get_or xs q 0

-- the columns before j have
abbrev pub BandLaidTo : Band → ℕ → (ℕ → ℕ) → List ℕ → List ℕ → Type 0
BandLaidTo b j = BandLaid b (λ _ c. c < j)

-- if the columns before j had, then those before j + wide have
pub record PieceLaid (b : Band) (j wide : ℕ) (source : ℕ → ℕ) (ys zs : List ℕ) : Type 0 where
  pub same : length zs ≡ length ys
  pub laid : (xs : List ℕ) → BandLaidTo b j source xs ys → BandLaidTo b (j + wide) source xs zs

-- the band has moved within the buffer; scratch past its words is as it was
abbrev pub BandMoved : Band → List ℕ → List ℕ → List ℕ → List ℕ → Type 0
BandMoved b xs ys scratch held = BandLaidTo b b.columns (λ p. get_or xs (b.first + p) 0) xs ys × Past (b.rows * b.columns) scratch held

-- a block and its tiles, where the buffer is the block and scratch has room for a band
pub record Converts (t : Tiling) (buf scratch : List ℕ) : Type 0 where
  pub high : 0 < t.height
  pub low : t.height ≤ 64
  pub before : 0 < t.from
  pub afterwards : 0 < t.to
  pub near : t.from ≤ 4096
  pub whole : (t.columns ≤ t.from) ⊎ (t.columns ≤ t.to)
  pub tall : t.rows ≤ 4096
  pub few : t.rows * t.columns ≤ 1048576
  pub exact : length buf ≡ t.rows * t.columns
  pub room : t.height * t.columns ≤ length scratch

-- every word of the block has its new place
pub record Retiled (t : Tiling) (xs ys : List ℕ) : Type 0 where
  pub same : length ys ≡ length xs
  pub placed : (i j : ℕ) → i < t.rows → j < t.columns
      → get_or ys (tile_place t.rows t.columns t.height t.to i j) 0 ≡ get_or xs (tile_place t.rows t.columns t.height t.from i j) 0

-- the block has moved; scratch past a band is as it was
abbrev pub BlockMoved : Tiling → List ℕ → List ℕ → List ℕ → List ℕ → Type 0
BlockMoved t xs ys scratch held = Retiled t xs ys × Past (t.height * t.columns) scratch held

-- the block has moved, and scratch is cleared
abbrev pub Converted : Tiling → List ℕ → List ℕ → List ℕ → List ℕ → Type 0
Converted t xs ys scratch held = Retiled t xs ys × (held ≡ cleared (t.height * t.columns) scratch)
