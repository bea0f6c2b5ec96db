-- These definitions serve only the contracts of private functions: a reader of the promises can pass over them.
-- Tiles of a square block and their exchange across the diagonal. Assumes nothing: these are definitions.
use Rattle.std.specs.Prelude.{◌≡◌, List, ℕ, ◌+◌, ◌*◌, ◌-◌, ◌<◌, ◌≤◌, min, length, get_or}
use Rattle.recursion.specs.declared.tile.Tile.{Tile}

-- the tile at a row and a column of a block, as far as the block goes
pub record TileAt (side row column : ℕ) (tile : Tile) : Type 0 where
  pub side_is : tile.side ≡ side
  pub row_is : tile.row ≡ row
  pub column_is : tile.column ≡ column
  pub height_is : tile.height ≡ min 16 (side - row)
  pub width_is : tile.width ≡ min 16 (side - column)

-- a tile and the one on the other side of the diagonal
pub record Mirrors (tile other : Tile) : Type 0 where
  pub side_is : other.side ≡ tile.side
  pub row_is : other.row ≡ tile.column
  pub column_is : other.column ≡ tile.row
  pub height_is : other.height ≡ tile.width
  pub width_is : other.width ≡ tile.height

-- the tile of h rows and w columns at row i and column j stands in an array, its rows 16 words apart
pub record Lifted (n i j h w : ℕ) (xs tile : List ℕ) : Type 0 where
  pub placed : (a b : ℕ) → i ≤ a → a < i + h → j ≤ b → b < j + w → get_or tile ((a - i) * 16 + (b - j)) 0 ≡ get_or xs (a * n + b) 0

-- h rows and w columns at row i and column j hold the words of an array, turned; every other word stands
pub record Stored (n i j h w : ℕ) (tile xs ys : List ℕ) : Type 0 where
  pub same : length ys ≡ length xs
  pub placed : (a b : ℕ) → i ≤ a → a < i + h → j ≤ b → b < j + w → get_or ys (a * n + b) 0 ≡ get_or tile ((b - j) * 16 + (a - i)) 0
  pub others : (a b : ℕ) → b < n → (i ≤ a → a < i + h → j ≤ b → b < j + w → ⊥) → get_or ys (a * n + b) 0 ≡ get_or xs (a * n + b) 0

-- words a, b and b, a of an n by n block trade places, a ≤ b, where lo ≤ a < hi and from ≤ b < to; every other word stands
pub record Across (n lo hi from to : ℕ) (xs ys : List ℕ) : Type 0 where
  pub same : length ys ≡ length xs
  pub traded : (a b : ℕ) → a ≤ b → lo ≤ a → a < hi → from ≤ b → b < to → (get_or ys (a * n + b) 0 ≡ get_or xs (b * n + a) 0) × (get_or ys (b * n + a) 0 ≡ get_or xs (a * n + b) 0)
  pub stands : (a b : ℕ) → a ≤ b → b < n → (lo ≤ a → a < hi → from ≤ b → b < to → ⊥)
      → (get_or ys (a * n + b) 0 ≡ get_or xs (a * n + b) 0) × (get_or ys (b * n + a) 0 ≡ get_or xs (b * n + a) 0)
