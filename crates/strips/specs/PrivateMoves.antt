-- These definitions serve only the contracts of private functions: a reader of the promises can pass over them.
-- Words that were moved, step by step. Assumes nothing: these are definitions.
use Rattle.std.specs.Prelude.{◌≡◌, List, ℕ, ◌+◌, ◌*◌, ◌<◌, ◌≤◌, length, get_or}

-- words `apart` from one another, from an offset on, hold these values; every other word stands
pub record Scattered (to apart count : ℕ) (value : ℕ → ℕ) (xs ys : List ℕ) : Type 0 where
  pub same : length ys ≡ length xs
  pub holds : (u : ℕ) → u < count → get_or ys (to + u * apart) 0 ≡ value u
  pub others : (k : ℕ) → ((u : ℕ) → u < count → k ≡ to + u * apart → ⊥) → get_or ys k 0 ≡ get_or xs k 0

-- the first e of the m rows of a tile are written as columns; words past the block stand
pub record RowsOut (e m n : ℕ) (tile xs ys : List ℕ) : Type 0 where
  pub same : length ys ≡ length xs
  pub placed : (i j : ℕ) → i < e → j < n → get_or ys (j * m + i) 0 ≡ get_or tile (i * n + j) 0
  pub tail : (k : ℕ) → m * n ≤ k → get_or ys k 0 ≡ get_or xs k 0

-- the first e rows of n elements of g words stand in the tile, each of them apart: first word 0 of its elements, then word 1
pub record Lifted (e n g : ℕ) (xs before tile : List ℕ) : Type 0 where
  pub same : length tile ≡ length before
  pub placed : (i j u : ℕ) → i < e → j < n → u < g → get_or tile ((i * g + u) * n + j) 0 ≡ get_or xs ((i * n + j) * g + u) 0

-- the first e elements of row i have traded places with those of column i; every other word stands
pub record RowCrossed (n g i e : ℕ) (xs ys : List ℕ) : Type 0 where
  pub same : length ys ≡ length xs
  pub row : (j u : ℕ) → j < e → u < g → get_or ys ((i * n + j) * g + u) 0 ≡ get_or xs ((j * n + i) * g + u) 0
  pub column : (j u : ℕ) → j < e → u < g → get_or ys ((j * n + i) * g + u) 0 ≡ get_or xs ((i * n + j) * g + u) 0
  pub others : (a b u : ℕ) → a < n → b < n → u < g → (a ≡ i → e ≤ b) → (b ≡ i → e ≤ a) → get_or ys ((a * n + b) * g + u) 0 ≡ get_or xs ((a * n + b) * g + u) 0
  pub tail : (k : ℕ) → n * n * g ≤ k → get_or ys k 0 ≡ get_or xs k 0
