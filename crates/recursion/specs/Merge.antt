-- Runs of words, merged and split. Assumes nothing: these are definitions.
use Rattle.std.specs.Prelude.{◌≡◌, List, ℕ, ◌+◌, ◌*◌, ◌<◌, length, get_or}

-- ys is xs merged: n runs of p words followed by n runs of q words become p, q, p, q and so on;
-- xs is ys split
pub record Merged (n p q : ℕ) (xs ys : List ℕ) : Type 0 where
  pub same : length ys ≡ length xs
  pub first : (j i : ℕ) → j < n → i < p → get_or ys (j * (p + q) + i) 0 ≡ get_or xs (j * p + i) 0
  pub second : (j i : ℕ) → j < n → i < q → get_or ys (j * (p + q) + (p + i)) 0 ≡ get_or xs (n * p + j * q + i) 0
