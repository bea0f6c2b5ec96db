-- These definitions serve only the contracts of private functions: a reader of the promises can pass over them.
-- What the functions that work on a lent slice ask and leave. Assumes nothing: these are definitions.
use Rattle.std.specs.Prelude.{◌≡◌, List, ◌++◌, ℕ, ◌+◌, ◌*◌, ◌<◌, length, take, drop}

-- xs with its first w words and the w words from k on exchanged
unfoldable pub traded : ℕ → ℕ → List ℕ → List ℕ
traded k w xs = take w (drop k xs) ++ (drop w (take k xs) ++ (take w xs ++ drop (k + w) xs))

-- xs rotated left by k
unfoldable pub rotated : ℕ → List ℕ → List ℕ
rotated k xs = drop k xs ++ take k xs

-- the words are n runs of p words and n runs of q words, and n is not 0
pub record Runs (n p q : ℕ) (xs : List ℕ) : Type 0 where
  pub some : 0 < n
  pub fill : length xs ≡ n * (p + q)

-- the words are a block of m rows and n columns, and neither is 0
pub record Block (m n : ℕ) (xs : List ℕ) : Type 0 where
  pub rows : 0 < m
  pub columns : 0 < n
  pub fill : length xs ≡ m * n
