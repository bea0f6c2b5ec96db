-- A column removed from a block, and a column added to one. Assumes nothing: these are definitions.
use Rattle.std.specs.Prelude.{◌≡◌, cond, List, ℕ, suc, ◌+◌, ◌*◌, ◌<◌, ◌≤◌, ltb, length, get_or}

-- where column j of the block without column k stands in the block with it: columns from k on are one further
abbrev pub past : ℕ → ℕ → ℕ
past k j = cond (ltb j k) j (suc j)

-- ys is xs, a block of so many frames by n + 1 cameras, without column k: the other columns close up, the freed words at the block's end
-- are zero, words past the block as it was stay
pub record Removed (frames n k : ℕ) (xs ys : List ℕ) : Type 0 where
  pub same : length ys ≡ length xs
  pub closed : (i j : ℕ) → i < frames → j < n → get_or ys (i * n + j) 0 ≡ get_or xs (i * suc n + past k j) 0
  pub freed : (p : ℕ) → frames * n ≤ p → p < frames * suc n → get_or ys p 0 ≡ 0
  pub tail : (p : ℕ) → frames * suc n ≤ p → get_or ys p 0 ≡ get_or xs p 0

-- ys is xs, a block of so many frames by n cameras, with the words of the column added at place k; words past the larger block stay
pub record Added (frames n k : ℕ) (column xs ys : List ℕ) : Type 0 where
  pub same : length ys ≡ length xs
  pub opened : (i j : ℕ) → i < frames → j < n → get_or ys (i * suc n + past k j) 0 ≡ get_or xs (i * n + j) 0
  pub new : (i : ℕ) → i < frames → get_or ys (i * suc n + k) 0 ≡ get_or column i 0
  pub tail : (p : ℕ) → frames * suc n ≤ p → get_or ys p 0 ≡ get_or xs p 0
