-- One line of a turn by passes, in the words of documents 01 and 02, over the word in row i and column j. Assumes nothing: these are definitions.
use Rattle.std.specs.Prelude.{cond, ◌≡◌, List, ℕ, ◌+◌, ◌<◌, ◌≤◌, ltb, length}
use Rattle.flat.specs.Gcd.{gcd_of}
use Rattle.flat.specs.Passes.{word, row1, column2, row3}

-- in column j, row i receives the word of row `source i`, and every other word stands
pub record ColumnMoved (m n j : ℕ) (source : ℕ → ℕ) (xs ys : List ℕ) : Type 0 where
  pub same : length ys ≡ length xs
  pub receives : (i : ℕ) → i < m → word n ys i j ≡ word n xs (source i) j
  pub stands : (i k : ℕ) → i < m → k < n → (k ≡ j → ⊥) → word n ys i k ≡ word n xs i k

-- in row i, the word of column j goes to column `target j`, and every other word stands
pub record RowMoved (m n i : ℕ) (target : ℕ → ℕ) (xs ys : List ℕ) : Type 0 where
  pub same : length ys ≡ length xs
  pub goes : (j : ℕ) → j < n → word n ys i (target j) ≡ word n xs i j
  pub stands : (k j : ℕ) → k < m → j < n → (k ≡ i → ⊥) → word n ys k j ≡ word n xs k j

-- how many lines pass 1 has: its n columns where the sides share a factor, none otherwise
abbrev pub first_lines : ℕ → ℕ → ℕ
first_lines m n = cond (ltb 1 (gcd_of m n)) n 0

-- the line that the lines done name, if one is left, has moved as its pass says, and every other word stands: the columns of pass 1 come first,
-- then the m rows of pass 2, then the n columns of pass 3, each pass's lines rising; where none is left, every word stands
pub record LineTicked (m n done : ℕ) (xs ys : List ℕ) : Type 0 where
  pub pass_1 : done < first_lines m n → ColumnMoved m n done (λ i. row1 m n i done) xs ys
  pub pass_2 : (i : ℕ) → i < m → done ≡ first_lines m n + i → RowMoved m n i (λ j. column2 m n i j) xs ys
  pub pass_3 : (j : ℕ) → j < n → done ≡ first_lines m n + m + j → ColumnMoved m n j (λ i. row3 m n i j) xs ys
  pub none_left : first_lines m n + m + n ≤ done → ys ≡ xs
