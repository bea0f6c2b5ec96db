-- The three passes of a flat turn. c is the greatest common divisor of the sides, a = m / c, b = n / c.
-- Assumes nothing: these are definitions.
use Rattle.std.specs.Prelude.{◌≡◌, List, ◌++◌, ℕ, ◌+◌, ◌*◌, ◌-◌, ◌/◌, ◌%◌, ◌<◌, ◌≤◌, length, get_or, drop}
use Rattle.lists.specs.Tab.{tab}
use Rattle.layout.specs.Layout.{place_of}
use Rattle.flat.specs.Gcd.{gcd_of}

-- the word in row i and column j of a block with n columns
abbrev pub word : ℕ → List ℕ → ℕ → ℕ → ℕ
word n xs i j = get_or xs (i * n + j) 0

-- a = m / c: how many rows make a group in pass 3
abbrev pub row_group : ℕ → ℕ → ℕ
row_group m n = m / gcd_of m n

-- b = n / c: how many columns make a group in passes 1 and 2
abbrev pub column_group : ℕ → ℕ → ℕ
column_group m n = n / gcd_of m n

-- pass 1: in column j, row i receives the word of row (i + floor(j/b)) mod m
unfoldable pub row1 : ℕ → ℕ → ℕ → ℕ → ℕ
row1 m n i j = (i + j / column_group m n) % m

-- pass 2: in row i, the word of column j goes to column ((i + floor(j/b)) mod m + j·m) mod n
unfoldable pub column2 : ℕ → ℕ → ℕ → ℕ → ℕ
column2 m n i j = ((i + j / column_group m n) % m + j * m) % n

-- pass 2, the other way round: in row i, the column that is sent to column j
unfoldable pub source2 : ℕ → ℕ → ℕ → ℕ → ℕ
source2 m n i j = place_of j (tab n (λ k. column2 m n i k))

-- pass 3: in column j, row i receives the word of row (j + i·n − floor(i/a)) mod m
unfoldable pub row3 : ℕ → ℕ → ℕ → ℕ → ℕ
row3 m n i j = (j + i * n - i / row_group m n) % m

-- pass 1 of a block: before i j and after i j are the words in row i and column j; where c = 1 every word stands
abbrev pub Pass1 : ℕ → ℕ → (ℕ → ℕ → ℕ) → (ℕ → ℕ → ℕ) → Type 0
Pass1 m n before after = (i j : ℕ) → i < m → j < n → after i j ≡ before (row1 m n i j) j

-- pass 2 of a block
abbrev pub Pass2 : ℕ → ℕ → (ℕ → ℕ → ℕ) → (ℕ → ℕ → ℕ) → Type 0
Pass2 m n before after = (i j : ℕ) → i < m → j < n → after i (column2 m n i j) ≡ before i j

-- pass 3 of a block
abbrev pub Pass3 : ℕ → ℕ → (ℕ → ℕ → ℕ) → (ℕ → ℕ → ℕ) → Type 0
Pass3 m n before after = (i j : ℕ) → i < m → j < n → after i j ≡ before (row3 m n i j) j

-- the block computed cell by cell, and what lies past it
unfoldable pub cells : ℕ → ℕ → (ℕ → ℕ → ℕ) → List ℕ → List ℕ
cells m n f xs = tab (m * n) (λ p. f (p / n) (p % n)) ++ drop (m * n) xs

-- pass 1, computed
unfoldable pub passed1 : ℕ → ℕ → List ℕ → List ℕ
passed1 m n xs = cells m n (λ i j. word n xs (row1 m n i j) j) xs

-- pass 2, computed: column j of row i has the word of the column that is sent there
unfoldable pub passed2 : ℕ → ℕ → List ℕ → List ℕ
passed2 m n xs = cells m n (λ i j. word n xs i (source2 m n i j)) xs

-- pass 3, computed
unfoldable pub passed3 : ℕ → ℕ → List ℕ → List ℕ
passed3 m n xs = cells m n (λ i j. word n xs (row3 m n i j) j) xs

-- the buffer's length and the words past the block are as they were
pub record Kept (m n : ℕ) (xs ys : List ℕ) : Type 0 where
  pub same : length ys ≡ length xs
  pub tail : (k : ℕ) → m * n ≤ k → get_or ys k 0 ≡ get_or xs k 0
