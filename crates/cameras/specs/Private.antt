-- These definitions serve only the contracts of private functions: a reader of the promises can pass over them.
use Rattle.std.specs.Prelude.{◌≡◌, cond, List, ℕ, suc, ◌+◌, ◌*◌, ◌<◌, ◌≤◌, ltb, length, get_or}
use Rattle.cameras.specs.Columns.{past}
use Rattle.cameras.specs.declared.rows.Runs.{Runs}

-- how many words of column k stand before place (i, j) of the block without it
abbrev pub gaps : ℕ → ℕ → ℕ → ℕ
gaps k i j = cond (ltb j k) i (suc i)

-- the runs from r on, and the last row, have opened; what stands before column k of row r without the column stands
pub record OpenedFrom (r frames n k : ℕ) (column xs ys : List ℕ) : Type 0 where
  pub same : length ys ≡ length xs
  pub opened : (i j : ℕ) → i < frames → j < n → r < gaps k i j → get_or ys (i * suc n + past k j) 0 ≡ get_or xs (i * n + j) 0
  pub new : (i : ℕ) → r ≤ i → i < frames → get_or ys (i * suc n + k) 0 ≡ get_or column i 0
  pub below : (q : ℕ) → q < r * n + k → get_or ys q 0 ≡ get_or xs q 0
  pub tail : (q : ℕ) → frames * suc n ≤ q → get_or ys q 0 ≡ get_or xs q 0

-- runs that open: the last run of them ends in the buffer, and what is taken along with a run neither starts before the buffer nor is still to be read
pub record RunsOpen (t : Runs) (column buf : List ℕ) : Type 0 where
  pub order : t.low ≤ t.high
  pub all : t.gap.n ≤ t.wide
  pub words : t.high < length column
  pub inside : t.high * suc t.gap.n + t.gap.k ≤ length buf
  pub room : t.low < t.high → (t.wide ≤ t.gap.n + t.low + 1) × (t.wide ≤ t.gap.n + t.low + t.gap.k)

-- if the runs from high on had opened, and the last row, then those from low on have
abbrev pub RunsOpened : ℕ → ℕ → ℕ → ℕ → List ℕ → List ℕ → List ℕ → Type 0
RunsOpened low high n k column ys zs =
    (frames : ℕ) → (xs : List ℕ) → high < frames → OpenedFrom high frames n k column xs ys → OpenedFrom low frames n k column xs zs

-- the runs before r have closed up; what stood from column k of row r on stands
pub record ClosedTo (r n k : ℕ) (xs ys : List ℕ) : Type 0 where
  pub same : length ys ≡ length xs
  pub closed : (i j : ℕ) → j < n → gaps k i j ≤ r → get_or ys (i * n + j) 0 ≡ get_or xs (i * suc n + past k j) 0
  pub above : (q : ℕ) → r * suc n + k ≤ q → get_or ys q 0 ≡ get_or xs q 0

-- runs that close up: the last run of them ends in the buffer, and what is taken along with a run lies in the buffer and before the next
pub record RunsClose (t : Runs) (buf : List ℕ) : Type 0 where
  pub order : t.low ≤ t.high
  pub all : t.gap.n ≤ t.wide
  pub inside : t.high * suc t.gap.n + t.gap.k ≤ length buf
  pub room : t.low < t.high → (t.wide ≤ t.gap.n + t.low + 1) × (t.high * suc t.gap.n + t.gap.k + t.wide ≤ t.gap.n + length buf)

-- if the runs before low had closed up, then those before high have
abbrev pub RunsClosed : ℕ → ℕ → ℕ → ℕ → List ℕ → List ℕ → Type 0
RunsClosed low high n k ys zs = (xs : List ℕ) → ClosedTo low n k xs ys → ClosedTo high n k xs zs

-- the rows have closed up; words past the block stand
pub record Closed (frames n k : ℕ) (xs ys : List ℕ) : Type 0 where
  pub same : length ys ≡ length xs
  pub closed : (i j : ℕ) → i < frames → j < n → get_or ys (i * n + j) 0 ≡ get_or xs (i * suc n + past k j) 0
  pub above : (q : ℕ) → frames * suc n ≤ q → get_or ys q 0 ≡ get_or xs q 0
