-- Words of a buffer that have changed together. Assumes nothing: these are definitions.
use Rattle.std.specs.Prelude.{◌≡◌, List, ◌⊎◌, ℕ, ◌+◌, ◌<◌, ◌≤◌, length, get_or}

-- count words from an offset on hold these values; words outside that stretch stand
pub record Stretch (to count : ℕ) (value : ℕ → ℕ) (xs ys : List ℕ) : Type 0 where
  pub same : length ys ≡ length xs
  pub holds : (p : ℕ) → p < count → get_or ys (to + p) 0 ≡ value p
  pub below : (q : ℕ) → q < to → get_or ys q 0 ≡ get_or xs q 0
  pub above : (q : ℕ) → to + count ≤ q → get_or ys q 0 ≡ get_or xs q 0

-- words past the first so many stand
pub record Past (count : ℕ) (before after : List ℕ) : Type 0 where
  pub same : length after ≡ length before
  pub rest : (k : ℕ) → count ≤ k → get_or after k 0 ≡ get_or before k 0

-- a word lies outside the count words from an offset on
abbrev pub Outside : ℕ → ℕ → ℕ → Type 0
Outside at count q = (q < at) ⊎ (at + count ≤ q)

-- count words from x on and as many from y on have traded places; words outside both stand
pub record Traded (x y count : ℕ) (xs ys : List ℕ) : Type 0 where
  pub same : length ys ≡ length xs
  pub there : (u : ℕ) → u < count → get_or ys (x + u) 0 ≡ get_or xs (y + u) 0
  pub back : (u : ℕ) → u < count → get_or ys (y + u) 0 ≡ get_or xs (x + u) 0
  pub others : (q : ℕ) → Outside x count q → Outside y count q → get_or ys q 0 ≡ get_or xs q 0
