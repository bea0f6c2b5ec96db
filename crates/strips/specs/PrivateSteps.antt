-- These definitions serve only the contracts of private functions: a reader of the promises can pass over them.
-- The steps of a swap by strips, each a relation of a buffer before and after; an element has g words. Assumes nothing: these are definitions.
use Rattle.std.specs.Prelude.{◌≡◌, List, ℕ, ◌+◌, ◌*◌, ◌<◌, ◌≤◌, length, get_or}
use Rattle.layout.specs.Layout.{Laid}
use Rattle.refusals.specs.Calls.{swap_block}
use Rattle.refusals.specs.Promise.{middle}

-- so many blocks one after the other, each of m rows and n columns of elements, are turned where they lie
abbrev pub BlocksTurned : ℕ → ℕ → ℕ → ℕ → List ℕ → List ℕ → Type 0
BlocksTurned y m n g xs ys = Laid (swap_block y m n g) middle xs ys

-- ys is xs widened: n runs of p words and then q rows of n words become n runs of p + q words, run j going on with word j of each row;
-- words past them stay as they are; xs is ys narrowed
pub record Widened (n p q : ℕ) (xs ys : List ℕ) : Type 0 where
  pub same : length ys ≡ length xs
  pub runs : (j i : ℕ) → j < n → i < p → get_or ys (j * (p + q) + i) 0 ≡ get_or xs (j * p + i) 0
  pub rows : (j i : ℕ) → j < n → i < q → get_or ys (j * (p + q) + (p + i)) 0 ≡ get_or xs (n * p + (i * n + j)) 0
  pub tail : (k : ℕ) → n * (p + q) ≤ k → get_or ys k 0 ≡ get_or xs k 0
