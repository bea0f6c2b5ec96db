-- These definitions serve only the contracts of private functions: a reader of the promises can pass over them.
-- Which blocks are small, which are strips, and how they are cut. Assumes nothing: these are definitions.
use Rattle.std.specs.Prelude.{List, ◌⊎◌, ℕ, ◌*◌, ◌/◌, ◌<◌, ◌≤◌, length}

-- so many rows of n words, some and no more than are left, have room together
pub record Batch (n left r : ℕ) : Type 0 where
  pub some : 0 < r
  pub few : r ≤ left
  pub room : r * n ≤ 1024

-- n runs of `end` words lie in the words; where they are longer than `start` words, a row of n words has room
pub record Waiting (n start end : ℕ) (xs : List ℕ) : Type 0 where
  pub some : 0 < n
  pub order : start ≤ end
  pub short : start < end → n ≤ 1024
  pub inside : n * end ≤ length xs

-- so many lines of x words have room in the tile
pub record Lines (x r : ℕ) : Type 0 where
  pub some : 8 ≤ r
  pub few : r ≤ 64
  pub room : r * x ≤ 512

-- so many lines of elements of g words are 32 to 64 words
pub record Thin (g r : ℕ) : Type 0 where
  pub least : 32 ≤ r * g
  pub most : r * g ≤ 64

-- a side of x lines may be cut in strips of r lines: each is a strip, and the places of their grid have marks
pub record Cut (x other g r : ℕ) : Type 0 where
  pub some : 0 < r
  pub low : r ≤ x
  pub strip : (r * g ≤ 64) ⊎ ((8 ≤ g) × (r * other ≤ 65536))
  pub marks : other * (x / r) ≤ 65536
