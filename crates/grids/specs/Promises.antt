-- What the turn of a block of chunks promises. Assumes nothing: these are definitions.
use Rattle.std.specs.Prelude.{◌≡◌, Bool, true, false, List, ℕ, ◌*◌, ◌<◌, ◌≤◌, length, replicate}
use Rattle.grids.specs.Grids.{GridTurned}

-- a block of m rows and n columns of chunks can be turned: its sides are 1 to 4,096, its places at most 1,048,576, its chunks not empty, it lies
-- in the buffer, and each two of its places have a mark
pub record Turnable (m n chunk : ℕ) (buffer marks : List ℕ) : Type 0 where
  pub some_rows : 0 < m
  pub some_columns : 0 < n
  pub far_rows : m ≤ 4096
  pub far_columns : n ≤ 4096
  pub few : m * n ≤ 1048576
  pub some_words : 0 < chunk
  pub inside : m * n * chunk ≤ length buffer
  pub marked : m * n ≤ 64 * length marks

-- a block that can be turned is turned, and the marks are zero then; else nothing has changed
pub record GridPromise (m n chunk : ℕ) (buffer marks : List ℕ) (answer : Bool) (after marked : List ℕ) : Type 0 where
  pub turned : Turnable m n chunk buffer marks → (answer ≡ true) × GridTurned m n chunk buffer after × (marked ≡ replicate (length marks) 0)
  pub kept : (Turnable m n chunk buffer marks → ⊥) → (answer ≡ false) × (after ≡ buffer) × (marked ≡ marks)
