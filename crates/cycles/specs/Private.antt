-- These definitions serve only the contracts of private functions: a reader of the promises can pass over them.
-- What a step along a cycle, made without a division, asks. Assumes nothing: these are definitions.
use Rattle.std.specs.Prelude.{◌≡◌, ℕ, ◌+◌, ◌*◌, ◌/◌, ◌<◌, ◌≤◌}

-- a block of a size that is accepted
pub record Small (m n : ℕ) : Type 0 where
  pub some : 0 < m * n
  pub few : m * n ≤ 1048576

-- a rounded inverse of n, in parts of 2 to the 40
abbrev pub Reciprocal : ℕ → ℕ → Type 0
Reciprocal n inverse = inverse ≡ 1099511627776 / n + 1
