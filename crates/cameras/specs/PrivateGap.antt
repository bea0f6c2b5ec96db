-- These definitions serve only the contracts of private functions: a reader of the promises can pass over them.
-- Where a column stands in a block. Assumes nothing: these are definitions.
use Rattle.std.specs.Prelude.{ℕ, ◌<◌, ◌≤◌}

-- a column before column k of n columns, at least one, or behind the last of them
pub record Placed (n k : ℕ) : Type 0 where
  pub some : 0 < n
  pub low : k ≤ n
  pub thin : n ≤ 4096
