-- These definitions serve only the contracts of private functions: a reader of the promises can pass over them.
-- A walk over the sources of a row in pass 2. c is the greatest common divisor of the sides, a = m / c, b = n / c; column k = g·b + t
-- is column t of group g. Assumes nothing: these are definitions.
use Rattle.std.specs.Prelude.{◌≡◌, ℕ, ◌+◌, ◌*◌, ◌/◌, ◌%◌, ◌<◌}
use Rattle.flat.specs.Gcd.{gcd_of}
use Rattle.flat.specs.Passes.{column_group}

-- x is the inverse of a modulo b: x·a leaves 1
pub record Inverse (a b x : ℕ) : Type 0 where
  pub small : x < b
  pub one : x * a % b ≡ 1 % b

-- the state (g, s, t) of a walk over the sources of row i stands at j: i + g + s·m is j modulo n, and t is s, or s + 1 where i + g has passed m
pub record StateAt (m n i j g s t : ℕ) : Type 0 where
  pub group : g < gcd_of m n
  pub lap : s < column_group m n
  pub place : (i + g + s * m) % n ≡ j % n
  pub column : t ≡ (s + (i + g) / m) % column_group m n
