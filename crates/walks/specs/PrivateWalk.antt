-- These definitions serve only the contracts of private functions: a reader of the promises can pass over them.
-- A walk round a line by a constant step, modulo the line's length. Assumes nothing: these are definitions.
use Rattle.std.specs.Prelude.{ℕ, ◌+◌, ◌*◌, ◌%◌}

-- where a walk stands after t steps
unfoldable pub walk : ℕ → ℕ → ℕ → ℕ → ℕ
walk start step modulus t = (start + t * step) % modulus
