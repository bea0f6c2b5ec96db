-- What the flat turn by recursion promises. Assumes nothing: these are definitions.
use Rattle.std.specs.Prelude.{List, ℕ}
use Rattle.refusals.specs.Calls.{recursion_checks}
use Rattle.refusals.specs.Promise.{Changed}
use Rattle.flat.specs.Turn.{sides, Turn}

-- the number is that of the first check that holds, or 0; where it is 0 the block is turned; where it is not, the buffer is as it was
abbrev pub RecursionPromise : ℕ → ℕ → List ℕ → ℕ → List ℕ → Type 0
RecursionPromise m n before = Changed (recursion_checks (sides m n) before) (Turn m n before) before
