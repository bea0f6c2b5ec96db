-- These definitions serve only the contracts of private functions: a reader of the promises can pass over them.
-- A block that passed the checks of a sheet. Assumes nothing.
use Rattle.std.specs.Prelude.{◌≡◌, false, List, ℕ, ◌≤◌, length}
use Rattle.layout.specs.Layout.{volume}
use Rattle.refusals.specs.Conditions.{bad_length}

-- a block that a sheet may have, for which the word buffer has room
pub record OnSheet (ds words : List ℕ) : Type 0 where
  pub lengths : bad_length ds ≡ false
  pub few : volume ds ≤ 1024
  pub enough : volume ds ≤ length words
