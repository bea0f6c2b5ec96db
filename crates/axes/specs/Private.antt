-- These definitions serve only the contracts of private functions: a reader of the promises can pass over them.
use Rattle.std.specs.Prelude.{◌≡◌, List, ℕ, ◌+◌, ◌<◌, ◌≤◌, length}
use Rattle.orders.specs.Needs.{swap_need}
use Rattle.refusals.specs.FirstOf.{first_of}
use Rattle.refusals.specs.Calls.{block_checks}

-- a number of axes that has tables
abbrev pub FourOrFive : ℕ → Type 0
FourOrFive r = (4 ≤ r) × (r ≤ 5)

-- one swap: the axes have these places, the block passes its checks, and scratch has as many words as the longer of the two axes
pub record SwapAccepted (k : ℕ) (ds buffer scratch : List ℕ) : Type 0 where
  pub place : k + 1 < length ds
  pub block : first_of (block_checks ds buffer) ≡ 0
  pub room : swap_need k ds ≤ length scratch
