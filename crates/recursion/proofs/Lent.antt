-- A buffer that passes the checks is a block.
use Rattle.lists.proofs.Kit.{◌≡◌, sym, ◌∙◌, List, [], ℕ, ◌<◌}
use Rattle.refusals.specs.FirstOf.{first_of}
use Rattle.refusals.specs.Calls.{recursion_checks}
use Rattle.refusals.proofs.Conditions.{InRange, valid}
use Rattle.refusals.proofs.Conditions.InRange.{none, more}
use Rattle.flat.specs.Turn.{sides}
use Rattle.flat.proofs.Turn.{volume_two}
use Rattle.recursion.specs.Private.{Block}

some-sides : {m n : ℕ} → InRange (sides m n) → (0 < m) × (0 < n)
some-sides (more p _ (more q _ none)) = (p, q)

-- a buffer that passes the checks is a block
pub checked_block : (m n : ℕ) (xs : List ℕ) → 0 ≡ first_of (recursion_checks (sides m n) xs) → Block m n xs
checked_block m n xs e =
    let v = (valid (sides m n) xs [] (sym e)).0 in
    let s = some-sides v.lengths in
    record { rows = s.0; columns = s.1; fill = v.exact ∙ volume_two m n }
