-- `rotation::rotate` meets its contract. The invariant: what the slice is to become is the words that stand already, and the rest rotated.
-- The measure is what is left of the slice.
use Rattle.lists.proofs.Kit.{◌≡◌, ◌++◌, ◌+◌, ◌-◌, ◌≤◌, ◌<◌, length, take, drop}
use Rattle.recursion.specs.Private.{rotated}
use Rattle.recursion.proofs.rotation.rotate.Given as goal

abbrev pub invariant-loop-at : goal.invariant-loop-at
invariant-loop-at l =
    (l.n ≡ length l.initial.s) × (length l.s ≡ length l.initial.s) × (0 < l.left) × (l.at + l.left ≤ l.n) × (rotated l.k l.initial.s ≡ take l.at l.s ++ rotated l.left (drop l.at l.s))

abbrev pub decreases-loop-at : goal.decreases-loop-at
decreases-loop-at l = l.n - l.at
