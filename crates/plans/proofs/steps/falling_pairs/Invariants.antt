-- `plans::steps::falling_pairs` meets its contract. The loop's invariant: the pairs that begin at a place passed are counted, those of the rest are not.
use Rattle.lists.proofs.Kit.{◌≡◌, ◌+◌, ◌≤◌, length}
use Rattle.orders.specs.Plans.{falling}
use Rattle.plans.proofs.steps.falling_pairs.Given as goal

abbrev pub invariant-loop-axis : goal.invariant-loop-axis
invariant-loop-axis l = (length l.rest ≤ length l.axes) × (l.count + falling l.rest ≡ falling l.axes)

abbrev pub decreases-loop-axis : goal.decreases-loop-axis
decreases-loop-axis l = length l.rest
