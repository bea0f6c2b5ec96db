-- `plans::steps::planned_swaps` meets its contract. The loop's invariant: the first swaps of the plan stand in the array, and the plan
-- of the order as it is then labelled is the rest of them.
use Rattle.lists.proofs.Kit.{length}
use Rattle.plans.proofs.PlanSteps.{PlanBegun}
use Rattle.plans.proofs.steps.planned_swaps.Given as goal

abbrev pub invariant-loop-swap : goal.invariant-loop-swap
invariant-loop-swap l = PlanBegun (length l.initial.axes) l.n l.initial.axes l.swap-items l.axes l.swap-index
