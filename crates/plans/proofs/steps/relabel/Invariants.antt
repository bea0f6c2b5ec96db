-- `plans::steps::relabel` meets its contract. The loop's invariant: the axes passed have their new labels, the others their old.
use Rattle.lists.proofs.Kit.{length}
use Rattle.plans.proofs.PlanSteps.{Labelled}
use Rattle.plans.proofs.steps.relabel.Given as goal

abbrev pub invariant-loop-axis : goal.invariant-loop-axis
invariant-loop-axis l = Labelled (length l.initial.axis-items) l.k l.initial.axis-items l.axis-items l.axis-index
