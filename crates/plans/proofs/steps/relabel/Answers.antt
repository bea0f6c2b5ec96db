use Rattle.lists.proofs.Kit.{arith}
use Rattle.plans.proofs.PlanSteps.{label_next, all_labelled}
use Rattle.plans.proofs.steps.relabel.Goals as goal

pub loop-axis-preserved : goal.loop-axis-preserved
loop-axis-preserved c = label_next c.loop-axis.invariant (omega arith) c.exchanged_label.ensures

pub returns : goal.returns
returns c = all_labelled c.loop-axis.invariant (omega arith)
