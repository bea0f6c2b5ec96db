-- `plans::plan_of` meets its contract: the swaps computed are the plan's, as many as there are falling pairs.
use Rattle.orders.specs.Plans.{plan_of}
use Rattle.plans.proofs.Given.{as_planned}
use Rattle.plans.proofs.plan_of.Goals as goal

pub returns : goal.returns
returns c = as_planned _ c.falling_pairs-count.ensures c.planned_swaps-places.ensures

pub planned_swaps-places-requires-clause-found : goal.planned_swaps-places-requires-clause-found
unfolding plan_of
planned_swaps-places-requires-clause-found c = rw (c.falling_pairs-count.ensures) c.requires.found
