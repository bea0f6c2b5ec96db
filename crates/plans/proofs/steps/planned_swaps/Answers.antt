use Rattle.lists.proofs.Kit.{ap₂, ◌++◌, arith}
use Rattle.std.proofs.lemmas.Option.{MatchOption-at_some}
use Rattle.plans.proofs.PlanSteps.{next_below, is_found, plan_places, plan_next, plan_done, drop_zeros}
use Rattle.plans.proofs.steps.planned_swaps.Goals as goal

pub unwrap-requires : goal.unwrap-requires
unwrap-requires c =
    let s = c.loop-swap.invariant in
    is_found _ (omega (arith, next_below s c.requires.found (omega (arith, plan_places s)), s.long)) c.first_back.ensures

pub relabel-requires : goal.relabel-requires
relabel-requires c = omega (arith, (MatchOption-at_some _ _ _ c.unwrap.ensures c.first_back.ensures).0, c.loop-swap.invariant.long, c.requires.few.0)

pub loop-swap-preserved : goal.loop-swap-preserved
loop-swap-preserved c =
    plan_next c.loop-swap.invariant (omega (arith, plan_places c.loop-swap.invariant)) (MatchOption-at_some _ _ _ c.unwrap.ensures c.first_back.ensures).1 c.relabel.ensures

pub returns : goal.returns
returns c = ap₂ ◌++◌ (plan_done c.loop-swap.invariant (omega (arith, plan_places c.loop-swap.invariant))) (drop_zeros c.args.n 10)
