use Rattle.lists.proofs.Kit.{refl, arith}
use Rattle.cycles.proofs.Orbit.{period_le}
use Rattle.cycles.proofs.Takes.{takes_permutes}
use Rattle.cycles.proofs.Follow.{low, starts, goes_on, below_not_least, home_least, home_whole}
use Rattle.cycle_lists.proofs.turn.Turn.length_from.Goals as goal

pub loop-at-init : goal.loop-at-init
loop-at-init c = starts (takes_permutes c.args.self.m c.args.self.n) c.args.least c.requires c.step-at.ensures

pub step-at-requires-in-loop-at : goal.step-at-requires-in-loop-at
step-at-requires-in-loop-at c = low (takes_permutes c.args.self.m c.args.self.n) c.args.least c.requires c.loop-at.invariant

pub overflow_add-count : goal.overflow_add-count
overflow_add-count c =
    omega (arith, c.loop-at.invariant.before, c.args.self.small.few, period_le (takes_permutes c.args.self.m c.args.self.n) c.args.least c.requires)

pub loop-at-smaller : goal.loop-at-smaller
loop-at-smaller c =
    omega (arith, (goes_on (takes_permutes c.args.self.m c.args.self.n) c.args.least c.requires c.loop-at.invariant (search) refl).before)

pub loop-at-preserved : goal.loop-at-preserved
loop-at-preserved c =
    goes_on (takes_permutes c.args.self.m c.args.self.n) c.args.least c.requires c.loop-at.invariant (search) c.step-at-in-loop-at.ensures

pub returns-then-at-least : goal.returns-then-at-least
returns-then-at-least c =
    below_not_least (takes_permutes c.args.self.m c.args.self.n) c.args.least c.requires c.loop-at.invariant (search)

pub returns : goal.returns
returns c =
    let p = takes_permutes c.args.self.m c.args.self.n in
    (home_least p c.args.least c.requires c.loop-at.invariant (omega arith), home_whole p c.args.least c.requires c.loop-at.invariant (omega arith))
