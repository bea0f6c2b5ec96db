-- `Turn::length_from` meets its contract. The loop's invariant: it follows the cycle, above its start so far; the measure is what is left of
-- the period.
use Rattle.lists.proofs.Kit.{◌*◌, ◌-◌}
use Rattle.cycles.specs.Orbit.{period}
use Rattle.cycles.specs.Cycles.{takes}
use Rattle.cycles.proofs.Follow.{Followed}
use Rattle.cycle_lists.proofs.turn.Turn.length_from.Given as goal

abbrev pub invariant-loop-at : goal.invariant-loop-at
invariant-loop-at l = Followed (takes l.self.m l.self.n) (l.self.m * l.self.n) l.least l.at l.count

abbrev pub decreases-loop-at : goal.decreases-loop-at
decreases-loop-at l = period (takes l.self.m l.self.n) (l.self.m * l.self.n) l.least - l.count
