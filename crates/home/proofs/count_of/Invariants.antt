-- `count_of` meets its contract. The loop's invariant: it holds the power of its count and has not passed the first that leaves 1; the
-- measure is what is left up to that one.
use Rattle.lists.proofs.Kit.{◌-◌}
use Rattle.home.proofs.Powers.{fewest, Passing}
use Rattle.home.proofs.count_of.Given as goal

abbrev pub invariant-loop-power : goal.invariant-loop-power
invariant-loop-power l = Passing l.m l.n l.power l.count

abbrev pub decreases-loop-power : goal.decreases-loop-power
decreases-loop-power l = fewest l.m l.n - l.count
