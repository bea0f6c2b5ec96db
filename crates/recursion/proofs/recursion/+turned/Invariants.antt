use Rattle.lists.proofs.Kit.{◌+◌}
use Rattle.recursion.proofs.recursion.+turned.Given as goal

abbrev pub decreases-turned : goal.decreases-turned
decreases-turned l = l.m + l.n
