use Rattle.lists.proofs.Kit.{◌-◌, min}
use Rattle.recursion.specs.PrivateTiles.{Across}
use Rattle.recursion.proofs.square.by_tiles.Given as goal

abbrev pub invariant-loop-i : goal.invariant-loop-i
invariant-loop-i l = Across l.n 0 (min l.i l.n) 0 l.n l.initial.s l.s

abbrev pub decreases-loop-i : goal.decreases-loop-i
decreases-loop-i l = l.n - l.i
