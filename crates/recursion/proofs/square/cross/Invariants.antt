use Rattle.lists.proofs.Kit.{◌+◌}
use Rattle.recursion.specs.PrivateTiles.{Across}
use Rattle.recursion.proofs.square.cross.Given as goal

abbrev pub invariant-loop-j : goal.invariant-loop-j
invariant-loop-j l = Across l.n l.i (l.i + 1) 0 l.j l.initial.s l.s
