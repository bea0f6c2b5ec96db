use Rattle.lists.proofs.Kit.{◌+◌, ◌-◌, ◌≤◌, min}
use Rattle.recursion.specs.PrivateTiles.{Across}
use Rattle.recursion.proofs.square.band.Given as goal

abbrev pub invariant-loop-j : goal.invariant-loop-j
invariant-loop-j l = (l.i + 16 ≤ l.j) × Across l.n l.i (min (l.i + 16) l.n) 0 (min l.j l.n) l.fn.s l.s

abbrev pub decreases-loop-j : goal.decreases-loop-j
decreases-loop-j l = l.n - l.j
