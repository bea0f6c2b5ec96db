use Rattle.recursion.specs.PrivateTiles.{Across}
use Rattle.recursion.proofs.square.by_words.Given as goal

abbrev pub invariant-loop-i : goal.invariant-loop-i
invariant-loop-i l = Across l.n 0 l.i 0 l.n l.initial.s l.s
