-- `compare` meets its contract. The loop's invariant: the pairs so far agree, and what follows them decides.
use Rattle.cycle_lists.proofs.Comparing.{Comparing}
use Rattle.cycle_lists.proofs.compare.Given as goal

abbrev pub invariant-loop-start : goal.invariant-loop-start
invariant-loop-start l = Comparing l.turn.m l.turn.n l.list l.rest l.place l.start
