-- `Turn::follow_all` meets its contract. The loop's invariant: what is left of the list leaves what the whole list leaves.
use Rattle.cycle_lists.proofs.Carrying.{Runs}
use Rattle.cycle_lists.proofs.turn.Turn.follow_all.Given as goal

abbrev pub invariant-loop-start : goal.invariant-loop-start
invariant-loop-start l = Runs l.self.m l.self.n l.list l.initial.buf l.buf l.start-index
