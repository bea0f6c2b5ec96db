-- `Turn::follow` meets its contract. The loop's invariant: what is left to carry leaves what the whole cycle leaves.
use Rattle.cycle_lists.proofs.Carrying.{Carries}
use Rattle.cycle_lists.proofs.turn.Turn.follow.Given as goal

abbrev pub invariant-loop : goal.invariant-loop
invariant-loop l = Carries l.self.m l.self.n l.count l.start l.initial.buf l.buf l.at l.word l.counter
