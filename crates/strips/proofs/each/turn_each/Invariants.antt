use Rattle.strips.proofs.Blocks.{TurnedTo}
use Rattle.strips.proofs.each.turn_each.Given as goal

abbrev pub invariant-loop-t : goal.invariant-loop-t
invariant-loop-t g l = TurnedTo l.fn.shape.m l.fn.shape.n l.fn.shape.g l.t l.initial.buf l.buf
