use Rattle.strips.proofs.Squares.{SquareTo}
use Rattle.strips.proofs.square.turned.Given as goal

abbrev pub invariant-loop-i : goal.invariant-loop-i
invariant-loop-i l = SquareTo l.shape.n l.shape.g l.i l.initial.buf l.buf
