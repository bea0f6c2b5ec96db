use Rattle.strips.specs.PrivateMoves.{RowCrossed}
use Rattle.strips.proofs.square.cross.Given as goal

abbrev pub invariant-loop-j : goal.invariant-loop-j
invariant-loop-j l = RowCrossed l.n l.g l.i l.j l.initial.buf l.buf
