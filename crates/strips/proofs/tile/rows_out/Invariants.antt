use Rattle.strips.specs.PrivateMoves.{RowsOut}
use Rattle.strips.proofs.tile.rows_out.Given as goal

abbrev pub invariant-loop-i : goal.invariant-loop-i
invariant-loop-i l = RowsOut l.i l.m l.n l.tile l.initial.buf l.buf
