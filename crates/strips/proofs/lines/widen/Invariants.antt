use Rattle.strips.proofs.Widening.{WidenedFrom}
use Rattle.strips.proofs.lines.widen.Given as goal

abbrev pub invariant-loop-j : goal.invariant-loop-j
invariant-loop-j l = WidenedFrom l.j l.n l.p l.q l.rows l.initial.buf l.buf
