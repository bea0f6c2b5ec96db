use Rattle.strips.proofs.Widening.{NarrowedTo}
use Rattle.strips.proofs.lines.narrow.Given as goal

abbrev pub invariant-loop-j : goal.invariant-loop-j
invariant-loop-j l = NarrowedTo l.j l.n l.p l.q l.initial.buf l.rows l.buf
