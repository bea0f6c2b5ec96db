-- `close_range` meets its contract. The loop keeps that the runs passed have closed up; what each takes along lies before the next.
use Rattle.cameras.proofs.Ranges.{Closing}
use Rattle.cameras.proofs.rows.Runs.close.Given as goal

abbrev pub invariant-loop-r : goal.invariant-loop-r
invariant-loop-r l = Closing l.self.low l.self.high l.self.gap.n l.self.gap.k l.r l.initial.buf l.buf
