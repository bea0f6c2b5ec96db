-- `open_range` meets its contract. The loop keeps that the runs passed have opened; what each takes along lies where no word is still to be read.
use Rattle.cameras.proofs.Ranges.{Opening}
use Rattle.cameras.proofs.rows.Runs.open.Given as goal

abbrev pub invariant-loop-r : goal.invariant-loop-r
invariant-loop-r l = Opening l.self.low l.self.high l.self.gap.n l.self.gap.k l.r l.column l.initial.buf l.buf
