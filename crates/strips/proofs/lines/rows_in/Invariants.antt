use Rattle.lists.proofs.Kit.{◌-◌, ◌≤◌}
use Rattle.strips.specs.PrivateSteps.{Widened}
use Rattle.strips.proofs.lines.rows_in.Given as goal

abbrev pub invariant-loop-p : goal.invariant-loop-p
invariant-loop-p l = (l.start ≤ l.p) × (l.p ≤ l.end) × Widened l.n l.start (l.p - l.start) l.initial.buf l.buf

abbrev pub decreases-loop-p : goal.decreases-loop-p
decreases-loop-p l = l.end - l.p
