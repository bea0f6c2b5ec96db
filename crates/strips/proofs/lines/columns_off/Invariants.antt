use Rattle.lists.proofs.Kit.{◌-◌, ◌≤◌}
use Rattle.strips.specs.PrivateSteps.{Widened}
use Rattle.strips.proofs.lines.columns_off.Given as goal

abbrev pub invariant-loop-p : goal.invariant-loop-p
invariant-loop-p l = (l.start ≤ l.p) × (l.p ≤ l.end) × Widened l.n l.p (l.end - l.p) l.buf l.initial.buf

abbrev pub decreases-loop-p : goal.decreases-loop-p
decreases-loop-p l = l.p
