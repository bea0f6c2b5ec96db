use Rattle.lists.proofs.Kit.{◌+◌, ◌/◌, ◌-◌, ◌<◌, ◌≤◌}
use Rattle.strips.specs.PrivateBounds.{Thin}
use Rattle.strips.proofs.large.thin.Given as goal

abbrev pub invariant-loop-k : goal.invariant-loop-k
invariant-loop-k l = ((32 + l.g - 1) / l.g ≤ l.k) × (0 < l.k) × Thin l.g l.r
