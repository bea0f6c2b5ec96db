-- `gcd` meets its contract: each turn of the loop keeps the greatest common divisor, and the remainder falls.
use Rattle.lists.proofs.Kit.{◌≡◌}
use Rattle.flat.specs.Gcd.{gcd_of}
use Rattle.passes.proofs.gcd.gcd.Given as goal

abbrev pub invariant-loop-y : goal.invariant-loop-y
invariant-loop-y l = gcd_of l.x l.y ≡ gcd_of l.m l.n

abbrev pub decreases-loop-y : goal.decreases-loop-y
decreases-loop-y l = l.y
