-- `inverse` meets its contract: v times a leaves y modulo b and u times a leaves x, and at the end y is the greatest common divisor, 1.
use Rattle.lists.proofs.Kit.{◌≡◌, ◌*◌, ◌%◌, ◌<◌, ◌≤◌}
use Rattle.flat.specs.Gcd.{gcd_of}
use Rattle.passes.proofs.gcd.inverse.Given as goal

abbrev pub invariant-loop-x : goal.invariant-loop-x
invariant-loop-x l =
    (gcd_of l.y l.x ≡ 1) × (l.y ≤ l.b) × (l.x ≤ l.b) × (l.v < l.b) × (l.u < l.b) × (l.v * l.a % l.b ≡ l.y % l.b) × (l.u * l.a % l.b ≡ l.x % l.b)

abbrev pub decreases-loop-x : goal.decreases-loop-x
decreases-loop-x l = l.x
