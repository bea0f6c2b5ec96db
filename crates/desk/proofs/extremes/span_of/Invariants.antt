-- `span_of` meets its contract. The loop's invariant: the rest of the run takes the lower and the higher number so far to the smallest and the
-- largest.
use Rattle.lists.proofs.Kit.{◌≡◌, ◌≤◌, length, drop}
use Rattle.desk.specs.Shifts.{higher_of, lower_of, through, smallest, largest}
use Rattle.desk.proofs.extremes.span_of.Given as goal

abbrev pub invariant-loop-z : goal.invariant-loop-z
invariant-loop-z l = record {
  within : l.z-index ≤ length l.shifts;
  low_is : smallest l.shifts ≡ through lower_of l.low (drop l.z-index l.shifts);
  high_is : largest l.shifts ≡ through higher_of l.high (drop l.z-index l.shifts);
}
