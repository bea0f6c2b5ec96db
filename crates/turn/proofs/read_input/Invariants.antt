-- The place after the pieces lies within the buffer. The measure is what is left of the buffer: a piece that is not empty makes it fall.
use Rattle.std.proofs.Common.{◌-◌, ◌≤◌, length}
use Rattle.turn.proofs.read_input.Given as goal

abbrev pub invariant-loop-at : goal.invariant-loop-at
invariant-loop-at g l = l.at ≤ length l.buf

abbrev pub decreases-loop-at : goal.decreases-loop-at
decreases-loop-at g l = length l.initial.buf - l.at
