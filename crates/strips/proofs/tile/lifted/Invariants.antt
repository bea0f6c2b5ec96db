use Rattle.strips.specs.PrivateMoves.{Lifted}
use Rattle.strips.proofs.tile.lifted.Given as goal

abbrev pub invariant-loop-i : goal.invariant-loop-i
invariant-loop-i l = Lifted l.i l.shape.n l.shape.g l.buf l.initial.tile l.tile
