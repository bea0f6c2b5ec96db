use Rattle.recursion.specs.PrivateTiles.{Lifted}
use Rattle.recursion.proofs.tile.Tile.lift.Given as goal

abbrev pub invariant-loop-r : goal.invariant-loop-r
invariant-loop-r l = Lifted l.self.side l.self.row l.self.column l.r l.self.width l.s l.words
