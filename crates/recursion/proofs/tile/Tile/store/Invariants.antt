use Rattle.recursion.specs.PrivateTiles.{Stored}
use Rattle.recursion.proofs.tile.Tile.store.Given as goal

abbrev pub invariant-loop-r : goal.invariant-loop-r
invariant-loop-r l = Stored l.self.side l.self.row l.self.column l.r l.self.width l.words l.initial.s l.s
