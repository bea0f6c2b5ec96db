use Rattle.lists.proofs.Kit.{◌*◌}
use Rattle.moves.proofs.Filling.{Filled}
use Rattle.strips.proofs.Tiles.{turned_word}
use Rattle.strips.proofs.tile.columns_out.Given as goal

abbrev pub invariant-loop-j : goal.invariant-loop-j
invariant-loop-j l = Filled l.at 0 (l.j * l.m) (turned_word l.at l.m l.n l.tile) l.initial.buf l.buf
