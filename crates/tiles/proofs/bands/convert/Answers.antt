-- `convert` meets its contract: the bands move, and the words of scratch that they used are zeroed.
use Rattle.moves.proofs.Cleared.{used_cleared}
use Rattle.tiles.proofs.bands.convert.Goals as goal

pub returns : goal.returns
returns c =
    let moved = c.move_bands.ensures in
    (moved.0, used_cleared c.requires.room moved.1 c.zero.ensures)
