-- `rows_from` meets its contract: the tile is all of the band, or one of several.
use Rattle.lists.proofs.Kit.{arith}
use Rattle.tiles.proofs.TileByTile.{rows_wide, rows_narrow}
use Rattle.tiles.proofs.bands.rows_from.Goals as goal

pub returns-then-columns-width : goal.returns-then-columns-width
returns-then-columns-width c = rows_wide (omega arith)

pub returns : goal.returns
returns c = rows_narrow (omega arith) c.requires.1 c.smaller-step.ensures
