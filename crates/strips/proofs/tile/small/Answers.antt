-- `small` meets its contract: the block is lifted into the tile and written turned, row by row or column by column.
use Rattle.strips.proofs.Tiles.{rows_turned, tile_turned}
use Rattle.strips.proofs.tile.small.Goals as goal

pub returns-then-rows-lt-FEW : goal.returns-then-rows-lt-FEW
returns-then-rows-lt-FEW c = rows_turned c.lifted.ensures c.rows_out.ensures

pub returns-else-rows-lt-FEW : goal.returns-else-rows-lt-FEW
returns-else-rows-lt-FEW c = tile_turned c.lifted.ensures c.columns_out.ensures
