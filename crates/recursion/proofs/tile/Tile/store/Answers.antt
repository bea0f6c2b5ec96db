-- `store` meets its contract: row by row the tile holds the columns of the array.
use Rattle.recursion.proofs.Across.{stored_more}
use Rattle.recursion.proofs.tile.Tile.store.Goals as goal

pub loop-r-preserved : goal.loop-r-preserved
loop-r-preserved c = stored_more c.args.self.columns_inside c.loop-r.invariant c.store_row.ensures
