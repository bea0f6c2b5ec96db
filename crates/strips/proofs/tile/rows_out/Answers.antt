-- `rows_out` meets its contract: the rows passed are written as columns.
use Rattle.lists.proofs.Kit.{arith}
use Rattle.strips.proofs.Tiles.{row_more}
use Rattle.strips.proofs.tile.rows_out.Goals as goal

pub loop-i-preserved : goal.loop-i-preserved
loop-i-preserved c = row_more (omega arith) c.loop-i.invariant c.scatter.ensures
