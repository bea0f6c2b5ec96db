-- `columns_out` meets its contract: the stretch is filled from the front, column by column.
use Rattle.strips.proofs.Tiles.{column_more}
use Rattle.strips.proofs.tile.columns_out.Goals as goal

pub loop-j-preserved : goal.loop-j-preserved
loop-j-preserved c = column_more c.args.at c.args.m c.args.n c.loop-j.j c.args.tile.now c.loop-j.invariant c.gather.ensures
