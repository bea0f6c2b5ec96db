-- `lifted` meets its contract: elements of one word are copied at once, others row by row.
use Rattle.lists.proofs.Kit.{arith}
use Rattle.strips.proofs.Tiles.{lifted_more, lifted_words}
use Rattle.strips.proofs.tile.lifted.Goals as goal

pub returns-then-shape-eq1 : goal.returns-then-shape-eq1
returns-then-shape-eq1 c = lifted_words (search) (c.copy.ensures.inside (omega (arith, c.requires), omega (arith, c.requires)))

pub loop-i-preserved : goal.loop-i-preserved
loop-i-preserved c = lifted_more c.loop-i.invariant c.columns_out.ensures
