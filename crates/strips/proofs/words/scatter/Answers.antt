-- `scatter` meets its contract: the words are stored one by one, each apart from those before it.
use Rattle.lists.proofs.Kit.{refl, arith}
use Rattle.strips.proofs.Spreading.{spread_more}
use Rattle.strips.proofs.words.scatter.Goals as goal

pub loop-u-preserved : goal.loop-u-preserved
loop-u-preserved c = spread_more c.loop-u.invariant (search) _ refl (c.requires.1 c.loop-u.u (omega arith))
