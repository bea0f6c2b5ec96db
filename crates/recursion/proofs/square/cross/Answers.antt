-- `cross` meets its contract: each turn of the loop exchanges two words that mirror each other.
use Rattle.lists.proofs.Kit.{◌∙◌, arith}
use Rattle.recursion.proofs.Across.{columns_more}
use Rattle.recursion.proofs.Crossing.{word-across}
use Rattle.recursion.proofs.square.cross.Goals as goal

pub loop-j-preserved : goal.loop-j-preserved
loop-j-preserved c =
    columns_more (omega arith) (omega arith) (omega arith) c.loop-j.invariant (word-across c.loop-j.s (omega arith) (omega arith) (c.loop-j.invariant.same ∙ c.requires.0))
