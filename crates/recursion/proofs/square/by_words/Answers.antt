-- `by_words` meets its contract: the rows before i stand exchanged with their columns, at the end all of them.
use Rattle.lists.proofs.Kit.{arith}
use Rattle.recursion.proofs.Across.{all-across}
use Rattle.recursion.proofs.square.by_words.Goals as goal

pub returns : goal.returns
returns c = all-across c.requires (omega arith) c.loop-i.invariant
