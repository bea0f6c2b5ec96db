-- `GroupedSides::clear` meets its contract: the longer side is what the call needs of scratch.
use Rattle.moves.proofs.Cleared.{zeroed_cleared}
use Rattle.passes.proofs.sides.GroupedSides.clear.Goals as goal

pub returns : goal.returns
returns c = zeroed_cleared c.requires (rw c.longest.ensures at c.zero.ensures)
