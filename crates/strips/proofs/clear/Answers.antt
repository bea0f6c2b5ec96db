-- `clear` meets its contract: the words that are needed are zeroed, the rest stands.
use Rattle.moves.proofs.Cleared.{zeroed_cleared}
use Rattle.strips.proofs.clear.Goals as goal

pub returns : goal.returns
returns c = zeroed_cleared c.requires (rw c.longest_of.ensures at c.zero.ensures)
