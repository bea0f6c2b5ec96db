-- `turn_back` meets its contract: the turn the other way round has the same checks and needs the same scratch.
use Rattle.strips.proofs.Back.{turned_about}
use Rattle.strips.proofs.turn_back.Goals as goal

pub returns : goal.returns
returns c = turned_about c.turn.ensures
