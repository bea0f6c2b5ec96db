-- `chunks::cross` meets its contract: the place and its mirrored one trade.
use Rattle.grids.proofs.Places.{hold_crossed}
use Rattle.grids.proofs.chunks.cross.Goals as goal

pub returns : goal.returns
returns c =
    record {
      straight = λ z. absurd (c.if-x-first.false z);
      across = λ ne. hold_crossed _ _ _ c.requires.1 c.requires.2 c.mirrored.ensures c.trade.ensures;
    }
