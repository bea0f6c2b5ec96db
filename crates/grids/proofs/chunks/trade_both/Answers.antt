-- `chunks::trade_both` meets its contract: the four places are four, so that neither trade disturbs the other.
use Rattle.grids.proofs.Places.{both_traded}
use Rattle.grids.proofs.chunks.trade_both.Goals as goal

pub returns : goal.returns
returns c =
    let fits = c.requires.fits in
    let apart = c.requires.apart in
    both_traded _ _ _ fits.1 fits.2 apart.0 apart.1 fits.3 apart.2 c.mirrored.ensures c.mirrored-2.ensures c.trade.ensures c.trade-2.ensures
