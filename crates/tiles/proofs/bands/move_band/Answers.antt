-- `move_band` meets its contract: the band is lifted into scratch and laid back.
use Rattle.lists.proofs.Kit.{arith}
use Rattle.tiles.proofs.BandByBand.{band_moved}
use Rattle.tiles.proofs.bands.move_band.Goals as goal

pub returns : goal.returns
returns c =
    band_moved c.requires.small.before (c.copy.ensures.inside (omega (arith, c.requires), omega (arith, c.requires))) c.lay.ensures
