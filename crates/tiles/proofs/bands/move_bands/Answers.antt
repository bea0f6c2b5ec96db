use Rattle.lists.proofs.Kit.{◌∙◌, add-mod_right, arith}
use Rattle.tiles.proofs.BandByBand.{band_fits, band_more, all_moved}
use Rattle.tiles.proofs.bands.move_bands.Goals as goal

pub move_band-requires : goal.move_band-requires
move_band-requires c =
    band_fits (record { first = c.loop-i.invariant.0; low = omega arith; rows = c.smaller-rows.ensures }) c.requires c.loop-i.invariant.1

pub loop-i-preserved : goal.loop-i-preserved
loop-i-preserved c = (
  add-mod_right c.loop-i.i c.args.t.height ∙ c.loop-i.invariant.0,
  band_more (record { first = c.loop-i.invariant.0; low = omega arith; rows = c.smaller-rows.ensures }) c.requires c.loop-i.invariant.1 c.move_band.ensures,
)

pub returns : goal.returns
returns c = all_moved (omega arith) c.loop-i.invariant.1

pub returns-2 : goal.returns-2
returns-2 c =
    all_moved (omega arith)
    (band_more (record { first = c.loop-i.invariant.0; low = omega arith; rows = c.smaller-rows.ensures }) c.requires c.loop-i.invariant.1 c.move_band.ensures)
