use Rattle.lists.proofs.Kit.{◌∙◌, add-mod_right, arith}
use Rattle.tiles.proofs.TileByTile.{piece, laid_as, fits_on}
use Rattle.tiles.proofs.bands.lay.Goals as goal

pub lay_piece-requires : goal.lay_piece-requires
lay_piece-requires c =
    (fits_on c.loop-j.invariant.1.same c.requires, piece c.requires.small c.smaller-step.ensures c.smaller.ensures (omega arith) c.loop-j.invariant.0)

pub loop-j-preserved : goal.loop-j-preserved
loop-j-preserved c = (
  add-mod_right c.loop-j.j c.smaller-step.result ∙ c.loop-j.invariant.0,
  laid_as (λ x k row low h. omega (arith, c.smaller.ensures)) (c.lay_piece.ensures.laid _ c.loop-j.invariant.1),
)

pub returns : goal.returns
returns c = laid_as (λ x k row low h. omega arith) c.loop-j.invariant.1

pub returns-2 : goal.returns-2
returns-2 c = laid_as (λ x k row low h. omega (arith, c.smaller.ensures)) (c.lay_piece.ensures.laid _ c.loop-j.invariant.1)
