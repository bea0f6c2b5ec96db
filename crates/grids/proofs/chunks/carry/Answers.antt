-- `chunks::carry` meets its contract: both chunks lie in the buffer, and apart.
use Rattle.grids.proofs.Places.{chunk_inside, chunk_apart}
use Rattle.grids.proofs.chunks.carry.Goals as goal

pub returns : goal.returns
returns c =
    let fits = c.requires.0 in
    c.hand.ensures.inside (chunk_inside fits c.requires.1, chunk_inside fits c.requires.2, chunk_apart fits c.args.p c.args.x c.requires.3)
