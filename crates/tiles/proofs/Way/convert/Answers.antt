-- A conversion meets its contract: the bands of a block that passes the checks go into tiles, or come out of them.
use Rattle.lists.proofs.Kit.{sym}
use Rattle.tiles.proofs.Outcome.{converts_by, outcome}
use Rattle.tiles.proofs.Way.convert.Goals as goal

pub convert-requires : goal.convert-requires
convert-requires c =
    rw c.tiling.ensures (converts_by c.args.m c.args.n c.args.r c.args.s (sym c.in_ok-check_tiles.ensures) c.args.self)

pub returns : goal.returns
returns c =
    outcome c.args.m c.args.n c.args.r c.args.s (sym c.in_ok-check_tiles.ensures) c.args.self (rw c.tiling.ensures at c.convert.ensures)
