-- `store_row` meets its contract: the row is lent and filled word by word.
use Rattle.lists.proofs.Kit.{arith}
use Rattle.recursion.proofs.Across.{row_inside}
use Rattle.recursion.proofs.Lending.{run_filled}
use Rattle.recursion.proofs.tile.Tile.store_row.Goals as goal

pub returns : goal.returns
returns c =
    run_filled _ (omega (arith, row_inside c.args.self {r = c.args.r} c.requires.1)) (omega arith) (omega arith) (λ u h. c.loop-u.invariant u (omega arith))
