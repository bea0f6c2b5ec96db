-- `lift` meets its contract: row by row the tile stands in the array.
use Rattle.lists.proofs.Kit.{arith}
use Rattle.recursion.proofs.Across.{row_inside, lifted_more}
use Rattle.recursion.proofs.Lending.{run_copied}
use Rattle.recursion.proofs.tile.Tile.lift.Goals as goal

pub loop-r-preserved : goal.loop-r-preserved
loop-r-preserved c =
    let tile = c.args.self in
    let inside = row_inside tile {r = c.loop-r.r} (omega arith) in
    lifted_more tile.broad c.loop-r.invariant
    (run_copied _ c.args.s.now _ (omega arith) (omega (arith, inside)) (omega arith) (omega arith) c.copy_from_slice.ensures.after)
