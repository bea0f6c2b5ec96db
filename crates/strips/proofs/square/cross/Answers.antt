-- `cross` meets its contract: the elements passed have traded places.
use Rattle.lists.proofs.Kit.{inr, ◌*◌, arith}
use Rattle.strips.proofs.Squares.{Pair, pair, crossed_more}
use Rattle.strips.proofs.square.cross.Goals as goal

pub loop-j-preserved : goal.loop-j-preserved
loop-j-preserved c =
    let n = c.args.shape.n in
    let g = c.args.shape.g in
    let p : Pair n g c.args.i c.loop-j.j (n * n * g) = pair (n * n * g) (omega arith) c.requires.2 (omega arith) in
    let w = rw c.requires.1 at c.requires.0 in
    let same = c.loop-j.invariant.same in
    crossed_more c.requires.2 (omega arith) c.loop-j.invariant (c.trade.ensures.inside (omega (arith, p.first), omega (arith, p.second), inr p.apart))
