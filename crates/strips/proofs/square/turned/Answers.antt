-- `turned` meets its contract: the first i rows and columns stand turned, at the end all.
use Rattle.lists.proofs.Kit.{◌≡◌, arith}
use Rattle.strips.proofs.Squares.{square_more, square_all}
use Rattle.strips.proofs.square.turned.Goals as goal

pub loop-i-preserved : goal.loop-i-preserved
loop-i-preserved c = square_more (omega arith) c.loop-i.invariant c.cross.ensures

pub returns : goal.returns
returns c =
    let e : c.loop-i.i ≡ c.args.shape.n = omega (arith, c.args.shape.columns) in
    rw c.requires.1 (square_all (rw e at c.loop-i.invariant))
