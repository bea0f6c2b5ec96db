-- `by_tiles` meets its contract: the rows before i stand exchanged with their columns, at the end all of them.
use Rattle.lists.proofs.Kit.{◌≡◌, ◌+◌, min, arith}
use Rattle.recursion.proofs.Across.{rows_more, all-across}
use Rattle.recursion.proofs.square.by_tiles.Goals as goal

pub returns : goal.returns
returns c = all-across c.requires (omega arith) c.loop-i.invariant

pub returns-2 : goal.returns-2
returns-2 c =
    let i = c.loop-i.i in
    let n = c.args.n in
    let e : min i n ≡ i = omega arith in
    all-across {hi = min (i + 16) n} c.requires (omega arith) (rows_more (omega arith) (rw e at c.loop-i.invariant) c.band.ensures)
