-- `columns_off` meets its contract: the runs are narrowed down to p words, at the end to `start`.
use Rattle.lists.proofs.Kit.{arith}
use Rattle.strips.proofs.Strips.{columns_more}
use Rattle.strips.proofs.lines.columns_off.Goals as goal

pub loop-p-preserved : goal.loop-p-preserved
loop-p-preserved c =
    let i = c.loop-p.invariant in
    let few = c.batch-q.ensures.few in
    (omega arith, omega arith, columns_more (omega arith) i.1 i.2 c.narrow.ensures)
