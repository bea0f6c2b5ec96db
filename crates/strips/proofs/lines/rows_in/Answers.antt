-- `rows_in` meets its contract: the runs are widened up to p words, at the end to `end`.
use Rattle.lists.proofs.Kit.{refl, arith}
use Rattle.strips.proofs.Strips.{rows_more}
use Rattle.strips.proofs.lines.rows_in.Goals as goal

pub loop-p-preserved : goal.loop-p-preserved
loop-p-preserved c =
    let i = c.loop-p.invariant in
    let few = c.batch-q.ensures.few in
    (omega arith, omega arith, rows_more i.0 refl i.2 c.widen.ensures)
