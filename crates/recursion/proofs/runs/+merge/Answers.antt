-- `merge` meets its contract: the stretch between the first and the last quarter is rotated, then each half is merged.
use Rattle.lists.proofs.Kit.{arith}
use Rattle.recursion.proofs.Halving.{stretch_long, high_runs, next_runs, merged_of_halves, merged_two}
use Rattle.recursion.proofs.runs.+merge.Goals as goal

pub rotate-requires : goal.rotate-requires
rotate-requires t c = omega (arith, stretch_long c.requires)

pub returns-then-n-eq2 : goal.returns-then-n-eq2
returns-then-n-eq2 t c = merged_two c.requires c.rotate.ensures c.if-n-eq2.true

pub merge-requires-2 : goal.merge-requires-2
merge-requires-2 t c =
    (omega arith, high_runs (next_runs c.requires c.rotate.ensures) (omega arith) c.split_at_mut-first.ensures.back_len)

pub returns : goal.returns
returns t c =
    let halves = c.split_at_mut-first.ensures in
    merged_of_halves c.requires c.rotate.ensures halves.front halves.back c.merge.ensures c.merge-2.ensures
