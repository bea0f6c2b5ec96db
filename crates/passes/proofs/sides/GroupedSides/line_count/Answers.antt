-- `GroupedSides::line_count` meets its contract: no more columns are left out than pass 1 has.
use Rattle.lists.proofs.Kit.{arith}
use Rattle.passes.proofs.Passed.{skipped_few}
use Rattle.passes.proofs.sides.GroupedSides.line_count.Goals as goal

pub overflow_sub-result : goal.overflow_sub-result
overflow_sub-result c = omega (arith, skipped_few c.args.self.m c.args.self.n c.args.self.m_pos c.args.self.n_pos)
