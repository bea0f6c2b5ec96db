-- `Turn::step` meets its contract: the product with the inverse gives the row, and each row is counted off.
use Rattle.cycles.proofs.Stepping.{taken_off, stepped}
use Rattle.cycle_lists.proofs.turn.Turn.step.Goals as goal

pub overflow_sub-result-2 : goal.overflow_sub-result-2
overflow_sub-result-2 c = taken_off c.args.self.small c.args.self.reciprocal c.requires

pub returns : goal.returns
returns c = stepped c.args.self.small c.args.self.reciprocal c.requires
