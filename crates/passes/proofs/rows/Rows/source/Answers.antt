-- `Rows::source` meets its contract: its numbers fit, and they are the walk's state at place 0.
use Rattle.lists.proofs.Kit.{arith}
use Rattle.passes.proofs.PassWalks.{sought, source_short, source_past}
use Rattle.passes.proofs.rows.Rows.source.Goals as goal

pub overflow_mul-lap-2 : goal.overflow_mul-lap-2
overflow_mul-lap-2 c = omega (arith, sought c.args.self.sides c.args.self.inverse_is c.args.i c.requires)

pub returns-then-u-s : goal.returns-then-u-s
returns-then-u-s c =
    let v = c.args.self.inverse_is in
    source_short c.args.self.sides v _ _ (sought c.args.self.sides v c.args.i c.requires) (omega arith)

pub returns : goal.returns
returns c =
    let v = c.args.self.inverse_is in
    rw c.step_on-column.ensures (source_past c.args.self.sides v _ _ (sought c.args.self.sides v c.args.i c.requires) (omega arith))
