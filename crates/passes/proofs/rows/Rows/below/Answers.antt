-- `Rows::below` meets its contract: each of its cases is the walk's state at place 0 of the next row.
use Rattle.lists.proofs.Kit.{ap, ℕ, ◌*◌, arith, mul_comm, le-mul_of_pos_right}
use Rattle.passes.proofs.PassWalks.{few, below_short, below_past}
use Rattle.passes.proofs.rows.Rows.below.Goals as goal

-- a group before this one has b places
pub overflow_sub-result : goal.overflow_sub-result
overflow_sub-result c =
    let p = c.args.p in
    let b = c.args.self.sides.b in
    let place = c.requires.here.place in
    omega (arith, ap (λ (z : ℕ). p.group * z) c.args.self.sides.b_is, mul_comm p.group b, le-mul_of_pos_right {m = p.group} b c.if-p-gt0.true)

pub overflow_add-i : goal.overflow_add-i
overflow_add-i c = omega (arith, few c.args.self.sides c.args.self.inverse_is)

pub returns-then-i-s : goal.returns-then-i-s
returns-then-i-s c =
    below_short c.args.self.sides c.args.self.inverse_is c.requires.here (omega arith) c.requires.row c.step_on-lap.ensures (omega arith)

pub returns : goal.returns
returns c =
    rw c.step_on-column.ensures (below_past c.args.self.sides c.args.self.inverse_is c.requires.here (omega arith) c.requires.row c.step_on-lap.ensures (omega arith))
