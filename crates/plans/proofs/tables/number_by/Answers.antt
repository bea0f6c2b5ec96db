-- `plans::tables::number_by` meets its contract: past the last order there is none in either release, and in release 1 a number is its own.
use Rattle.lists.proofs.Kit.{sym, ◌∙◌, arith, ne_eqb}
use Rattle.orders.proofs.Numbers.{number_order}
use Rattle.plans.specs.Promise.{count_of}
use Rattle.plans.proofs.Rows.{no_number, no_inverse}
use Rattle.plans.proofs.tables.number_by.Goals as goal

pub returns-then-orders-order : goal.returns-then-orders-order
returns-then-orders-order c =
    c.orders-then-orders-order.ensures
    ∙ sym (no_inverse (count_of c.args.axes) c.args.release c.args.order (omega (arith, c.orders.ensures)) ∙ no_number c.args.axes)

pub returns : goal.returns
returns c =
    rw (ne_eqb c.args.release 2 c.if-release-eq2.false) (sym (number_order (count_of c.args.axes) c.args.order (omega (arith, c.orders.ensures))))
