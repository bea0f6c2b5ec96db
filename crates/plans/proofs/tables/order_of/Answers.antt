-- `plans::tables::order_of` meets its contract: each table is the list of the orders in dictionary order, entry by entry.
use Rattle.lists.proofs.Kit.{refl}
use Rattle.orders.specs.Numbers.{order_of, orders, arrangements}
use Rattle.plans.proofs.tables.order_of.Goals as goal

pub returns-in-Four : goal.returns-in-Four
unfolding order_of orders arrangements
returns-in-Four c = rw c.in-Four.is refl

pub returns-in-Five : goal.returns-in-Five
unfolding order_of orders arrangements
returns-in-Five c = rw c.in-Five.is refl
