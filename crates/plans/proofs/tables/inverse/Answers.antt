-- `plans::tables::inverse` meets its contract: the tables are compared once, as a whole.
use Rattle.lists.proofs.Kit.{[]}
use Rattle.layout.specs.Layout.{place_of, places}
use Rattle.orders.specs.Numbers.{order_of, number_of, orders, arrangements, rank}
use Rattle.plans.proofs.Rows.{row_at}
use Rattle.plans.proofs.tables.inverse.Goals as goal

pub returns-in-Four : goal.returns-in-Four
unfolding order_of number_of orders arrangements rank place_of places
returns-in-Four c = rw c.in-Four.is (row_at [] 0 (λ o. number_of 4 (places o)) (orders 4) c.args.order (rw c.in-Four.is at c.requires))

pub returns-in-Five : goal.returns-in-Five
unfolding order_of number_of orders arrangements rank place_of places
returns-in-Five c = rw c.in-Five.is (row_at [] 0 (λ o. number_of 5 (places o)) (orders 5) c.args.order (rw c.in-Five.is at c.requires))
