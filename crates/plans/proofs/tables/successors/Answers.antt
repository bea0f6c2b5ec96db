-- `plans::tables::successors` meets its contract: each table has, for each of the orders, the numbers of what its swaps make of it. The tables are
-- compared once, as a whole.
use Rattle.lists.proofs.Kit.{List, [], ℕ, ◌-◌, tab}
use Rattle.orders.specs.Chains.{exchange}
use Rattle.orders.specs.Numbers.{order_of, number_of, orders, arrangements, rank}
use Rattle.plans.proofs.Rows.{row_at}
use Rattle.plans.proofs.tables.successors.Goals as goal

-- the numbers of what the swaps make of an order of r axes
abbrev next : ℕ → List ℕ → List ℕ
next r o = tab (r - 1) (λ k. number_of r (exchange k o))

pub returns-in-Four : goal.returns-in-Four
unfolding order_of number_of orders arrangements rank exchange
returns-in-Four c = rw c.in-Four.is (row_at [] [] (next 4) (orders 4) c.args.order (rw c.in-Four.is at c.requires))

pub returns-in-Five : goal.returns-in-Five
unfolding order_of number_of orders arrangements rank exchange
returns-in-Five c = rw c.in-Five.is (row_at [] [] (next 5) (orders 5) c.args.order (rw c.in-Five.is at c.requires))
