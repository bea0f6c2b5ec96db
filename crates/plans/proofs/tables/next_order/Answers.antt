-- `plans::tables::next_order` meets its contract: past the last order there is none, and a swap that the axes do not have exchanges nothing.
use Rattle.lists.proofs.Kit.{◌≡◌, sym, ap, ◌∙◌, List, ℕ, ◌-◌, ◌<◌, arith, length, get_or, length-tab, get_or-tab}
use Rattle.orders.specs.Chains.{exchange}
use Rattle.orders.specs.Numbers.{order_of, number_of}
use Rattle.plans.specs.Promise.{count_of, next_numbers}
use Rattle.plans.proofs.Rows.{no_number, no_next, same_next}
use Rattle.plans.proofs.tables.next_order.Goals as goal

-- a row has a number for each swap of r axes
module _ (r order k : ℕ) {row : List ℕ} (e : row ≡ next_numbers r order) where
  next : ℕ → ℕ
  next j = number_of r (exchange j (order_of r order))

  count : length row ≡ r - 1
  unfolding next
  count = ap length e ∙ length-tab (r - 1) next

  stands : k < length row → get_or row k 0 ≡ number_of r (exchange k (order_of r order))
  unfolding next
  stands h = ap (λ (l : List ℕ). get_or l k 0) e ∙ get_or-tab (r - 1) next k 0 (omega (arith, count))

pub returns-then-orders-order : goal.returns-then-orders-order
returns-then-orders-order c =
    c.orders-then-orders-order.ensures
    ∙ sym (no_next (count_of c.args.axes) c.args.order c.args.k (omega (arith, c.orders.ensures)) ∙ no_number c.args.axes)

pub returns-then-next-k : goal.returns-then-next-k
returns-then-next-k c =
    let r = count_of c.args.axes in
    sym (same_next r c.args.order c.args.k (omega (arith, c.orders.ensures)) (omega (arith, count r c.args.order c.args.k c.successors-next.ensures)))

pub returns : goal.returns
returns c = stands (count_of c.args.axes) c.args.order c.args.k c.successors-next.ensures (omega arith)
