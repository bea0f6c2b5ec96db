-- `plans::plan` meets its promise: its test is check 7, and the plan is that of the table's order.
use Rattle.lists.proofs.Kit.{◌≡◌, sym, ap, ◌∙◌, ℕ, ◌<◌, arith, length, length-take-le}
use Rattle.std.specs.Prelude.{Ok}
use Rattle.orders.specs.Numbers.{order_count}
use Rattle.plans.specs.declared.Axes.{Axes}
use Rattle.plans.specs.declared.Swaps.{Swaps}
use Rattle.plans.specs.Promise.{count_of, in_c}
use Rattle.plans.proofs.Rows.{few_axes, few_places, long_order}
use Rattle.plans.proofs.Given.{fits, swaps_below, given}
use Rattle.plans.proofs.plan.Goals as goal

low : {order count : ℕ} (axes : Axes) → count ≡ order_count (count_of axes) → order < count → order < order_count (count_of axes)
low axes e h = omega (arith, e)

pub copy_from_slice-requires : goal.copy_from_slice-requires
copy_from_slice-requires c =
    let axes = c.args.axes in
    length-take-le c.count.result _ (omega (arith, c.count.ensures, few_axes axes))
    ∙ c.count.ensures
    ∙ sym (ap length c.order_of.ensures ∙ long_order (count_of axes) c.args.order (low axes c.orders.ensures c.if-orders-order.false))

pub plan_of-requires-clause-few : goal.plan_of-requires-clause-few
plan_of-requires-clause-few c =
    let axes = c.args.axes in
    fits (count_of axes) c.args.order (low axes c.orders.ensures c.if-orders-order.false) (c.copy_from_slice.ensures.after ∙ c.order_of.ensures) (few_axes axes) (few_places axes)

pub plan_of-requires-clause-found : goal.plan_of-requires-clause-found
plan_of-requires-clause-found c =
    swaps_below c.args.axes c.args.order (low c.args.axes c.orders.ensures c.if-orders-order.false) (c.copy_from_slice.ensures.after ∙ c.order_of.ensures)

pub returns : goal.returns
returns c =
    let axes = c.args.axes in
    given (count_of axes) c.args.order (low axes c.orders.ensures c.if-orders-order.false) (c.copy_from_slice.ensures.after ∙ c.order_of.ensures)
    (ap (λ (q : Swaps). in_c (Ok q)) c.plan_of.ensures)
