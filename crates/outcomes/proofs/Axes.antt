-- The calls on four and on five axes, the plans and the tables: one outcome each, because those of their promises are one. That a shape's array has five
-- lengths, so that there are as many to read as the call reads, is the checker's own fact at entry.
use Rattle.lists.proofs.Kit.{◌≡◌, refl, sym, ap, ◌∙◌, List, ℕ, ◌≤◌, arith, length, take, length-take-le, rules}
use Rattle.axes.specs.declared.Shape.{Shape}
use Rattle.plans.proofs as plans
use Rattle.plans.proofs.Rows.{few_axes}
use Rattle.axes.proofs as axes
use Rattle.outcomes.specs.Once.{Once}

-- so many lengths are read
pub reads : {r : ℕ} (l : List ℕ) → length l ≡ 5 → r ≤ 5 → length (take r l) ≡ r
reads {r} l e h = length-take-le r l (omega arith)

pub chain_once : Once axes.chain.Kinds.ps axes.chain.Kinds.r axes.chain.Reads.Post
chain_once t =
    let (x, y, z) = axes.OneOutcome.chain_once (reads t.args.1.1.1.0.lengths (search rules) (few_axes t.args.0)) t.first t.second in
    (axes.OneOutcome.one_answer t.x t.y x, λ i. (_, (y i, (z i, _))))

pub request_once : Once axes.request.Kinds.ps axes.request.Kinds.r axes.request.Reads.Post
request_once t =
    let (x, y, z) = axes.OneOutcome.request_once (reads t.args.1.1.1.0.lengths (search rules) (few_axes t.args.0)) t.first t.second in
    (axes.OneOutcome.one_answer t.x t.y x, λ i. (_, (y i, (z i, _))))

pub swapped_once : Once axes.Shape.swapped.Kinds.ps axes.Shape.swapped.Kinds.r axes.Shape.swapped.Reads.Post
swapped_once t = (ap (λ (l : List ℕ). let s : Shape = record { lengths = l } in s) (t.first ∙ sym t.second), refl)

pub axes_count_once : Once plans.Axes.count.Kinds.ps plans.Axes.count.Kinds.r plans.Axes.count.Reads.Post
axes_count_once t = (t.first ∙ sym t.second, refl)

pub axes_orders_once : Once plans.Axes.orders.Kinds.ps plans.Axes.orders.Kinds.r plans.Axes.orders.Reads.Post
axes_orders_once t = (t.first ∙ sym t.second, refl)

pub plan_once : Once plans.plan.Kinds.ps plans.plan.Kinds.r plans.plan.Reads.Post
plan_once t = (plans.OneOutcome.one_answer t.x t.y (plans.OneOutcome.plan_once t.first t.second), refl)

pub next_order_once : Once plans.tables.next_order.Kinds.ps plans.tables.next_order.Kinds.r plans.tables.next_order.Reads.Post
next_order_once t = (t.first ∙ sym t.second, refl)

pub number_by_once : Once plans.tables.number_by.Kinds.ps plans.tables.number_by.Kinds.r plans.tables.number_by.Reads.Post
number_by_once t = (t.first ∙ sym t.second, refl)
