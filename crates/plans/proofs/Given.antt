-- What makes the promise of a plan, over r axes: an order number above the last is refused, and of any other the falling pairs are counted and that many swaps computed, which
-- fit into the ten places; and what it tells: the number is one of the orders', and the plan is the computed one, since an order has one plan.
use Rattle.lists.proofs.Kit.{◌≡◌, refl, sym, ap, ap₂, ◌∙◌, subst, List, ◌++◌, ℕ, suc, ◌-◌, ◌<◌, ◌≤◌, arith, length, replicate, lt-ltb}
use Rattle.layout.specs.Layout.{Below}
use Rattle.orders.specs.Numbers.{order_count, order_of}
use Rattle.orders.specs.Plans.{falling, planned, plan_of, plan_places}
use Rattle.orders.proofs.Chains.{length-named}
use Rattle.orders.proofs.Numbers.{order_named}
use Rattle.orders.proofs.Distinct.{count-pos}
use Rattle.orders.proofs.Plans.{length_plan, falling-places, plan_of_number, plan_below, one_plan}
use Rattle.refusals.specs.Calls.{plan_checks}
use Rattle.refusals.specs.FirstOf.{First, Silent}
use Rattle.refusals.proofs.FirstOf.{first-is, silent_zero}
use Rattle.refusals.proofs.Conditions.{is_order, no_order_false}
use Rattle.refusals.proofs.Calls.{plan_accepted}
use Rattle.plans.specs.declared.Axes.{Axes}
use Rattle.plans.specs.declared.Axes.TheVariants.{Four, Five}
use Rattle.plans.specs.declared.Planned.{Planned}
use Rattle.plans.specs.declared.Swaps.{Swaps}
use Rattle.plans.specs.Promise.{count_of, planned_as, plan_as, no_plan, PlanPromise}
use Rattle.plans.proofs.Rows.{long_order}

pub refused : (r order : ℕ) {p : Planned} → order_count r ≤ order → p ≡ no_plan 7 → PlanPromise r order p
refused r order {p} h e =
    let above : First 7 (plan_checks r order) = First.here (lt-ltb (order_count r - 1) order (omega (arith, count-pos r))) refl in
    let number : p.number ≡ 7 = ap (λ (q : Planned). q.number) e in
    record { number_is = number ∙ sym (first-is above); given = λ z. absurd (omega arith); refusal = λ _. e ∙ ap no_plan (sym number) }

-- the falling pairs counted, and as many swaps of the plan: the plan
pub as_planned : (o : List ℕ) {count : ℕ} {swaps : List ℕ} → count ≡ falling o → swaps ≡ planned count o ++ replicate (10 - count) 0
    → ◌≡◌ {A = Swaps} (record { places = swaps; count = count }) (plan_as (plan_of o))
unfolding plan_of
as_planned o {count} e f =
    let long : count ≡ length (plan_of o) = e ∙ sym (length_plan o) in
    ap₂ (λ (s : List ℕ) (l : ℕ). let p : Swaps = record { places = s; count = l } in p)
    (f ∙ ap₂ (λ (s : List ℕ) (l : ℕ). s ++ replicate (10 - l) 0) (ap (λ (n : ℕ). planned n o) e) long)
    long

-- each swap of the plan exchanges two of the axes
numbered_below : (m order : ℕ) → order < order_count (suc m) → Below m (plan_of (order_of (suc m) order))
numbered_below m order low = let (c, e) = order_named (suc m) order low in subst (λ (o : List ℕ). Below m (plan_of o)) e (plan_below m c)

pub swaps_below : (axes : Axes) (order : ℕ) → order < order_count (count_of axes) → {o : List ℕ} → o ≡ order_of (count_of axes) order → Below (length o - 1) (plan_of o)
swaps_below axes order low e = rw (e, long_order (count_of axes) order low) (go axes order low)
  where
    go : (axes : Axes) (order : ℕ) → order < order_count (count_of axes) → Below (count_of axes - 1) (plan_of (order_of (count_of axes) order))
    go Four order low = numbered_below 3 order low
    go Five order low = numbered_below 4 order low

module _ (r order : ℕ) (low : order < order_count r) {o : List ℕ} (e : o ≡ order_of r order) where
  pub fits : r ≤ 5 → plan_places r ≤ 10 → (length o ≤ 5) × (falling o ≤ 10)
  fits h few =
      let (c, n) = order_named r order low in
      let long : length o ≡ r = ap length (e ∙ sym n) ∙ length-named r c in
      (omega arith, omega (arith, ap falling e, falling-places r order low))

  pub given : {p : Planned} → p ≡ planned_as (plan_of o) → PlanPromise r order p
  given {p} f =
      let number : p.number ≡ 0 = ap (λ (q : Planned). q.number) f in
      let silent : Silent (plan_checks r order) = Silent.more (no_order_false r order low) Silent.none in
      record {
        number_is = number ∙ sym (silent_zero silent);
        given = λ _. record {
          chain = plan_of (order_of r order);
          plan = plan_of_number r order low;
          answered = f ∙ ap (λ (t : List ℕ). planned_as (plan_of t)) e;
        };
        refusal = λ n. absurd (n number);
      }

module _ {r order : ℕ} {p : Planned} (q : PlanPromise r order p) (z : p.number ≡ 0) where
  pub is_one : order < order_count r
  is_one = go ((plan_accepted r order).0 (sym q.number_is ∙ z))
    where
      go : Silent (plan_checks r order) → order < order_count r
      go (Silent.more h s) = is_order r order h

  pub the_plan : p ≡ planned_as (plan_of (order_of r order))
  the_plan = let g = q.given z in g.answered ∙ ap planned_as (one_plan g.plan (plan_of_number r order is_one))
