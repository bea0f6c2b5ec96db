-- What the plan for an order of r axes promises. Assumes nothing: these are definitions.
use Rattle.std.specs.Prelude.{◌≡◌, List, ◌++◌, ℕ, ◌-◌, length, replicate, Result, Ok, Err}
use Rattle.lists.specs.Tab.{tab}
use Rattle.orders.specs.Chains.{exchange}
use Rattle.orders.specs.Numbers.{order_of, number_of}
use Rattle.orders.specs.Plans.{Plan}
use Rattle.refusals.specs.FirstOf.{first_of}
use Rattle.refusals.specs.Calls.{plan_checks}
use Rattle.refusals.specs.declared.Refusal.{Refusal}
use Rattle.refusals.specs.Refusal.{number_of as refusal_number}
use Rattle.plans.specs.declared.Axes.{Axes}
use Rattle.plans.specs.declared.Axes.TheVariants.{Four, Five}
use Rattle.plans.specs.declared.Swaps.{Swaps}
use Rattle.plans.specs.declared.Planned.{Planned}

-- how many axes they are
abbrev pub count_of : Axes → ℕ
count_of Four = 4
count_of Five = 5

-- the numbers of what each swap of r axes makes of an order
abbrev pub next_numbers : ℕ → ℕ → List ℕ
next_numbers r order = tab (r - 1) (λ k. number_of r (exchange k (order_of r order)))

-- a plan comes back as ten swap places, unused ones 0, and a length
abbrev pub planned_as : List ℕ → Planned
planned_as chain = record { number = 0; swaps = chain ++ replicate (10 - length chain) 0; count = length chain }

-- a refused plan is its number, and 0 in every other field
abbrev pub no_plan : ℕ → Planned
no_plan number = record { number = number; swaps = replicate 10 0; count = 0 }

-- what is given for an order o of r axes: its plan
pub record PlanGiven (r : ℕ) (o : List ℕ) (p : Planned) : Type 0 where
  pub chain : List ℕ
  pub plan : Plan r o chain
  pub answered : p ≡ planned_as chain

-- the plan for an order of r axes by its number: 7; accepted, the swap places and the length are those of the plan; refused, they are 0
pub record PlanPromise (r order : ℕ) (p : Planned) : Type 0 where
  pub number_is : p.number ≡ first_of (plan_checks r order)
  pub given : p.number ≡ 0 → PlanGiven r (order_of r order) p
  pub refusal : (p.number ≡ 0 → ⊥) → p ≡ no_plan p.number

-- a plan as ten swap places, unused ones 0, and a length
abbrev pub plan_as : List ℕ → Swaps
plan_as chain = record { places = chain ++ replicate (10 - length chain) 0; count = length chain }

-- what C sees of an answer: its number and the plan, all 0 where the call was refused
abbrev pub in_c : Result Swaps Refusal → Planned
in_c (Ok plan) = record { number = 0; swaps = plan.places; count = plan.count }
in_c (Err r) = no_plan (refusal_number r)
