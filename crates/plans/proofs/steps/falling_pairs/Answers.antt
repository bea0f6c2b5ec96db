use Rattle.lists.proofs.Kit.{◌≡◌, ap, List, [], ◌∷◌, ℕ, ◌+◌, ◌*◌, ◌≤◌, arith, length}
use Rattle.orders.specs.Plans.{under, falling}
use Rattle.orders.proofs.Plans.{under_few}
use Rattle.plans.proofs.steps.falling_pairs.Goals as goal

-- at most as many pairs as a square of the places
falling_few : (most : ℕ) (axes : List ℕ) → length axes ≤ most → falling axes ≤ length axes * most
unfolding falling
falling_few most [] h = omega arith
falling_few most (a ∷ axes) h = omega (arith, under_few a axes, falling_few most axes (omega arith))

falling_none : (axes : List ℕ) → length axes ≡ 0 → falling axes ≡ 0
unfolding falling
falling_none [] e = omega arith
falling_none (a ∷ axes) e = absurd (omega arith)

falling_first : {rest after : List ℕ} {axis : ℕ} → rest ≡ axis ∷ after → falling rest ≡ under axis after + falling after
unfolding falling
falling_first e = ap falling e

pub overflow_add-count : goal.overflow_add-count
overflow_add-count c =
    record { fits = omega (arith, c.loop-axis.invariant.1, c.count_under-count.ensures, falling_first c.in-Some.ensures.cases.0, falling_few 5 c.args.axes.now c.requires) }

pub loop-axis-preserved : goal.loop-axis-preserved
loop-axis-preserved c =
    (omega (arith, c.in-Some.ensures.cases.1), omega (arith, c.loop-axis.invariant.1, c.count_under-count.ensures, falling_first c.in-Some.ensures.cases.0))

pub returns : goal.returns
returns c =
    omega (arith, c.loop-axis.invariant.1, falling_none c.loop-axis.rest.now c.in_default.ensures.cases)
