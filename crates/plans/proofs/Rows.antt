-- A table with one row made of each row of another: the row at a place is made of the other's row at that place. By induction on the rows. And past the last
-- order there is none.
use Rattle.lists.proofs.Kit.{◌≡◌, refl, sym, ap, ◌∙◌, Bool, true, false, cond, List, [], ◌∷◌, map, ℕ, zero, suc, ◌<◌, ◌≤◌, not-suc-le-zero, le_of_suc-le-suc, arith, eqb, length, get_or, get_or-eq_default}
use Rattle.layout.specs.Layout.{place_of, places}
use Rattle.orders.specs.Chains.{exchange}
use Rattle.orders.specs.Numbers.{arrangements, orders, order_count, order_of, rank, number_of}
use Rattle.orders.specs.Plans.{plan_places}
use Rattle.orders.specs.Releases.{number_by}
use Rattle.orders.proofs.Swaps.{exchange-past}
use Rattle.orders.proofs.Chains.{length-named}
use Rattle.orders.proofs.Numbers.{order_named, number_order}
use Rattle.orders.proofs.Distinct.{count-orders}
use Rattle.plans.specs.declared.Axes.{Axes}
use Rattle.plans.specs.declared.Axes.TheVariants.{Four, Five}
use Rattle.plans.specs.Promise.{count_of}

pub row_at : {A B : Type 0} (none : A) (nothing : B) (made : A → B) (rows : List A) (i : ℕ) → i < length rows
    → get_or (map made rows) i nothing ≡ made (get_or rows i none)
row_at none nothing made [] i h = absurd (not-suc-le-zero h)
row_at none nothing made (o ∷ rows) zero h = refl
row_at none nothing made (o ∷ rows) (suc i) h = row_at none nothing made rows i (le_of_suc-le-suc h)

pub no_row : (r k : ℕ) → order_count r ≤ k → order_of r k ≡ []
unfolding order_of
no_row r k h = get_or-eq_default (orders r) [] (rw (count-orders r) h)

-- and what is none of the orders has for a number how many there are
pub no_number : (axes : Axes) → number_of (count_of axes) [] ≡ order_count (count_of axes)
unfolding number_of orders arrangements rank
no_number Four = refl
no_number Five = refl

-- a swap makes of none none
pub no_next : (r order k : ℕ) → order_count r ≤ order → number_of r (exchange k (order_of r order)) ≡ number_of r []
unfolding exchange
no_next r order k h = ap (λ (o : List ℕ). number_of r (exchange k o)) (no_row r order h)

-- and a swap that the axes do not have makes of an order the same
pub same_next : (r order k : ℕ) → order < order_count r → r ≤ suc k → number_of r (exchange k (order_of r order)) ≡ order
same_next r order k low h =
    let (c, e) = order_named r order low in
    ap (number_of r) (exchange-past k (order_of r order) (rw (← e, length-named r c) h)) ∙ number_order r order low

-- in either release
pub no_inverse : (r release order : ℕ) → order_count r ≤ order → number_by r release order ≡ number_of r []
unfolding places place_of
no_inverse r release order h = ap (λ (o : List ℕ). number_of r (cond (eqb release 2) (places o) o)) (no_row r order h) ∙ go (eqb release 2)
  where
    go : (t : Bool) → number_of r (cond t [] []) ≡ number_of r []
    go true = refl
    go false = refl

-- at most five axes, whose plans have at most ten swaps, and an order of them is as long as they are many
pub few_axes : (axes : Axes) → count_of axes ≤ 5
few_axes Four = omega arith
few_axes Five = omega arith

pub few_places : (axes : Axes) → plan_places (count_of axes) ≤ 10
few_places Four = omega arith
few_places Five = omega arith

pub long_order : (r order : ℕ) → order < order_count r → length (order_of r order) ≡ r
long_order r order low = let (c, e) = order_named r order low in ap length (sym e) ∙ length-named r c
