-- What documents 01 and 02 say of single orders and chains of four axes: numbers by their release, plans, orders that chains name, needs; and of five axes the
-- same kinds of cases. Computed, each table as one statement.
use Rattle.lists.proofs.Kit.{◌≡◌, refl, [], ◌∷◌, map, upto}
use Rattle.layout.specs.Layout.{place_of, places}
use Rattle.orders.specs.Chains.{exchange, follow, named}
use Rattle.orders.specs.Numbers.{arrangements, orders, order_of, rank, number_of}
use Rattle.orders.specs.Releases.{number_by}
use Rattle.orders.specs.Plans.{under, falling, relabelled, first_back, planned, plan_of}
use Rattle.orders.specs.Needs.{swap_need, chain_need}

-- orders 0, 1, 2, 6, 9, 16, 18 and 23
pub numbers_4 : map (order_of 4) (0 ∷ 1 ∷ 2 ∷ 6 ∷ 9 ∷ 16 ∷ 18 ∷ 23 ∷ [])
    ≡ (0 ∷ 1 ∷ 2 ∷ 3 ∷ []) ∷ (0 ∷ 1 ∷ 3 ∷ 2 ∷ []) ∷ (0 ∷ 2 ∷ 1 ∷ 3 ∷ []) ∷ (1 ∷ 0 ∷ 2 ∷ 3 ∷ []) ∷ (1 ∷ 2 ∷ 3 ∷ 0 ∷ []) ∷ (2 ∷ 3 ∷ 0 ∷ 1 ∷ []) ∷ (3 ∷ 0 ∷ 1 ∷ 2 ∷ []) ∷ (3 ∷ 2 ∷ 1 ∷ 0 ∷ []) ∷ []
unfolding order_of orders arrangements
numbers_4 = refl

-- the plans of the orders 0, 9, 18, 16 and 23
pub plans_4 : map (λ k. plan_of (order_of 4 k)) (0 ∷ 9 ∷ 18 ∷ 16 ∷ 23 ∷ [])
    ≡ [] ∷ (0 ∷ 1 ∷ 2 ∷ []) ∷ (2 ∷ 1 ∷ 0 ∷ []) ∷ (1 ∷ 0 ∷ 2 ∷ 1 ∷ []) ∷ (0 ∷ 1 ∷ 0 ∷ 2 ∷ 1 ∷ 0 ∷ []) ∷ []
unfolding arrangements orders order_of under falling relabelled first_back planned plan_of place_of
plans_4 = refl

-- the numbers of the orders that these chains name
pub chains_4 : map (λ c. number_of 4 (named 4 c)) ([] ∷ (0 ∷ 1 ∷ 2 ∷ []) ∷ (2 ∷ 1 ∷ 0 ∷ []) ∷ (1 ∷ 0 ∷ 2 ∷ 1 ∷ []) ∷ (0 ∷ 1 ∷ 0 ∷ 2 ∷ 1 ∷ 0 ∷ []) ∷ [])
    ≡ 0 ∷ 9 ∷ 18 ∷ 16 ∷ 23 ∷ []
unfolding exchange follow named arrangements orders rank number_of
chains_4 = refl

-- the needs of the chains 2; none; 1; 0; 2, 2; 1, 2 and 2, 1, 0 on 4,096 by 1 by 2 by 3
pub needs_4 : map (chain_need (4096 ∷ 1 ∷ 2 ∷ 3 ∷ []))
    ((2 ∷ []) ∷ [] ∷ (1 ∷ []) ∷ (0 ∷ []) ∷ (2 ∷ 2 ∷ []) ∷ (1 ∷ 2 ∷ []) ∷ (2 ∷ 1 ∷ 0 ∷ []) ∷ [])
    ≡ 3 ∷ 0 ∷ 2 ∷ 4096 ∷ 3 ∷ 3 ∷ 4096 ∷ []
unfolding exchange swap_need chain_need
needs_4 = refl

-- the release 1 numbers of the orders that the numbers 0 to 23 name in release 2: 18 for 9 and 9 for 18
pub releases_4 : map (number_by 4 2) (upto 24)
    ≡ 0 ∷ 1 ∷ 2 ∷ 4 ∷ 3 ∷ 5 ∷ 6 ∷ 7 ∷ 12 ∷ 18 ∷ 13 ∷ 19 ∷ 8 ∷ 10 ∷ 14 ∷ 20 ∷ 16 ∷ 22 ∷ 9 ∷ 11 ∷ 15 ∷ 21 ∷ 17 ∷ 23 ∷ []
unfolding arrangements orders order_of rank number_of place_of places
releases_4 = refl

-- of five axes the orders 0, 1, 6, 24, 33, 96 and 119: the first 24 are those of four, one up, behind axis 0
pub numbers_5 : map (order_of 5) (0 ∷ 1 ∷ 6 ∷ 24 ∷ 33 ∷ 96 ∷ 119 ∷ [])
    ≡ (0 ∷ 1 ∷ 2 ∷ 3 ∷ 4 ∷ []) ∷ (0 ∷ 1 ∷ 2 ∷ 4 ∷ 3 ∷ []) ∷ (0 ∷ 2 ∷ 1 ∷ 3 ∷ 4 ∷ []) ∷ (1 ∷ 0 ∷ 2 ∷ 3 ∷ 4 ∷ []) ∷ (1 ∷ 2 ∷ 3 ∷ 4 ∷ 0 ∷ []) ∷ (4 ∷ 0 ∷ 1 ∷ 2 ∷ 3 ∷ []) ∷ (4 ∷ 3 ∷ 2 ∷ 1 ∷ 0 ∷ []) ∷ []
unfolding order_of orders arrangements
numbers_5 = refl

-- their plans: that of order 119 has ten swaps
pub plans_5 : map (λ k. plan_of (order_of 5 k)) (0 ∷ 1 ∷ 6 ∷ 24 ∷ 33 ∷ 96 ∷ 119 ∷ [])
    ≡ [] ∷ (3 ∷ []) ∷ (1 ∷ []) ∷ (0 ∷ []) ∷ (0 ∷ 1 ∷ 2 ∷ 3 ∷ []) ∷ (3 ∷ 2 ∷ 1 ∷ 0 ∷ []) ∷ (0 ∷ 1 ∷ 0 ∷ 2 ∷ 1 ∷ 0 ∷ 3 ∷ 2 ∷ 1 ∷ 0 ∷ []) ∷ []
unfolding arrangements orders order_of under falling relabelled first_back planned plan_of place_of
plans_5 = refl
