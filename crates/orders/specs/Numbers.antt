-- Orders by number. Assumes nothing: these are definitions.
use Rattle.std.specs.Prelude.{cond, List, [], ◌∷◌, ◌++◌, map, ℕ, zero, suc, ◌*◌, get_or}
use Rattle.lists.specs.Tab.{upto}
use Rattle.lists.specs.Same.{same}

-- the arrangements of n of the axes in dictionary order: those that begin with the first axis left, then those with the next, ..;
-- `passed` holds the axes left that were already tried first, in their order
unfoldable pub arrangements : ℕ → List ℕ → List ℕ → List (List ℕ)
arrangements zero passed axes = [] ∷ []
arrangements (suc n) passed [] = []
arrangements (suc n) passed (a ∷ axes) =
    map (λ o. a ∷ o) (arrangements n [] (passed ++ axes)) ++ arrangements (suc n) (passed ++ (a ∷ [])) axes

-- all orders of r axes in dictionary order
unfoldable pub orders : ℕ → List (List ℕ)
orders r = arrangements r [] (upto r)

-- how many orders r axes have
abbrev pub order_count : ℕ → ℕ
order_count zero = 1
order_count (suc r) = suc r * order_count r

-- the order of r axes with number k
unfoldable pub order_of : ℕ → ℕ → List ℕ
order_of r k = get_or (orders r) k []

-- the first place of an order in a list of orders
unfoldable pub rank : List ℕ → List (List ℕ) → ℕ
rank o [] = 0
rank o (p ∷ ps) = cond (same o p) 0 (suc (rank o ps))

-- the number of an order of r axes
unfoldable pub number_of : ℕ → List ℕ → ℕ
number_of r o = rank o (orders r)
