-- How long the axes are that a chain exchanges. Assumes nothing: these are definitions.
use Rattle.std.specs.Prelude.{List, [], ◌∷◌, ℕ, zero, suc, max}
use Rattle.orders.specs.Chains.{exchange}
use Rattle.orders.specs.Releases.{order_by}
use Rattle.orders.specs.Plans.{plan_of}

-- the longer of the two axes that swap k exchanges; 0 where the shape does not have these places
unfoldable pub swap_need : ℕ → List ℕ → ℕ
swap_need k [] = 0
swap_need zero (a ∷ []) = 0
swap_need zero (a ∷ b ∷ l) = max a b
swap_need (suc k) (a ∷ l) = swap_need k l

-- the need of a chain: the largest length among the axes that its swaps exchange, each in the shape as it then stands; an empty chain needs nothing
unfoldable pub chain_need : List ℕ → List ℕ → ℕ
chain_need ds [] = 0
chain_need ds (k ∷ chain) = max (swap_need k ds) (chain_need (exchange k ds) chain)

-- a direct request for the order of r axes that a number names by its release needs what its plan needs
abbrev pub plan_need : ℕ → List ℕ → ℕ → ℕ → ℕ
plan_need r ds release k = chain_need ds (plan_of (order_by r release k))
