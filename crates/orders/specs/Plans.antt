-- The plan of an order. Assumes nothing: these are definitions.
use Rattle.std.specs.Prelude.{cond, ◌≡◌, List, [], ◌∷◌, map, ℕ, zero, suc, ◌+◌, ◌<◌, ◌≤◌, ltb, eqb, length}
use Rattle.layout.specs.Layout.{place_of}
use Rattle.orders.specs.Chains.{named}

-- how many entries of a list are below a
unfoldable pub under : ℕ → List ℕ → ℕ
under a [] = 0
under a (b ∷ l) = cond (ltb b a) 1 0 + under a l

-- the pairs of places whose axes stand in falling order, counted
unfoldable pub falling : List ℕ → ℕ
falling [] = 0
falling (a ∷ l) = under a l + falling l

-- one chain comes before another in dictionary order, or is that other
pub data Sooner : List ℕ → List ℕ → Type 0 where
  ends : {d : List ℕ} → Sooner [] d
  less : {j k : ℕ} {c d : List ℕ} → j < k → Sooner (j ∷ c) (k ∷ d)
  then : {k : ℕ} {c d : List ℕ} → Sooner c d → Sooner (k ∷ c) (k ∷ d)

-- the plan of an order of r axes: the shortest chain that names it and, among the shortest, the first in dictionary order
pub record Plan (r : ℕ) (o chain : List ℕ) : Type 0 where
  pub names : named r chain ≡ o
  pub shortest : (d : List ℕ) → named r d ≡ o → length chain ≤ length d
  pub first : (d : List ℕ) → named r d ≡ o → length d ≡ length chain → Sooner chain d

-- the label a once the labels k and k + 1 are exchanged
unfoldable pub relabelled : ℕ → ℕ → ℕ
relabelled k a = cond (eqb a k) (suc k) (cond (eqb a (suc k)) k a)

-- the least label from k on, among the next n, whose follower stands before it
unfoldable pub first_back : ℕ → ℕ → List ℕ → ℕ
first_back zero k o = k
first_back (suc n) k o = cond (ltb (place_of (suc k) o) (place_of k o)) k (first_back n (suc k) o)

-- n swaps of the plan, computed: the first is the least k for which axis k + 1 stands before axis k,
-- the rest are the plan of the order with the labels k and k + 1 exchanged
unfoldable pub planned : ℕ → List ℕ → List ℕ
planned zero o = []
planned (suc n) o = let k = first_back (length o) 0 o in k ∷ planned n (map (relabelled k) o)

-- the plan of an order, computed
unfoldable pub plan_of : List ℕ → List ℕ
plan_of o = planned (falling o) o

-- the most swaps that the plan of an order of r axes has, as many as there are pairs of places: for four axes six
abbrev pub plan_places : ℕ → ℕ
plan_places zero = 0
plan_places (suc r) = r + plan_places r
