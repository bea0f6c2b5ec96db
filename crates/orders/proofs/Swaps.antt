-- What one swap keeps of a list, and what the code of a swap stores. By induction on the place of the swap.
use Rattle.lists.proofs.Kit.{◌≡◌, refl, ap, List, [], ◌∷◌, map, ℕ, zero, suc, ◌+◌, ◌<◌, ◌≤◌, not-suc-le-zero, le_of_suc-le-suc, mul_left_comm, add-one, length, get_or, set}
use Rattle.layout.specs.Layout.{volume, pick, Below}
use Rattle.layout.specs.Layout.Below.{empty, next}
use Rattle.orders.specs.Chains.{exchange}

-- the same swap twice
pub exchange-exchange : (k : ℕ) (l : List ℕ) → exchange k (exchange k l) ≡ l
unfolding exchange
exchange-exchange k [] = refl
exchange-exchange zero (a ∷ []) = refl
exchange-exchange zero (a ∷ b ∷ l) = refl
exchange-exchange (suc k) (a ∷ l) = ap (λ (t : List ℕ). a ∷ t) (exchange-exchange k l)

pub length-exchange : (k : ℕ) (l : List ℕ) → length (exchange k l) ≡ length l
unfolding exchange
length-exchange k [] = refl
length-exchange zero (a ∷ []) = refl
length-exchange zero (a ∷ b ∷ l) = refl
length-exchange (suc k) (a ∷ l) = ap suc (length-exchange k l)

pub map-exchange : (f : ℕ → ℕ) (k : ℕ) (l : List ℕ) → map f (exchange k l) ≡ exchange k (map f l)
unfolding exchange
map-exchange f k [] = refl
map-exchange f zero (a ∷ []) = refl
map-exchange f zero (a ∷ b ∷ l) = refl
map-exchange f (suc k) (a ∷ l) = ap (λ (t : List ℕ). f a ∷ t) (map-exchange f k l)

pub pick-exchange : (k : ℕ) (o l : List ℕ) → pick (exchange k o) l ≡ exchange k (pick o l)
unfolding pick
pick-exchange k o l = map-exchange (λ a. get_or l a 0) k o

pub volume-exchange : (k : ℕ) (l : List ℕ) → volume (exchange k l) ≡ volume l
unfolding exchange volume
volume-exchange k [] = refl
volume-exchange zero (a ∷ []) = refl
volume-exchange zero (a ∷ b ∷ l) = mul_left_comm b a (volume l)
volume-exchange (suc k) (a ∷ l) = rw (volume-exchange k l)

pub below_exchange : {n : ℕ} (k : ℕ) {l : List ℕ} → Below n l → Below n (exchange k l)
unfolding exchange
below_exchange k empty = empty
below_exchange zero (next a empty) = next a empty
below_exchange zero (next a (next b t)) = next b (next a t)
below_exchange (suc k) (next a t) = next a (below_exchange k t)

-- a swap past the end changes nothing
pub exchange-past : (k : ℕ) (l : List ℕ) → length l ≤ suc k → exchange k l ≡ l
unfolding exchange
exchange-past k [] h = refl
exchange-past zero (a ∷ []) h = refl
exchange-past zero (a ∷ b ∷ l) h = absurd (not-suc-le-zero (le_of_suc-le-suc h))
exchange-past (suc k) (a ∷ l) h = ap (λ (t : List ℕ). a ∷ t) (exchange-past k l (le_of_suc-le-suc h))

exchange_stores : (k : ℕ) (l : List ℕ) → suc k < length l → exchange k l ≡ set (set l k (get_or l (suc k) 0)) (suc k) (get_or l k 0)
unfolding exchange
exchange_stores k [] h = absurd (not-suc-le-zero h)
exchange_stores zero (a ∷ []) h = absurd (not-suc-le-zero (le_of_suc-le-suc h))
exchange_stores zero (a ∷ b ∷ l) h = refl
exchange_stores (suc k) (a ∷ l) h = ap (λ (t : List ℕ). a ∷ t) (exchange_stores k l (le_of_suc-le-suc h))

-- a swap within the list is two stores
pub exchange-set : (k : ℕ) (l : List ℕ) → k + 1 < length l → exchange k l ≡ set (set l k (get_or l (k + 1) 0)) (k + 1) (get_or l k 0)
exchange-set k l h = rw (add-one k) (exchange_stores k l (rw (add-one k) at h))
