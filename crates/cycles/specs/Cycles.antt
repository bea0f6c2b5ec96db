-- The cycles of a turn, listed: for each the offset that it starts at and its length. Assumes nothing: these are definitions.
use Rattle.std.specs.Prelude.{◌≡◌, Bool, cond, List, [], ◌∷◌, ◌⊎◌, ℕ, zero, suc, ◌*◌, ◌-◌, ◌<◌, ◌≤◌, eqb, ltb, take, drop}
use Rattle.cycles.specs.Orbit.{iter, Period, first, period}
use Rattle.cycles.specs.Sent.{goes}

-- where the turn of m by n takes the word at offset x: below mn − 1 to x·m modulo mn − 1; the last offset stays, also in a block of one word
unfoldable pub takes : ℕ → ℕ → ℕ → ℕ
takes m n x = cond (ltb x (m * n - 1)) (goes m n x) x

-- whether x is the least number of its cycle: f, applied less than N times, never brings it to a smaller one
unfoldable pub is_least : (ℕ → ℕ) → ℕ → ℕ → Bool
is_least f N x = eqb (first N (λ h. ltb (iter f h x) x)) N

-- of the count numbers from x on, each that is the least of its cycle, in rising order, with the length of its cycle
unfoldable pub cycles_from : (ℕ → ℕ) → ℕ → ℕ → ℕ → List ℕ
cycles_from f N x zero = []
cycles_from f N x (suc count) =
    cond (is_least f N x) (x ∷ period f N x ∷ cycles_from f N (suc x) count) (cycles_from f N (suc x) count)

-- the right list of a turn of m by n: start, length, start, length, every cycle of its mn offsets once, single offsets included
unfoldable pub cycles : ℕ → ℕ → List ℕ
cycles m n = cycles_from (takes m n) (m * n) 0 (m * n)

-- the pair at a place, from 0, of a flat list: one word where it is half, none where it is missing
abbrev pub pair_at : ℕ → List ℕ → List ℕ
pair_at k l = take 2 (drop (2 * k) l)

-- the pair at place p is the first that differs between two flat lists
pub record FirstOther (given right : List ℕ) (p : ℕ) : Type 0 where
  pub before : (k : ℕ) → k < p → pair_at k given ≡ pair_at k right
  pub here : pair_at p given ≡ pair_at p right → ⊥

-- the pair at place k of a flat list is start and count
abbrev pub Pair : List ℕ → ℕ → ℕ → ℕ → Type 0
Pair list k start count = pair_at k list ≡ start ∷ count ∷ []

-- a flat list of pairs in the words of the request: every cycle of the numbers below N once, each start being the cycle's least number,
-- starts rising, lengths right, and no half pair
pub record EveryCycleOnce (f : ℕ → ℕ) (N : ℕ) (list : List ℕ) : Type 0 where
  pub whole : (k : ℕ) → (pair_at k list ≡ []) ⊎ ((start count : ℕ) × Pair list k start count)
  pub within : (k start count : ℕ) → Pair list k start count → start < N
  pub least : (k start count : ℕ) → Pair list k start count → (h : ℕ) → start ≤ iter f h start
  pub lengths : (k start count : ℕ) → Pair list k start count → Period f start count
  pub rising : (j k start count start' count' : ℕ) → j < k → Pair list j start count → Pair list k start' count' → start < start'
  pub every : (x : ℕ) → x < N → (k start count h : ℕ) × Pair list k start count × (iter f h start ≡ x)
