-- These definitions serve only the contracts of private functions: a reader of the promises can pass over them.
-- A block of chunks that is turned along the cycles of its turn, two mirrored ones at a time, and what the marks tell meanwhile.
use Rattle.std.specs.Prelude.{◌≡◌, Bool, true, false, List, ℕ, ◌+◌, ◌*◌, ◌-◌, ◌/◌, ◌%◌, ◌^◌, ◌<◌, ◌≤◌, min, eqb, length, get_or}
use Rattle.cycles.specs.Cycles.{takes}
use Rattle.grids.specs.declared.grid.Grid.{Grid}

-- the place that lies as far from the end of count places as x from their beginning
abbrev pub mirror : ℕ → ℕ → ℕ
mirror count x = count - 1 - x

-- the lesser of a place and its mirrored one: it stands for both
abbrev pub fold : ℕ → ℕ → ℕ
fold count x = min x (mirror count x)

-- so many places stand for all: half of them, and the one in the middle
abbrev pub half : ℕ → ℕ
half count = (count + 1) / 2

-- where the turn takes a place and its mirrored one
abbrev pub pairs : ℕ → ℕ → ℕ → ℕ
pairs m n x = fold (m * n) (takes m n x)

-- whether a place is marked: its bit of its word is 1
unfoldable pub bit_at : List ℕ → ℕ → Bool
bit_at marks place = eqb (get_or marks (place / 32) 0 / 2 ^ (place % 32) % 2) 1

-- a place is marked, every other is as it was
pub record MarkedToo (place : ℕ) (before after : List ℕ) : Type 0 where
  pub same : length after ≡ length before
  pub here : bit_at after place ≡ true
  pub others : (q : ℕ) → (q ≡ place → ⊥) → bit_at after q ≡ bit_at before q

-- the chunks of a grid lie in the words
pub record Fits (g : Grid) (xs : List ℕ) : Type 0 where
  pub inside : g.n * g.m * g.chunk ≤ length xs

-- a place is marked where its source is
abbrev pub Level : (ℕ → ℕ) → ℕ → List ℕ → Type 0
Level source places marks = (p : ℕ) → p < places → bit_at marks (source p) ≡ bit_at marks p

-- a word lies outside the chunks
abbrev pub Beside : ℕ → ℕ → ℕ → Type 0
Beside places w k = (p u : ℕ) → p < places → u < w → k ≡ p * w + u → ⊥

-- the chunks of place p and of its mirrored one wait, at 0 and at 80
pub record Waiting (places w p : ℕ) (ys kept : List ℕ) : Type 0 where
  pub here : (u : ℕ) → u < w → get_or kept (0 + u) 0 ≡ get_or ys (p * w + u) 0
  pub there : (u : ℕ) → u < w → get_or kept (80 + u) 0 ≡ get_or ys (mirror places p * w + u) 0

-- the chunks of place p and of its mirrored one hold these values; every other word stands
pub record BothHold (places w p : ℕ) (value mirrored : ℕ → ℕ) (ys zs : List ℕ) : Type 0 where
  pub same : length zs ≡ length ys
  pub here : (u : ℕ) → u < w → get_or zs (p * w + u) 0 ≡ value u
  pub there : (u : ℕ) → u < w → get_or zs (mirror places p * w + u) 0 ≡ mirrored u
  pub stand : (q u : ℕ) → u < w → (q ≡ p → ⊥) → (q ≡ mirror places p → ⊥) → get_or zs (q * w + u) 0 ≡ get_or ys (q * w + u) 0
  pub others : (k : ℕ) → Beside places w k → get_or zs k 0 ≡ get_or ys k 0

-- place p has the chunk that place x had, and its mirrored place that of the mirrored x; every other word stands
abbrev pub BothFrom : ℕ → ℕ → ℕ → ℕ → List ℕ → List ℕ → Type 0
BothFrom places w p x ys zs = BothHold places w p (λ u. get_or ys (x * w + u) 0) (λ u. get_or ys (mirror places x * w + u) 0) ys zs

-- places p and x have traded their chunks, and so have their mirrored places; every other word stands
pub record BothTraded (places w p x : ℕ) (ys zs : List ℕ) : Type 0 where
  pub same : length zs ≡ length ys
  pub here : (u : ℕ) → u < w → get_or zs (p * w + u) 0 ≡ get_or ys (x * w + u) 0
  pub there : (u : ℕ) → u < w → get_or zs (mirror places p * w + u) 0 ≡ get_or ys (mirror places x * w + u) 0
  pub back : (u : ℕ) → u < w → get_or zs (x * w + u) 0 ≡ get_or ys (p * w + u) 0
  pub back_there : (u : ℕ) → u < w → get_or zs (mirror places x * w + u) 0 ≡ get_or ys (mirror places p * w + u) 0
  pub stand : (q u : ℕ) → u < w → (q ≡ p → ⊥) → (q ≡ mirror places p → ⊥) → (q ≡ x → ⊥) → (q ≡ mirror places x → ⊥)
      → get_or zs (q * w + u) 0 ≡ get_or ys (q * w + u) 0
  pub others : (k : ℕ) → Beside places w k → get_or zs k 0 ≡ get_or ys k 0

-- place p and its mirrored one have traded their chunks where x is not the first place, else nothing has changed
pub record Crossed (places w p x first : ℕ) (ys zs : List ℕ) : Type 0 where
  pub straight : x ≡ first → zs ≡ ys
  pub across : (x ≡ first → ⊥)
      → BothHold places w p (λ u. get_or ys (mirror places p * w + u) 0) (λ u. get_or ys (p * w + u) 0) ys zs

-- a place of a marked pair has the chunk that its source had, one of a pair that is not marked has its own; words outside the chunks stand
pub record Settled (n m w : ℕ) (xs marks ys : List ℕ) : Type 0 where
  pub same : length ys ≡ length xs
  pub gone : (p u : ℕ) → p < n * m → u < w → bit_at marks (fold (n * m) p) ≡ true → get_or ys (p * w + u) 0 ≡ get_or xs (takes n m p * w + u) 0
  pub stand : (p u : ℕ) → p < n * m → u < w → bit_at marks (fold (n * m) p) ≡ false → get_or ys (p * w + u) 0 ≡ get_or xs (p * w + u) 0
  pub others : (k : ℕ) → Beside (n * m) w k → get_or ys k 0 ≡ get_or xs k 0

-- the chunks on the cycle of `first` and on the mirrored one have gone along them, and their pairs are marked
pub record Toured (n m w first : ℕ) (ys marks zs marked : List ℕ) : Type 0 where
  pub settled : (xs : List ℕ) → Settled n m w xs marks ys → Settled n m w xs marked zs
  pub same : length zs ≡ length ys
  pub same_marks : length marked ≡ length marks
  pub level : Level (pairs n m) (half (n * m)) marked
  pub here : bit_at marked first ≡ true
  pub kept : (q : ℕ) → bit_at marks q ≡ true → bit_at marked q ≡ true

-- every place has the chunk of its source; words outside the chunks stand
pub record Arrived (n m w : ℕ) (xs ys : List ℕ) : Type 0 where
  pub same : length ys ≡ length xs
  pub gone : (p u : ℕ) → p < n * m → u < w → get_or ys (p * w + u) 0 ≡ get_or xs (takes n m p * w + u) 0
  pub others : (k : ℕ) → Beside (n * m) w k → get_or ys k 0 ≡ get_or xs k 0
