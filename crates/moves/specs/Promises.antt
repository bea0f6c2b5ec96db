-- What the calls that move words promise: where the words named lie in their buffers the move is made, else nothing has changed. Assumes nothing:
-- these are definitions.
use Rattle.std.specs.Prelude.{◌≡◌, List, ◌⊎◌, ℕ, ◌+◌, ◌≤◌, length, get_or}
use Rattle.moves.specs.Stretch.{Stretch, Traded}

-- where the condition holds the words are right, else not one has changed
pub record Where (Fits : Type 0) (Right : List ℕ → Type 0) (before after : List ℕ) : Type 0 where
  pub inside : Fits → Right after
  pub kept : (Fits → ⊥) → after ≡ before

-- count words that go from one offset to another go to a place before them or apart from them
abbrev pub Ahead : ℕ → ℕ → ℕ → Type 0
Ahead to from count = (to ≤ from) ⊎ (from + count ≤ to)

-- two runs of count words lie apart
abbrev pub Apart : ℕ → ℕ → ℕ → Type 0
Apart x y count = (x + count ≤ y) ⊎ (y + count ≤ x)

-- word to + u of the buffer receives word from + u of the other one, where both runs lie inside
abbrev pub CopyPromise : ℕ → ℕ → ℕ → List ℕ → List ℕ → List ℕ → Type 0
CopyPromise to from count other before =
    Where ((to + count ≤ length before) × (from + count ≤ length other)) (Stretch to count (λ u. get_or other (from + u) 0) before) before

-- word to + u receives what word from + u held, where both runs lie inside and the words go to a place before them or apart from them
abbrev pub FallPromise : ℕ → ℕ → ℕ → List ℕ → List ℕ → Type 0
FallPromise to from count before =
    Where ((to + count ≤ length before) × (from + count ≤ length before) × Ahead to from count) (Stretch to count (λ u. get_or before (from + u) 0) before) before

-- the same where the two runs lie apart
abbrev pub HandPromise : ℕ → ℕ → ℕ → List ℕ → List ℕ → Type 0
HandPromise to from count before =
    Where ((to + count ≤ length before) × (from + count ≤ length before) × Apart to from count) (Stretch to count (λ u. get_or before (from + u) 0) before) before

-- the same where the words go to a place after them
abbrev pub RisePromise : ℕ → ℕ → ℕ → List ℕ → List ℕ → Type 0
RisePromise to from count before = Where ((from ≤ to) × (to + count ≤ length before)) (Stretch to count (λ u. get_or before (from + u) 0) before) before

-- count words are zero
abbrev pub ZeroPromise : ℕ → ℕ → List ℕ → List ℕ → Type 0
ZeroPromise from count before = Where (from + count ≤ length before) (Stretch from count (λ u. 0) before) before

-- two runs of count words trade places, where they lie inside and apart
abbrev pub TradePromise : ℕ → ℕ → ℕ → List ℕ → List ℕ → Type 0
TradePromise x y count before =
    Where ((x + count ≤ length before) × (y + count ≤ length before) × Apart x y count) (Traded x y count before) before
