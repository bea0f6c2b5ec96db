-- Shifts, one a camera, and the frames that are common to all. Assumes nothing: these are definitions.
use Rattle.std.specs.Prelude.{cond, List, [], ◌∷◌, ℕ, ◌<◌, length, ℤ, pos, ◌+ℤ◌, ◌≤ℤ◌, ◌<ℤ◌}
use Rattle.std.specs.Int.Signed.{lt_z}
use Rattle.desk.specs.Exchange.{reading}

-- the higher of two
abbrev pub higher_of : ℤ → ℤ → ℤ
higher_of a b = cond (lt_z a b) b a

-- the lower of two
abbrev pub lower_of : ℤ → ℤ → ℤ
lower_of a b = cond (lt_z b a) b a

-- m, taken through a run by f
unfoldable pub through : (ℤ → ℤ → ℤ) → ℤ → List ℤ → ℤ
through f m [] = m
through f m (z ∷ zs) = through f (f m z) zs

-- the largest shift
abbrev pub largest : List ℤ → ℤ
largest shifts = through higher_of (reading shifts 0) shifts

-- the smallest shift
abbrev pub smallest : List ℤ → ℤ
smallest shifts = through lower_of (reading shifts 0) shifts

-- the smallest shift plus F: the common frames run up to it, not including it
abbrev pub end_of : List ℤ → ℕ → ℤ
end_of shifts frames = smallest shifts +ℤ pos frames

-- a frame is common to all: each camera has it, from its shift up to, not including, its shift plus F
abbrev pub Common : List ℤ → ℕ → ℤ → Type 0
Common shifts frames f = (k : ℕ) → k < length shifts → (reading shifts k ≤ℤ f) × (f <ℤ (reading shifts k +ℤ pos frames))
