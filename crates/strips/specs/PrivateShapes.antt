-- These definitions serve only the contracts of private functions: a reader of the promises can pass over them.
-- What a block is by its shape. Assumes nothing: these are definitions.
use Rattle.std.specs.Prelude.{◌≡◌, List, ◌⊎◌, ℕ, ◌*◌, ◌<◌, ◌≤◌, length}
use Rattle.grids.specs.Grids.{GridTurned}
use Rattle.strips.specs.PrivateSteps.{BlocksTurned}
use Rattle.strips.specs.declared.shape.Shape.{Shape}

-- the words of a block
abbrev pub size : Shape → ℕ
size s = s.m * s.n * s.g

-- a block has one row or one column
abbrev pub Line : Shape → Type 0
Line s = (s.m ≡ 1) ⊎ (s.n ≡ 1)

-- so many blocks of one shape lie in the words one after the other
abbrev pub Inside : ℕ → Shape → List ℕ → Type 0
Inside y s xs = y * size s ≤ length xs

-- a line has at most 64 words, or elements are long and few enough for a grid
abbrev pub Short : Shape → Type 0
Short s = ((s.m * s.g ≤ 64) ⊎ (s.n * s.g ≤ 64)) ⊎ ((8 ≤ s.g) × (s.m * s.n ≤ 65536))

-- elements are short, and lines have more than 64 words both ways
pub record Large (s : Shape) : Type 0 where
  pub light : s.g ≤ 31
  pub rows : 64 < s.m * s.g
  pub columns : 64 < s.n * s.g

-- the block that the words begin with is turned
abbrev pub Turned : Shape → List ℕ → List ℕ → Type 0
Turned s xs ys = GridTurned s.m s.n s.g xs ys

-- so many blocks one after the other are turned where they lie
abbrev pub AllTurned : ℕ → Shape → List ℕ → List ℕ → Type 0
AllTurned y s xs ys = BlocksTurned y s.m s.n s.g xs ys
