-- A block of chunks turned. Assumes nothing: these are definitions.
use Rattle.std.specs.Prelude.{List, [], ◌∷◌, ℕ}
use Rattle.layout.specs.Layout.{Laid}

-- one block of m rows and n columns of chunks of w words is turned, each chunk as it is; words past it stay as they are
abbrev pub GridTurned : ℕ → ℕ → ℕ → List ℕ → List ℕ → Type 0
GridTurned m n w xs ys = Laid (m ∷ n ∷ w ∷ []) (1 ∷ 0 ∷ 2 ∷ []) xs ys
